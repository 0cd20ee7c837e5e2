-- The lines that the program prints, as bytes, each ended by `newline`. Assumes nothing.
use Rattle.std.specs.Prelude.{cond, List, [], ◌∷◌, ◌++◌, ℕ, zero, suc, ◌+◌, ◌/◌, ◌%◌, ltb}
use Rattle.ctl.specs.Verdict.{Verdict, open', unsatisfiable}
use Rattle.layout.specs.Ascii.{ascii}

-- the digits of n, as many as it has, and never more than `most` of them: the last one, behind those of a tenth. The `let` keeps these from being looked at where there are none
unfoldable pub digits : ℕ → ℕ → List ℕ
digits zero n = []
digits (suc most) n = let tenth = digits most (n / 10) in cond (ltb n 10) [] tenth ++ ((48 + n % 10) ∷ [])

-- a number in decimal digits: it has at most one more than itself
unfoldable pub decimal : ℕ → List ℕ
unfolding digits
decimal n = digits (suc n) n

-- a number and a space
unfoldable pub spaced : ℕ → List ℕ
unfolding decimal
spaced n = decimal n ++ ascii " "

unfoldable pub heading_line : List ℕ → List ℕ
heading_line newline = ascii "naming start left rounds" ++ newline

-- a naming's number, its types at start, those left, and the rounds
unfoldable pub naming_line : ℕ → ℕ → ℕ → ℕ → List ℕ → List ℕ
unfolding spaced
naming_line r start left rounds newline = spaced r ++ spaced start ++ spaced left ++ decimal rounds ++ newline

unfoldable pub verdict_heading : List ℕ → List ℕ
verdict_heading newline = ascii "verdict naming type" ++ newline

-- the least naming and its least goal type, or that there is none
unfoldable pub verdict_line : Verdict → List ℕ → List ℕ
unfolding spaced
verdict_line (open' r t) newline = ascii "open " ++ spaced r ++ decimal t ++ newline
verdict_line unsatisfiable newline = ascii "unsatisfiable - -" ++ newline

-- the only line of a refused sheet
unfoldable pub refused_line : ℕ → List ℕ → List ℕ
unfolding decimal
refused_line k newline = ascii "refused " ++ decimal k ++ newline

-- lines, one after the other
abbrev pub joined : List (List ℕ) → List ℕ
joined [] = []
joined (l ∷ ls) = l ++ joined ls

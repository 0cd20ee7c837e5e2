-- What the program prints of a sheet under some limits: its lines, and the text that they make. Assumes nothing.
use Rattle.std.specs.Prelude.{List, [], ◌∷◌, ◌++◌, map, ℕ, zero, suc, length, take}
use Rattle.ctl.specs.Lists.{below}
use Rattle.ctl.specs.Tableau.{namings, start_types}
use Rattle.ctl.specs.Verdict.{rounds_of, surviving_types}
use Rattle.limits.specs.declared.Limits.{Limits}
use Rattle.limits.specs.Limits.{refusal_under}
use Rattle.prepare.specs.Prepared.{tableau_in}
use Rattle.fitted.specs.Accepted.{verdict_in}
use Rattle.lines.specs.Lines.{joined, heading_line, naming_line, refused_line, verdict_heading, verdict_line}

-- the line of naming r: how many types there are at start, how many survive (document 01's left), and the rounds
unfoldable pub naming_of : List ℕ → List ℕ → ℕ → List ℕ
naming_of s newline r = naming_line r (length (start_types (tableau_in s) r)) (length (surviving_types (tableau_in s) r)) (rounds_of (tableau_in s) r) newline

-- the lines, where the refusal is k: that alone; or the heading, a line for each naming, and the verdict under its heading
abbrev pub lines_by : List ℕ → List ℕ → ℕ → List (List ℕ)
lines_by s newline zero = heading_line newline ∷ (map (naming_of s newline) (below (namings (tableau_in s))) ++ (verdict_heading newline ∷ verdict_line (verdict_in s) newline ∷ []))
lines_by s newline (suc k) = refused_line (suc k) newline ∷ []

unfoldable pub lines_of : Limits → List ℕ → List ℕ → List (List ℕ)
unfolding refusal_under
lines_of l s newline = lines_by s newline (refusal_under l s)

unfoldable pub text_of : Limits → List ℕ → List ℕ → List ℕ
unfolding lines_of
text_of l s newline = joined (lines_of l s newline)

-- the text of the first n lines
abbrev pub up_to : ℕ → List (List ℕ) → List ℕ
up_to n ls = joined (take n ls)

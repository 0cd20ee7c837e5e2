-- The spelling of a symbol, 1 to 8 lower-case letters, and the same letters as one number. Assumes nothing: these are definitions.
use Rattle.std.specs.Prelude.{Bool, cond, ◌&&◌, List, [], ◌∷◌, ℕ, suc, ◌+◌, ◌*◌, ◌/◌, ◌%◌, length, take, leb, eqb}

-- a lower-case letter
abbrev pub lower : ℕ → Bool
lower b = leb 97 b && leb b 122

-- how many lower-case letters a list begins with
unfoldable pub run : List ℕ → ℕ
run [] = 0
run (b ∷ r) = cond (lower b) (suc (run r)) 0

-- 1 to 8 lower-case letters, and nothing else
unfoldable pub spelled : List ℕ → Bool
unfolding run
spelled w = leb 1 (length w) && leb (length w) 8 && eqb (run w) (length w)

-- letters as one number, a byte each, the first letter lowest
unfoldable pub word : List ℕ → ℕ
word [] = 0
word (b ∷ r) = b + 256 * word r

-- and back: the letters of a number, at most so many
unfoldable pub letters_from : ℕ → ℕ → List ℕ
letters_from ℕ.zero x = []
letters_from (suc f) x = cond (eqb x 0) [] (x % 256 ∷ letters_from f (x / 256))

-- a 64-bit word has room for 8
abbrev pub letters_of : ℕ → List ℕ
letters_of x = letters_from 8 x

-- The entry of a spelling's number in the declarations, which are 16 numbers: 1 + its first place, 0 where it has none. 0 is no spelling's number, and has no entry
unfoldable pub entry_from : ℕ → ℕ → List ℕ → ℕ
entry_from i x [] = 0
entry_from i x (y ∷ r) = cond (eqb y x) (suc i) (entry_from (suc i) x r)

unfoldable pub entry_in : List ℕ → ℕ → ℕ
unfolding entry_from
entry_in decl x = cond (eqb x 0) 0 (entry_from 0 x (take 16 decl))

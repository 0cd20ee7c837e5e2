-- A list of 64-bit words as a set of numbers: number j is bit j mod 64 of word j div 64. Assumes nothing.
use Rattle.std.specs.Prelude.{ℕ, zero, suc, ◌+◌, ◌*◌, ◌/◌, ◌%◌, Bool, ◌&&◌, not, List, get_or, set}
use Rattle.wordset.specs.Word.{bit, word_of}

-- number j is in the set
unfoldable pub member : List ℕ → ℕ → Bool
member ws j = bit (get_or ws (j / 64) 0) (j % 64)

-- the list with g 0 to g (w - 1) as its first w elements, and the others as they were
unfoldable pub filled : ℕ → (ℕ → ℕ) → List ℕ → List ℕ
filled zero g d = d
filled (suc w) g d = set (filled w g d) w (g w)

-- the list whose first w words hold the numbers below 64 * w of which P holds, and the others as they were
abbrev pub packed : ℕ → (ℕ → Bool) → List ℕ → List ℕ
packed w P d = filled w (λ i. word_of 64 (λ b. P (i * 64 + b))) d

-- the first w words hold the numbers that are in d and not in s
abbrev pub minus : ℕ → List ℕ → List ℕ → List ℕ
minus w d s = packed w (λ j. member d j && not (member s j)) d

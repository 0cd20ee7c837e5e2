-- Modes: m below 8 goes forward along field m, 8 + m backward. A set of modes is the sum of 2 ^ m over its modes m. Assumes nothing.
use Rattle.std.specs.Prelude.{Bool, List, [], ◌∷◌, ℕ, ◌^◌, eqb}
use Rattle.ctl.specs.Lists.{any_of, keep}
use Rattle.ctl.specs.Numbers.{has_bit}

abbrev pub has_mode : ℕ → ℕ → Bool
has_mode A m = has_bit A m

abbrev pub all_modes : List ℕ
all_modes = 0 ∷ 1 ∷ 2 ∷ 3 ∷ 4 ∷ 5 ∷ 6 ∷ 7 ∷ 8 ∷ 9 ∷ 10 ∷ 11 ∷ 12 ∷ 13 ∷ 14 ∷ 15 ∷ []

-- the modes of a set, in the canonical order: forward in line 1 order, then backward
unfoldable pub modes : ℕ → List ℕ
modes A = keep (has_mode A) all_modes

-- a set of one mode
unfoldable pub single : ℕ → Bool
single A = any_of (λ m. eqb A (2 ^ m)) all_modes

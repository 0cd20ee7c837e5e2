-- How the types that are linked to a set are found: the sets of entries in which its types refuse. Assumes nothing.
use Rattle.std.specs.Prelude.{◌≡◌, true, ◌&&◌, List, ℕ, ◌*◌, ◌<◌}
use Rattle.wordset.specs.Word.{bit}
use Rattle.wordset.specs.Words.{member}
use Rattle.truth.specs.Blocks.{has}

-- r is what q refuses: of the entries a, those that have it
abbrev pub RefusedBy : ℕ → List ℕ → ℕ → ℕ → ℕ → Type 0
RefusedBy w cw a q r = (c : ℕ) → bit r c ≡ (bit a c && has w cw c q)

-- r is what some member of the set refuses
pub record Refused (w : ℕ) (cw : List ℕ) (a : ℕ) (set : List ℕ) (r : ℕ) : Type 0 where
  pub who : ℕ
  pub below : who < w * 64
  pub inside : member set who ≡ true
  pub is : RefusedBy w cw a who r

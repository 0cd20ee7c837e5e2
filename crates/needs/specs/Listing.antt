-- How the needs are listed. Assumes nothing.
use Rattle.std.specs.Prelude.{◌≡◌, Bool, true, List, ℕ, ◌+◌, ◌^◌, ◌≤◌, ◌<◌, length, get_or}
use Rattle.wordset.specs.Below.{any_below}
use Rattle.members.specs.Members.{arg_w, tag_w}
use Rattle.needs.specs.NeedWords.{field_need, need_of}
use Rattle.needs.specs.Needs.{Need, ex_over}

-- a member that has a need of its own
pub data Own (x : ℕ) : Type 0 where
  by_mode : (m : ℕ) → 8 ≤ m → m < 16 → tag_w x ≡ 6 → arg_w x ≡ 2 ^ m → Own x
  by-until : 8 ≤ tag_w x → tag_w x ≤ 9 → Own x

-- the answer b to whether it has one
pub record Asks (x : ℕ) (b : Bool) : Type 0 where
  pub on : b ≡ true → Own x
  pub all : Own x → b ≡ true

-- x is one of the first r
abbrev pub Within : List ℕ → ℕ → ℕ → Type 0
Within ns r x = (j : ℕ) × (j < r) × (get_or ns j 0 ≡ x)

-- the first r are needs, and have those of the fields below f and of the members below i
pub record SoFar (ms ns : List ℕ) (f i r : ℕ) : Type 0 where
  pub few : r ≤ f + i
  pub only : (j : ℕ) → j < r → Need ms (get_or ns j 0)
  pub fields : (g : ℕ) → g < f → any_below (length ms) (ex_over ms g) ≡ true → Within ns r (field_need (length ms) g)
  pub members : (k : ℕ) → k < i → Own (get_or ms k 0) → Within ns r (need_of ms k)

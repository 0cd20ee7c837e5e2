-- A table of members with the values that do not occur among them. Assumes nothing.
use Rattle.std.specs.Prelude.{◌≡◌, Bool, List, map, ℕ, ◌+◌, ◌≤◌, eqb, length, get_or, take, drop}
use Rattle.ctl.specs.Formula.{Form, lit}
use Rattle.ctl.specs.Snapshot.{values_of}
use Rattle.members.specs.Grown.{Grows}

-- symbol k is a value, by the symbols' kinds
abbrev pub is_value : List ℕ → ℕ → Bool
is_value kinds k = eqb (get_or kinds k 0) 4

-- the values among so many symbols, as formulas
abbrev pub value_forms : List ℕ → List Form
value_forms kinds = map lit (values_of (is_value kinds) (length kinds))

-- the table of n members in tab became that of m members in tab', with the formulas of l, no more of them than are in l; what stands behind the members is as it was
pub record Extended (l : List Form) (tab : List ℕ) (n : ℕ) (tab' : List ℕ) (m : ℕ) : Type 0 where
  pub up : n ≤ m
  pub few : m ≤ n + length l
  pub room : m ≤ length tab'
  pub grows : Grows (take n tab) (take m tab') l
  pub behind : drop m tab' ≡ drop m tab

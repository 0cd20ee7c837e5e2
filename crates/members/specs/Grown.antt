-- What stands in a table of members, what a step adds to it, and that it has no room for what it should have. Assumes nothing.
use Rattle.std.specs.Prelude.{◌≡◌, List, ◌++◌, ℕ, ◌≤◌, ◌<◌, Option, Some, None, length, get_or, take, drop}
use Rattle.ctl.specs.Lists.{◌∈◌}
use Rattle.ctl.specs.Formula.{Form, tru}
use Rattle.ctl.specs.Sorting.{Unique}
use Rattle.members.specs.Members.{Members, forms}
use Rattle.members.specs.declared.Added.{Added}

-- a table that holds n members
pub record Ready (tab : List ℕ) (n : ℕ) : Type 0 where
  pub room : n ≤ length tab
  pub small : length tab ≤ 256
  pub members : Members (take n tab)

-- the table ws' is the table ws with the formulas of l
pub record Grows (ws ws' : List ℕ) (l : List Form) : Type 0 where
  pub members : Members ws'
  pub rest : List ℕ
  pub front : ws' ≡ ws ++ rest
  pub has : (p : Form) → p ∈ l → p ∈ forms ws'
  pub only : (p : Form) → p ∈ forms ws' → p ∈ forms ws ++ l

-- the first m words of the table are the formulas of l, each once
pub record Tabled (l : List Form) (tab : List ℕ) (m : ℕ) : Type 0 where
  pub room : m ≤ length tab
  pub members : Members (take m tab)
  pub unique : Unique l
  pub has : (p : Form) → p ∈ l → p ∈ forms (take m tab)
  pub only : (p : Form) → p ∈ forms (take m tab) → p ∈ l
  pub count : m ≡ length l

-- more than k different formulas are in l
pub record TooMany (k : ℕ) (l : List Form) : Type 0 where
  pub list : List Form
  pub unique : Unique list
  pub long : k < length list
  pub inside : (p : Form) → p ∈ list → p ∈ l

-- the table of n members in tab became that of m members in tab', with the formulas of l; the formula f is member i; what stands behind the members is as it was
pub record Done (tab : List ℕ) (n : ℕ) (tab' : List ℕ) (l : List Form) (f : Form) (i m : ℕ) : Type 0 where
  pub up : n ≤ m
  pub room : m ≤ length tab'
  pub grows : Grows (take n tab) (take m tab') l
  pub below : i < m
  pub is : get_or (forms (take m tab')) i tru ≡ f
  pub behind : drop m tab' ≡ drop m tab

-- the answer: where f stands, with how many members there are, or that they are more than the table has room for
pub data Answer (tab : List ℕ) (n : ℕ) (tab' : List ℕ) (l : List Form) (f : Form) : Option Added → Type 0 where
  added : {i m : ℕ} → Done tab n tab' l f i m → Answer tab n tab' l f (Some (record { index = i; count = m }))
  full : TooMany (length tab) (forms (take n tab) ++ l) → Answer tab n tab' l f None

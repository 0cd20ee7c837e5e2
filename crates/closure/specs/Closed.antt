-- The table of the closure of some formulas: what closing asks, and what it gives. Assumes nothing.
use Rattle.std.specs.Prelude.{◌≡◌, List, map, ℕ, ◌≤◌, ◌<◌, Option, Some, None, length, get_or, take, drop}
use Rattle.ctl.specs.Lists.{◌∈◌}
use Rattle.ctl.specs.Formula.{Form, tru}
use Rattle.ctl.specs.Raw.{Raw}
use Rattle.ctl.specs.Positive.{positive}
use Rattle.ctl.specs.Closure.{closure}
use Rattle.members.specs.Members.{forms}
use Rattle.members.specs.Grown.{Tabled}
use Rattle.closure.specs.Given.{Fits, Given}

-- what closing asks
pub record Closes (ns roots tab places : List ℕ) : Type 0 where
  pub few : length ns ≤ 1024
  pub roots-in : (j : ℕ) → j < length roots → get_or roots j 0 < length ns
  pub formulas : List Raw
  pub given : Given ns roots formulas
  pub fits : (p : Raw) → p ∈ formulas → Fits p
  pub small : length tab ≤ 256
  pub room : length roots ≤ length places

-- the first of `places` are the places of the formulas fs in the table
pub record Placed (fs : List Form) (tab places : List ℕ) (m : ℕ) : Type 0 where
  pub below : (j : ℕ) → j < length fs → get_or places j 0 < m
  pub at : (j : ℕ) → j < length fs → get_or (forms (take m tab)) (get_or places j 0) tru ≡ get_or fs j tru

-- The closure stands in the table and has as many members as it says, and what stands behind them and behind the places is as it was; or the closure has more members than there is room for.
pub data ClosedIs (fs : List Form) (tab tab' places places' : List ℕ) : Option ℕ → Type 0 where
  within : {m : ℕ} → Tabled (closure fs) tab' m → Placed fs tab' places' m → length tab' ≡ length tab → drop m tab' ≡ drop m tab → drop (length fs) places' ≡ drop (length fs) places → ClosedIs fs tab tab' places places' (Some m)
  beyond : length tab < length (closure fs) → length tab' ≡ length tab → length places' ≡ length places → ClosedIs fs tab tab' places places' None

-- what closing gives for whichever formulas stand at the roots
abbrev pub ClosedAs : List ℕ → List ℕ → List ℕ → List ℕ → List ℕ → List ℕ → Option ℕ → Type 0
ClosedAs ns roots tab tab' places places' r = (ps : List Raw) → Given ns roots ps → ClosedIs (map positive ps) tab tab' places places' r

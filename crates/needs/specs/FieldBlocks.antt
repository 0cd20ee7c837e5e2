-- How the blocks behind those of the members are found. Assumes nothing.
use Rattle.std.specs.Prelude.{◌≡◌, List, ℕ, ◌<◌, length}
use Rattle.ctl.specs.Modes.{has_mode}
use Rattle.wordset.specs.Below.{any_below}
use Rattle.needs.specs.Needs.{ex_over}

-- the set a has the fields over which there is an EX
pub record ExFields (ms : List ℕ) (a : ℕ) : Type 0 where
  pub is : (f : ℕ) → f < 8 → has_mode a f ≡ any_below (length ms) (ex_over ms f)

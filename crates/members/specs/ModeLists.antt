-- A set of modes as a list, taken apart from its lowest bit. Assumes nothing.
use Rattle.std.specs.Prelude.{List, [], ℕ, zero, suc, ◌-◌, ◌/◌, ◌%◌, eqb}
use Rattle.ctl.specs.Lists.{put}

-- the modes from m on, k at most, of a set whose bits from m on are the number r
abbrev pub modes_at : ℕ → ℕ → ℕ → List ℕ
modes_at zero m r = []
modes_at (suc k) m r = put (eqb (r % 2) 1) m (modes_at k (suc m) (r / 2))

-- all of them
unfoldable pub modes_from : ℕ → ℕ → List ℕ
modes_from m r = modes_at (16 - m) m r

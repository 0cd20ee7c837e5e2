-- Implication as a test. Assumes nothing.
use mathlib.Core.Path.{◌≡◌, refl}
use mathlib.Core.Bool.{Bool, true, false, not, ◌||◌}
use Rattle.ctl.specs.Lists.{imp}

pub to-or : (a b : Bool) → imp a b ≡ (not a || b)
to-or true b = refl
to-or false b = refl

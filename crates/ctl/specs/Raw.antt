-- Formulas as a sheet writes them. Assumes nothing.
use Rattle.std.specs.Prelude.{ℕ}

-- `0`, `1`, a symbol, `!`, `&`, `|`, `>`, and the modal forms over a set of modes
pub data Raw : Type 0 where
  zero one : Raw
  sym : ℕ → Raw
  neg : Raw → Raw
  and or imp : Raw → Raw → Raw
  ex ax ef af eg ag : ℕ → Raw → Raw
  eu au er ar : ℕ → Raw → Raw → Raw

-- Positive formulas of two-way CTL: `!` stands before symbols only. Assumes nothing.
use Rattle.std.specs.Prelude.{ℕ}

-- Symbols are numbers from 0, in line 1 order. A number after a modal operator is its set of modes (Modes). In `eu A p q` and its like p is the left operand,
-- q the right one.
pub data Form : Type 0 where
  tru fls : Form
  lit nlit : ℕ → Form
  and or : Form → Form → Form
  ex ax : ℕ → Form → Form
  eu au er ar : ℕ → Form → Form → Form

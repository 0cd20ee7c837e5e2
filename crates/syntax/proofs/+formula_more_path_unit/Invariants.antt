-- The proof of the cycle of calls {formula, more, path, unit}, by the laws of `FormulaLaws`, `PathLaws` and `UnitLaws`.
-- The measure of each is five times the bytes left, and of a formula 4 more less its level: a formula asks for a unit at the same place, and all else is asked for further on.
-- Assumes nothing.
use lib.ListN.{length}
use Prim.Native.Nat.{◌+◌, ◌-◌, ◌*◌}
use Rattle.syntax.proofs.+formula_more_path_unit.Given as goal

abbrev pub decreases-formula : goal.decreases-formula
decreases-formula l = 5 * (length l.s.now - l.at) + 4 - l.level

abbrev pub decreases-more : goal.decreases-more
decreases-more l = 5 * (length l.s.now - l.left.next)

abbrev pub decreases-path : goal.decreases-path
decreases-path l = 5 * (length l.s.now - l.b.next)

abbrev pub decreases-unit : goal.decreases-unit
decreases-unit l = 5 * (length l.s.now - l.at)

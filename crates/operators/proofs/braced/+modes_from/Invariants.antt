-- The proof of the cycle of calls {modes_from}, by the laws of `ModeLaws`. The measure is the bytes left.
-- Assumes nothing.
use lib.ListN.{length}
use Prim.Native.Nat.{◌-◌}
use Rattle.operators.proofs.braced.+modes_from.Given as goal

abbrev pub decreases-modes_from : goal.decreases-modes_from
decreases-modes_from l = length l.s.now - l.at

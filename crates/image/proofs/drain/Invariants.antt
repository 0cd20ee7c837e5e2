-- `drain` meets its contract: dst lacks those that are linked to a type that is not in `rest` any more. Each turn a type leaves `rest`. Assumes nothing.
use Prim.Native.Nat.{◌*◌}
use Rattle.wordset.specs.Words.{member}
use Rattle.wordset.specs.Below.{count_below}
use Rattle.image.proofs.Draining.{Draining}
use Rattle.image.proofs.drain.Given as goal

abbrev pub invariant-loop-a : goal.invariant-loop-a
invariant-loop-a l = Draining l.w l.cw l.a l.initial.dst l.initial.rest l.dst l.rest l.r

abbrev pub decreases-loop-a : goal.decreases-loop-a
decreases-loop-a l = count_below (l.w * 64) (member l.rest)

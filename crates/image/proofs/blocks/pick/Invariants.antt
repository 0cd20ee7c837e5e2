-- `pick` meets its contract: after k turns the first k words of dst hold the numbers that are in src and in block i, and `any` tells whether there are any. Assumes nothing.
use mathlib.Core.Bool.{◌&&◌}
use Rattle.wordset.proofs.Packing.{Packing}
use Rattle.wordset.specs.Words.{member}
use Rattle.truth.specs.Blocks.{has}
use Rattle.image.proofs.blocks.pick.Given as goal

abbrev pub invariant-loop-k : goal.invariant-loop-k
invariant-loop-k l = Packing (λ t. member l.src t && has l.w l.tw l.i t) (λ t. member l.src t && has l.w l.tw l.i t) l.initial.dst l.w l.dst l.any l.k

-- `release` meets its contract: after k turns the first k words of dst hold the numbers that were in it, less those of block i that are not in u, and `any` tells whether it had one of those. Assumes nothing.
use mathlib.Core.Bool.{not, ◌&&◌}
use Rattle.wordset.proofs.Packing.{Packing}
use Rattle.wordset.specs.Words.{member}
use Rattle.truth.specs.Blocks.{has}
use Rattle.image.proofs.blocks.release.Given as goal

abbrev pub invariant-loop-k : goal.invariant-loop-k
invariant-loop-k l =
    Packing (λ t. member l.initial.dst t && not (has l.w l.tw l.i t && not (member l.u t))) (λ t. member l.initial.dst t && (has l.w l.tw l.i t && not (member l.u t))) l.initial.dst l.w l.dst l.any l.k

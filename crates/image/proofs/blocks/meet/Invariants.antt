-- `meet` meets its contract: after k turns `any` tells whether one of the first k words' numbers is in a, in b and in block i. Assumes nothing.
use mathlib.Core.Bool.{◌&&◌}
use Rattle.wordset.proofs.Packing.{Noting}
use Rattle.wordset.specs.Words.{member}
use Rattle.truth.specs.Blocks.{has}
use Rattle.image.proofs.blocks.meet.Given as goal

abbrev pub invariant-loop-k : goal.invariant-loop-k
invariant-loop-k l = Noting (λ t. (member l.a t && member l.b t) && has l.w l.tw l.i t) l.w l.any l.k

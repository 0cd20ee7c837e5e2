-- `exceeds` meets its contract: after k turns `any` tells whether one of the first k words' numbers is in rest and not in entry e. Assumes nothing.
use mathlib.Core.Bool.{not, ◌&&◌}
use Rattle.wordset.proofs.Packing.{Noting}
use Rattle.wordset.specs.Words.{member}
use Rattle.truth.specs.Blocks.{has}
use Rattle.image.proofs.exceeds.Given as goal

abbrev pub invariant-loop-k : goal.invariant-loop-k
invariant-loop-k l = Noting (λ t. member l.rest t && not (has l.w l.cw l.e t)) l.w l.any l.k

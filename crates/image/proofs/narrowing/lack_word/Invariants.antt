-- `lack_word` meets its contract: acc has the types that are not in an entry of r that was gone through. Assumes nothing.
use mathlib.Core.Bool.{not}
use Rattle.truth.specs.Blocks.{has}
use Rattle.truth.proofs.Joining.{Joining}
use Rattle.image.proofs.narrowing.lack_word.Given as goal

abbrev pub invariant-loop-rest : goal.invariant-loop-rest
invariant-loop-rest l = Joining (λ c t. not (has l.w l.cw c t)) l.r l.k l.rest l.acc

abbrev pub decreases-loop-rest : goal.decreases-loop-rest
decreases-loop-rest l = l.rest

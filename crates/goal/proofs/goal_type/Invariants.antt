-- `goal_type` meets its contract: no type of the first k words has the goal. Assumes nothing.
use mathlib.Core.Bool.{◌&&◌}
use Rattle.wordset.proofs.Scanning.{NoneSoFar}
use Rattle.wordset.specs.Words.{member}
use Rattle.truth.specs.Truths.{true_at}
use Rattle.goal.proofs.goal_type.Given as goal

abbrev pub invariant-loop-k : goal.invariant-loop-k
invariant-loop-k l = NoneSoFar (λ t. member l.ws t && true_at l.ms l.ln l.goal t) l.w l.k

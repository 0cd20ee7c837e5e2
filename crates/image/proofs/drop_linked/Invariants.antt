-- `drop_linked` meets its contract: v lacks those that are linked by a mode that was gone through. Assumes nothing.
use Rattle.wordset.specs.Words.{member, minus}
use Rattle.conditions.specs.Entries.{linked_to, side}
use Rattle.image.proofs.Stepping.{Moded}
use Rattle.image.proofs.drop_linked.Given as goal

abbrev pub invariant-loop-left : goal.invariant-loop-left
invariant-loop-left l = Moded (λ m t. linked_to l.w l.cw (side l.w l.cw m) (member (minus l.w l.src l.u)) t) l.w l.a l.initial.v l.initial.rest l.v l.rest l.left

abbrev pub decreases-loop-left : goal.decreases-loop-left
decreases-loop-left l = l.left

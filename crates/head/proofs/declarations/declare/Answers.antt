use Rattle.head.specs.Head.{declared}
use mathlib.Core.Path.{refl, sym, ◌∙◌}
use Rattle.head.proofs.DeclareLaws.{declare-more, declare-stop}
use lib.ListN.{length-set}
use native.Mathlib.Omega.{arith}
use Rattle.head.proofs.declarations.declare.Goals as goal

pub loop-i-init : goal.loop-i-init
unfolding declared
loop-i-init c = (refl, refl)

pub loop-i-preserved : goal.loop-i-preserved
loop-i-preserved c =
    (simp length-set c.loop-i.invariant.0, declare-more _ _ _ _ (omega arith) (omega arith) _ c.place_of.ensures ∙ c.loop-i.invariant.1)

pub returns : goal.returns
returns c =
    sym (declare-stop _ _ _ _ (omega arith)) ∙ c.loop-i.invariant.1

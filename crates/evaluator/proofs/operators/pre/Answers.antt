use mathlib.Core.Path.{◌≡◌, refl}
use native.Mathlib.Omega.{arith}
use Rattle.evaluator.specs.Values.{pre_word}
use Rattle.edges.proofs.NodeLaws.{gathered-none, gathered-small, gathered-next}
use Rattle.evaluator.proofs.operators.pre.Goals as goal

pub loop-i-init : goal.loop-i-init
loop-i-init c = gathered-none _

pub add_if-y-requires : goal.add_if-y-requires
add_if-y-requires c = (gathered-small _ _ c.loop-i.invariant, omega arith)

pub loop-i-preserved : goal.loop-i-preserved
loop-i-preserved c = gathered-next _ _ c.loop-i.invariant c.add_if-y.ensures refl

pub returns : goal.returns
unfolding pre_word
returns c = let e : c.loop-i.i ≡ c.args.n = omega arith in cc

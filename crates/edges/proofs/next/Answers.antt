use native.Mathlib.Omega.{arith}
use mathlib.Core.Path.{◌≡◌}
use Rattle.edges.specs.Nodes.{next_word}
use Rattle.edges.proofs.NodeLaws.{gathered-none, gathered-small, gathered-next}
use Rattle.edges.proofs.next.Goals as goal

pub loop-j-init : goal.loop-j-init
loop-j-init c = gathered-none _

pub add_if-x-requires : goal.add_if-x-requires
add_if-x-requires c = (gathered-small _ _ c.loop-j.invariant, omega arith)

pub loop-j-preserved : goal.loop-j-preserved
loop-j-preserved c = gathered-next _ _ c.loop-j.invariant c.add_if-x.ensures c.leads.ensures

pub returns : goal.returns
unfolding next_word
returns c = let e : c.loop-j.j ≡ c.args.n = omega arith in cc

use mathlib.Core.Path.{ap}
use lib.Dec.{eqb}
use native.Mathlib.Omega.{arith}
use mathlib.Core.Path.{◌≡◌}
use Rattle.std.proofs.Common.{ℕ}
use Rattle.edges.specs.Nodes.{on_word}
use Rattle.edges.proofs.NodeLaws.{gathered-none, gathered-small, gathered-next}
use Rattle.edges.proofs.on.Goals as goal

pub loop-i-init : goal.loop-i-init
loop-i-init c = gathered-none _

pub add_if-x-requires : goal.add_if-x-requires
add_if-x-requires c = (gathered-small _ _ c.loop-i.invariant, omega arith)

pub loop-i-preserved : goal.loop-i-preserved
loop-i-preserved c =
    gathered-next _ _ c.loop-i.invariant c.add_if-x.ensures (ap (λ (v : ℕ). eqb v 1) c.entry.ensures)

pub returns : goal.returns
unfolding on_word
returns c = let e : c.loop-i.i ≡ c.args.n = omega arith in cc

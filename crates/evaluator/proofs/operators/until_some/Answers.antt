use mathlib.Core.Path.{ap}
use lib.Bits.{bit_and, bit_or}
use Rattle.std.proofs.Common.{ℕ}
use Rattle.evaluator.specs.Values.{eu_round}
use Rattle.edges.proofs.NodeLaws.{repeat-none, repeat-on}
use Rattle.evaluator.proofs.operators.until_some.Goals as goal

pub loop-init : goal.loop-init
loop-init c = repeat-none _

pub loop-preserved : goal.loop-preserved
loop-preserved c =
    repeat-on (eu_round c.args.e.now c.args.n c.args.p c.args.q) _ _ _ c.loop.invariant (ap (λ (y : ℕ). bit_or c.args.q (bit_and c.args.p y)) c.pre.ensures)

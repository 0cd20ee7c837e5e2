use mathlib.Core.Path.{ap, ap₂, ◌∙◌}
use lib.Bits.{bit_and, bit_or}
use Rattle.std.proofs.Common.{ℕ}
use Rattle.edges.specs.Nodes.{flip_word}
use Rattle.evaluator.specs.Values.{pre_word, au_round}
use Rattle.edges.proofs.NodeLaws.{repeat-none, repeat-on}
use Rattle.evaluator.proofs.operators.until_all.Goals as goal

pub loop-init : goal.loop-init
loop-init c = (c.pre-some.ensures ∙ ap (pre_word c.args.e.now c.args.n) c.full.ensures, repeat-none _)

pub loop-preserved : goal.loop-preserved
loop-preserved c =
    (c.loop.invariant.0, repeat-on (au_round c.args.e.now c.args.n c.args.p c.args.q) _ _ _ c.loop.invariant.1 (ap₂ (λ (a b : ℕ). bit_or c.args.q (bit_and c.args.p (bit_and a b))) c.loop.invariant.0 (c.flip-in-loop.ensures ∙ ap (flip_word c.args.n) (c.pre.ensures ∙ ap (pre_word c.args.e.now c.args.n) c.flip.ensures))))

use Prim.Native.Nat.{ℕ}
use mathlib.Core.Path.{ap, ◌∙◌}
use lib.ListN.{get_or}
use Rattle.wordset.proofs.Filling.{begins, goes}
use Rattle.evaluator.proofs.SatLaws.{member-next}
use Rattle.evaluator.proofs.values.evaluate.Goals as goal

pub loop-i-init : goal.loop-i-init
loop-i-init c = begins

pub loop-i-preserved : goal.loop-i-preserved
loop-i-preserved c =
    goes _ c.loop-i.invariant c.loop-i-test.true (c.member.ensures ∙ member-next c.args.out.now c.args.n c.requires.0.0 c.args.ws.now c.requires.1.1 c.args.sets.now c.requires.1.0 c.loop-i.sets c.loop-i.i _ _ c.loop-i.invariant c.loop-i-test.true (c.set_at-p.ensures ∙ ap (λ (j : ℕ). get_or c.loop-i.sets j 0) c.left.ensures) (c.set_at-q.ensures ∙ ap (λ (j : ℕ). get_or c.loop-i.sets j 0) c.right.ensures))

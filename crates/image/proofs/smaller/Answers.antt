use Rattle.wordset.proofs.AnswersLaws.{word-answers}
use Rattle.image.proofs.Lessening.{less-falls, less-on}
use Rattle.image.proofs.smaller.Goals as goal

pub loop-s-smaller : goal.loop-s-smaller
loop-s-smaller c =
    less-falls c.loop-s.invariant c.loop-k-test.true (c.fewer_word-x.ensures _ (word-answers _ _ (c.type_inv.rest _).fits)) c.if-x-eq0.false c.refusal_set-s.type_inv c.refusal_set-s.ensures

pub loop-s-preserved : goal.loop-s-preserved
loop-s-preserved c =
    less-on c.loop-s.invariant c.loop-k-test.true (c.fewer_word-x.ensures _ (word-answers _ _ (c.type_inv.rest _).fits)) c.if-x-eq0.false c.refusal_set-s.type_inv c.refusal_set-s.ensures

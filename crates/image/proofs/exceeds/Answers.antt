use Rattle.wordset.proofs.AnswersLaws.{minus-answers, word-answers}
use Rattle.wordset.proofs.Packing.{note-end, note-on, note-start}
use Rattle.truth.proofs.BlockLaws.{block-word}
use Rattle.image.proofs.exceeds.Goals as goal

pub loop-k-init : goal.loop-k-init
loop-k-init c = note-start

pub loop-k-preserved : goal.loop-k-preserved
loop-k-preserved c =
    note-on c.loop-k.invariant c.loop-k-test.true (minus-answers (word-answers _ _ (c.type_inv.rest _).fits) (block-word _ _ _ _ (c.type_inv.cw _).fits))

pub returns : goal.returns
returns c = note-end c.loop-k.invariant c.loop-k-test.false

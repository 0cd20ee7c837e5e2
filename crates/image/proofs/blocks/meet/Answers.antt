use Rattle.wordset.proofs.AnswersLaws.{and-answers, word-answers}
use Rattle.wordset.proofs.Packing.{note-end, note-on, note-start}
use Rattle.truth.proofs.BlockLaws.{block-word}
use Rattle.image.proofs.blocks.meet.Goals as goal

pub loop-k-preserved : goal.loop-k-preserved
loop-k-preserved c =
    let p = and-answers (word-answers _ _ (c.type_inv.a _).fits) (word-answers _ _ (c.type_inv.b _).fits) in
    note-on c.loop-k.invariant c.loop-k-test.true (and-answers p (block-word _ _ _ _ (c.type_inv.tw _).fits))

pub returns : goal.returns
returns c = note-end c.loop-k.invariant c.loop-k-test.false

pub loop-k-init : goal.loop-k-init
loop-k-init c = note-start

use Rattle.wordset.proofs.AnswersLaws.{and-answers, word-answers}
use Rattle.wordset.proofs.Packing.{pack-any, pack-on, pack-start}
use Rattle.truth.proofs.BlockLaws.{block-word}
use Rattle.image.proofs.blocks.pick.Goals as goal

pub loop-k-init : goal.loop-k-init
loop-k-init c = pack-start

pub loop-k-preserved : goal.loop-k-preserved
loop-k-preserved c =
    let a = and-answers (word-answers _ _ (c.type_inv.src _).fits) (block-word _ _ _ _ (c.type_inv.tw _).fits) in
    pack-on c.loop-k.invariant c.loop-k-test.true a a

pub returns-clause-value : goal.returns-clause-value
returns-clause-value c = pack-any c.loop-k.invariant c.loop-k-test.false

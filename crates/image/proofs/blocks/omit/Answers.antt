use Rattle.wordset.proofs.AnswersLaws.{answers-word, minus-answers, word-answers}
use Rattle.wordset.proofs.Filling.{begins, goes}
use Rattle.truth.proofs.BlockLaws.{block-word}
use Rattle.image.proofs.blocks.omit.Goals as goal

pub loop-k-preserved : goal.loop-k-preserved
loop-k-preserved c =
    goes _ c.loop-k.invariant c.loop-k-test.true (answers-word (minus-answers (word-answers _ _ (c.type_inv.src _).fits) (block-word _ _ _ _ (c.type_inv.tw _).fits)))

pub loop-k-init : goal.loop-k-init
loop-k-init c = begins

use Rattle.wordset.proofs.AnswersLaws.{answers-word, word-answers, minus-answers}
use Rattle.wordset.proofs.Filling.{begins, goes}
use Rattle.wordset.proofs.less.Goals as goal

pub loop-i-preserved : goal.loop-i-preserved
loop-i-preserved c =
    goes _ c.loop-i.invariant c.loop-i-test.true (answers-word (minus-answers (word-answers _ _ (c.type_inv.a _).fits) (word-answers _ _ (c.type_inv.b _).fits)))

pub loop-i-init : goal.loop-i-init
loop-i-init c = begins

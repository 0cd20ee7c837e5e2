use Rattle.wordset.proofs.AnswersLaws.{answers-word, word-answers}
use Rattle.wordset.proofs.Filling.{begins, goes}
use Rattle.wordset.proofs.copy.Goals as goal

pub loop-i-preserved : goal.loop-i-preserved
loop-i-preserved c = goes _ c.loop-i.invariant c.loop-i-test.true (answers-word (word-answers _ _ (c.type_inv.src _).fits))

pub loop-i-init : goal.loop-i-init
loop-i-init c = begins

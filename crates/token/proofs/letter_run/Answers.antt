-- `token::letter_run` meets its contract, by the laws of Fronts. Assumes nothing.
use Rattle.token.proofs.Fronts.{run_long, run-word}
use Rattle.token.proofs.letter_run.Goals as goal

pub returns-then-e-i-gt8 : goal.returns-then-e-i-gt8
returns-then-e-i-gt8 c = run_long _ _ _ c.run_end-e.ensures.0 c.if-e-i-gt8.true

pub returns : goal.returns
returns c = run-word _ _ _ c.run_end-e.ensures.0 _ c.if-e-i-gt8.false c.word_from.ensures.0

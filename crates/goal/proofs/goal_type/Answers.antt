use native.Mathlib.Omega.{arith}
use Rattle.wordset.proofs.AnswersLaws.{and-answers, word-answers}
use Rattle.wordset.proofs.Scanning.{none-start, none-on, none_end, least-found}
use Rattle.goal.proofs.GoalWords.{first_found, first-none}
use Rattle.goal.proofs.goal_type.Goals as goal

pub loop-k-init : goal.loop-k-init
loop-k-init c = none-start

pub returns-then-x-ne0 : goal.returns-then-x-ne0
returns-then-x-ne0 c =
    let found = least-found (and-answers (word-answers _ _ (c.type_inv.ws _).fits) (c.requires.truths.words _ c.requires.goal_in_bounds.0 _ c.loop-k-test.true)) c.loop-k.invariant c.loop-k-test.true c.if-x-ne0.true in
    let small = found.0 in
    first_found _ _ _ _ (omega arith) found.1

pub loop-k-preserved : goal.loop-k-preserved
loop-k-preserved c =
    none-on (and-answers (word-answers _ _ (c.type_inv.ws _).fits) (c.requires.truths.words _ c.requires.goal_in_bounds.0 _ c.loop-k-test.true)) c.loop-k.invariant c.loop-k-test.true c.if-x-ne0.false

pub returns : goal.returns
returns c =
    first-none _ _ _ (none_end c.loop-k.invariant c.loop-k-test.false)

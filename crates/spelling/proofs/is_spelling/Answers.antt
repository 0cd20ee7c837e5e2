-- `spelling::is_spelling` meets its contract: the tests are those of `spelled`. Assumes nothing.
use mathlib.Core.Path.{ap, ◌∙◌}
use lib.Dec.{eqb}
use lib.ListN.{length}
use borrow.Author.Tests.{le-leb, lt-leb}
use Rattle.spelling.specs.Spelling.{spelled}
use Rattle.spelling.proofs.SpellingLaws.{run-all}
use Rattle.spelling.proofs.is_spelling.Goals as goal

pub returns-then-w-lt1 : goal.returns-then-w-lt1
unfolding spelled
returns-then-w-lt1 c = simp (lt-leb 1 _ c.if-w-lt1.true)

pub returns-then-w-gt8 : goal.returns-then-w-gt8
unfolding spelled
returns-then-w-gt8 c = simp (le-leb 1 _ c.if-w-lt1.false, lt-leb _ 8 c.if-w-gt8.true)

pub returns : goal.returns
unfolding spelled
returns c =
    let w = c.args.w.now in
    simp (le-leb 1 _ c.if-w-lt1.false, le-leb _ 8 c.if-w-gt8.false) (ap (λ r. eqb r (length w)) (c.run_end.ensures.0 ∙ run-all w))

-- `step` meets its contract. Assumes nothing.
use borrow.Author.Tests.{lt-ltb, le-ltb}
use Rattle.naming.proofs.step.Goals as goal

pub returns-then-number-count : goal.returns-then-number-count
returns-then-number-count c = simp (lt-ltb _ _ c.if-number-count.true)

pub returns : goal.returns
returns c = simp (le-ltb _ _ c.if-number-count.false)

-- `written_last` meets its contract. Assumes nothing.
use borrow.Author.Tests.{eq-eqb, ne_eqb}
use Rattle.lockgraph_c.proofs.tables.written_last.Goals as goal

pub returns-then-rounds-eq0 : goal.returns-then-rounds-eq0
returns-then-rounds-eq0 c = rw (eq-eqb _ _ c.if-rounds-eq0.true)

pub returns-else-rounds-eq0 : goal.returns-else-rounds-eq0
returns-else-rounds-eq0 c = rw (ne_eqb _ _ c.if-rounds-eq0.false)

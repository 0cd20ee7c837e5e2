-- `lockgraph_table` meets its contract: its limits are the usual ones. Assumes nothing.
use mathlib.Core.Path.{sym}
use Rattle.lockgraph_c.proofs.tables.lockgraph_table.Goals as goal

pub returns : goal.returns
returns c = rw (sym c.usual_limits-l.ensures) c.lockgraph_table_within.ensures

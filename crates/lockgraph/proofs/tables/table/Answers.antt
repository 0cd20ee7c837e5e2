-- `table` meets its contract: its limits are the usual ones. Assumes nothing.
use mathlib.Core.Path.{sym}
use Rattle.lockgraph.proofs.tables.table.Goals as goal

pub returns : goal.returns
returns c =
    record {
      table_is = rw (sym c.usual_limits.ensures) c.table_within.ensures.table_is;
      table_demand2 = c.table_within.ensures.table_demand2;
      table_demand3 = rw (sym c.usual_limits.ensures) c.table_within.ensures.table_demand3;
    }

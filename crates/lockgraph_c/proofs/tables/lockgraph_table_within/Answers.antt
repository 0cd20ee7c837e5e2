-- `lockgraph_table_within` meets its contract. Assumes nothing.
use Rattle.lockgraph_c.proofs.ToldLaws.{table_done, table-refused}
use Rattle.lockgraph_c.proofs.tables.lockgraph_table_within.Goals as goal

pub returns-in-Err : goal.returns-in-Err
returns-in-Err c =
    table-refused c.table_within.ensures.table_is c.table_within.ensures.table_demand2 c.table_within.ensures.table_demand3 c.in-Err.is c.number.ensures

pub returns-in-Ok : goal.returns-in-Ok
returns-in-Ok c =
    table_done c.table_within.ensures.table_is c.table_within.ensures.table_demand2 c.table_within.ensures.table_demand3 c.in-Ok.is c.written_last-last.ensures

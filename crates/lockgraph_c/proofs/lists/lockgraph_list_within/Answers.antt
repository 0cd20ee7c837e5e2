-- `lockgraph_list_within` meets its contract. Assumes nothing.
use Rattle.lockgraph_c.proofs.ToldLaws.{list_done, list-refused}
use Rattle.lockgraph_c.proofs.lists.lockgraph_list_within.Goals as goal

pub returns-in-Err : goal.returns-in-Err
returns-in-Err c =
    list-refused c.list_within.ensures c.in-Err.is c.number.ensures

pub returns-in-Ok : goal.returns-in-Ok
returns-in-Ok c =
    list_done c.list_within.ensures c.in-Ok.is

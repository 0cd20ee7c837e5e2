-- `lockgraph_clean_within` meets its contract. Assumes nothing.
use Rattle.lockgraph_c.proofs.ToldLaws.{clean-done, clean-refused}
use Rattle.lockgraph_c.proofs.cleans.lockgraph_clean_within.Goals as goal

pub returns-in-Err : goal.returns-in-Err
returns-in-Err c =
    clean-refused c.clean_within.ensures c.in-Err.is c.number.ensures

pub returns-in-Ok : goal.returns-in-Ok
returns-in-Ok c =
    clean-done c.clean_within.ensures c.in-Ok.is

-- `lockgraph_snapshot_within` meets its contract. Assumes nothing.
use Rattle.lockgraph_c.proofs.ToldLaws.{snapshot-done, snapshot-refused}
use Rattle.lockgraph_c.proofs.snapshots.lockgraph_snapshot_within.Goals as goal

pub returns-in-Err : goal.returns-in-Err
returns-in-Err c =
    snapshot-refused c.snapshot_within.ensures.snapshot_is c.snapshot_within.ensures.snapshot_means c.in-Err.is c.number.ensures

pub returns-in-Ok : goal.returns-in-Ok
returns-in-Ok c =
    snapshot-done c.snapshot_within.ensures.snapshot_is c.snapshot_within.ensures.snapshot_means c.in-Ok.is

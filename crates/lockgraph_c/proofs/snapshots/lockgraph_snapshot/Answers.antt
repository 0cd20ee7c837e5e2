-- `lockgraph_snapshot` meets its contract: its limits are the usual ones. Assumes nothing.
use mathlib.Core.Path.{sym}
use Rattle.lockgraph_c.proofs.snapshots.lockgraph_snapshot.Goals as goal

pub returns : goal.returns
returns c = rw (sym c.usual_limits-l.ensures) c.lockgraph_snapshot_within.ensures

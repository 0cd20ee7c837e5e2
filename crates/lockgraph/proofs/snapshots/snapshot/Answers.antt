-- `snapshot` meets its contract: its limits are the usual ones. Assumes nothing.
use mathlib.Core.Path.{sym}
use Rattle.lockgraph.proofs.snapshots.snapshot.Goals as goal

pub returns : goal.returns
returns c =
    record {
      snapshot_is = rw (sym c.usual_limits.ensures) c.snapshot_within.ensures.snapshot_is;
      snapshot_means = rw (sym c.usual_limits.ensures) c.snapshot_within.ensures.snapshot_means;
    }

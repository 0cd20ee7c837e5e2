-- `goal_text` meets its contract: its limits are the usual ones. Assumes nothing.
use mathlib.Core.Path.{sym}
use Rattle.lockgraph.proofs.goal_text.Goals as goal

pub returns : goal.returns
returns c =
    record {
      result_value = rw (sym c.usual_limits.ensures) c.goal_text_within.ensures.result_value;
      ref_ptr_value = rw (sym c.usual_limits.ensures) c.goal_text_within.ensures.ref_ptr_value;
      variant = rw (sym c.usual_limits.ensures) c.goal_text_within.ensures.variant;
    }

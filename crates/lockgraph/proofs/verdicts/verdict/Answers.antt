-- `verdict` meets its contract: its limits are the usual ones. Assumes nothing.
use mathlib.Core.Path.{sym}
use Rattle.lockgraph.proofs.verdicts.verdict.Goals as goal

pub returns : goal.returns
returns c =
    record {
      value = rw (sym c.usual_limits.ensures) c.verdict_within.ensures.value;
      number = rw (sym c.usual_limits.ensures) c.verdict_within.ensures.number;
      verdict_demand2 = rw (sym c.usual_limits.ensures) c.verdict_within.ensures.verdict_demand2;
      verdict_demand3 = rw (sym c.usual_limits.ensures) c.verdict_within.ensures.verdict_demand3;
    }

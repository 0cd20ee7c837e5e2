-- `reversed` meets its contract, a return for each rule. Assumes nothing.
use mathlib.Core.Path.{sym, ap}
use Rattle.conditions.specs.Conditions.{reverse}
use Rattle.conditions.proofs.reversed.Goals as goal

pub returns-in-Forward : goal.returns-in-Forward
unfolding reverse
returns-in-Forward c = ap reverse (sym c.in-Forward.is)

pub returns-in-Backward : goal.returns-in-Backward
unfolding reverse
returns-in-Backward c = ap reverse (sym c.in-Backward.is)

pub returns-in-BothWays : goal.returns-in-BothWays
unfolding reverse
returns-in-BothWays c = ap reverse (sym c.in-BothWays.is)

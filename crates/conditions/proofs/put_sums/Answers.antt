use Rattle.conditions.proofs.Sides.{sum-on}
use Rattle.conditions.proofs.put_sums.Goals as goal

pub loop-m-preserved : goal.loop-m-preserved
loop-m-preserved c = sum-on c.loop-m.invariant c.loop-m-test.true c.requires.by_index c.put_sum.ensures

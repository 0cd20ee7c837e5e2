use Rattle.needs.proofs.BlockSteps.{join-end}
use Rattle.needs.proofs.join_block.Goals as goal

pub returns : goal.returns
returns c = join-end c.loop-k.auto.tw c.loop-k.invariant c.loop-k-test.false

use Rattle.buffer.proofs.PutLaws.{copying-start, copying-next, copied_all}
use Rattle.buffer.proofs.put.Goals as goal

pub loop-i-init : goal.loop-i-init
loop-i-init c = copying-start

pub loop-i-preserved : goal.loop-i-preserved
loop-i-preserved c =
    copying-next c.requires c.loop-i.invariant c.loop-i-test.true

pub returns : goal.returns
returns c = copied_all c.loop-i.invariant c.loop-i-test.false

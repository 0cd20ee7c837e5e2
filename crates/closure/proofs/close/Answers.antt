use Rattle.closure.proofs.CloseLaws.{loop-first, loop-ready, loop-reads, loop-next, loop-beyond, loop-last}
use Rattle.closure.proofs.close.Goals as goal

pub loop-k-init : goal.loop-k-init
loop-k-init c =
    loop-first _ _ _ _ c.requires

pub positive-requires : goal.positive-requires
positive-requires c =
    (loop-reads _ _ _ _ c.requires c.loop-k.invariant c.loop-k-test.true, loop-ready _ _ _ _ c.requires c.loop-k.invariant)

pub returns-in_err-added : goal.returns-in_err-added
returns-in_err-added c =
    rw c.from_residual.ensures (loop-beyond _ _ _ _ c.requires c.loop-k.invariant c.loop-k-test.true c.positive.ensures c.positive.auto.tab c.in_err-added.was)

pub loop-k-preserved : goal.loop-k-preserved
loop-k-preserved c =
    loop-next _ _ _ _ c.requires c.loop-k.invariant c.loop-k-test.true c.positive.ensures c.positive.auto.tab c.in_ok-added.was

pub returns : goal.returns
returns c =
    loop-last _ _ _ _ c.requires c.loop-k.invariant c.loop-k-test.false

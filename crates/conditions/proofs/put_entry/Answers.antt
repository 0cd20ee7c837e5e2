use native.Mathlib.Omega.{arith}
use Rattle.conditions.proofs.EntryLaws.{gather_none, gather-on, put-end}
use Rattle.conditions.proofs.put_entry.Goals as goal

pub loop-k-preserved : goal.loop-k-preserved
loop-k-preserved c =
    gather-on c.loop-k.invariant _ c.loop-k-test.true c.requires.2 c.requires.4 c.selected-x.ensures

pub returns-clause-put : goal.returns-clause-put
returns-clause-put c = put-end c.loop-k.invariant.words (omega arith) c.requires.4

pub returns-clause-t_after : goal.returns-clause-t_after
returns-clause-t_after c = gather_none c.loop-k.invariant (omega arith) c.requires.4

use native.Mathlib.Omega.{arith}
use Rattle.truth.proofs.Redoing.{redo-on}
use Rattle.conditions.proofs.EntryLaws.{apart_next, entry-room, put-end}
use Rattle.conditions.proofs.put_sum.Goals as goal

pub loop-k-preserved : goal.loop-k-preserved
loop-k-preserved c =
    redo-on c.loop-k.invariant (entry-room _ _ c.requires.0 c.requires.2) c.loop-k-test.true (apart_next c.loop-k.invariant _ c.loop-k-test.true c.some_word.ensures)

pub returns : goal.returns
returns c = put-end c.loop-k.invariant (omega arith) c.requires.2

use native.Mathlib.Omega.{arith}
use Rattle.values.proofs.TableLaws.{sofar-ready, sofar-room, sofar-next}
use Rattle.values.proofs.with_values.Goals as goal

pub with_value-m-requires : goal.with_value-m-requires
with_value-m-requires c =
    let s = c.requires.0.small in
    let h = c.requires.1 in
    let l = c.loop-k-test.true in
    (sofar-ready c.requires.0 c.loop-k.invariant, (sofar-room c.requires.0 c.loop-k.invariant h l, omega arith))

pub loop-k-preserved : goal.loop-k-preserved
loop-k-preserved c =
    sofar-next c.requires.0 c.loop-k.invariant c.loop-k-test.true c.with_value-m.auto.tab c.with_value-m.ensures

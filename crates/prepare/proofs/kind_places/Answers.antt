use Rattle.std.proofs.Common.{arith}
use Rattle.prepare.specs.Places.{kind_at}
use Rattle.prepare.proofs.PlaceLaws.{parted-next, parted-done}
use Rattle.prepare.proofs.kind_places.Goals as goal

pub loop-k-preserved : goal.loop-k-preserved
unfolding kind_at
loop-k-preserved c =
    parted-next c.loop-k.invariant (omega (arith, c.requires.1.room, c.loop-k-test.true)) _ (rw c.from.ensures at c.is_kind-is.ensures) c.put_if-n.ensures.0 c.put_if-n.ensures.1

pub returns : goal.returns
returns c = parted-done _ _ _ _ c.loop-k.invariant (omega (arith, c.loop-k.auto.k-end, c.loop-k-test.false))

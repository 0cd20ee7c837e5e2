use native.Mathlib.Omega.{arith}
use Rattle.needs.proofs.ListingLaws.{member-on}
use Rattle.needs.proofs.list_members.Goals as goal

pub loop-i-preserved : goal.loop-i-preserved
loop-i-preserved c =
    member-on c.loop-i.invariant (omega (arith, c.loop-i.invariant.few, c.loop-i.auto.ns)) c.push_if-s.ensures c.loop-i-test.true c.asks.ensures c.need_of.ensures

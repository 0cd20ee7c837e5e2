use native.Mathlib.Omega.{arith}
use Rattle.needs.proofs.ListingLaws.{field-on}
use Rattle.needs.proofs.list_fields.Goals as goal

pub loop-f-preserved : goal.loop-f-preserved
loop-f-preserved c =
    field-on c.loop-f.invariant (omega (arith, c.loop-f.invariant.few, c.loop-f.auto.ns)) c.push_if-r.ensures c.loop-f-test.true c.ex_fields-a.ensures c.has_mode.ensures c.field_need.ensures

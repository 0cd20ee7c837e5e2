use Rattle.needs.proofs.FieldLaws.{fields-on, fields-start}
use Rattle.needs.proofs.ex_fields.Goals as goal

pub loop-x-init : goal.loop-x-init
loop-x-init c = fields-start

pub loop-x-preserved : goal.loop-x-preserved
loop-x-preserved c = fields-on _ c.loop-x.invariant c.field_of-acc.ensures

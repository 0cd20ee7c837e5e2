use Rattle.conditions.proofs.Siding.{side-start}
use Rattle.conditions.proofs.put_conditions.Goals as goal

pub loop-c-init : goal.loop-c-init
loop-c-init c = side-start c.clear_sides.ensures

-- `turn_sides` meets its contract: the first f backward modes have their sides. Assumes nothing.
use Rattle.conditions.proofs.Sides.{Turning}
use Rattle.conditions.proofs.turn_sides.Given as goal

abbrev pub invariant-loop-f : goal.invariant-loop-f
invariant-loop-f l = Turning l.w l.initial.cw l.cw l.f

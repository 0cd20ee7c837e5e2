-- `put_conditions` meets its contract: the conditions below c are put. Assumes nothing.
use Rattle.conditions.specs.Putting.{Sided}
use Rattle.conditions.proofs.put_conditions.Given as goal

abbrev pub invariant-loop-c : goal.invariant-loop-c
invariant-loop-c l = Sided l.ms l.ln l.w l.cw l.c

-- `put_sums` meets its contract: the first m modes have their sum. Assumes nothing.
use Rattle.conditions.specs.Putting.{Summed}
use Rattle.conditions.proofs.put_sums.Given as goal

abbrev pub invariant-loop-m : goal.invariant-loop-m
invariant-loop-m l = Summed l.w l.initial.cw l.cw l.m

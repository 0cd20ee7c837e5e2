-- Before each turn the bytes passed led to the state and the store.
use Rattle.snapshot_text.proofs.ReadLaws.{Running}
use Rattle.snapshot_text.proofs.run_from.Given as goal

abbrev pub invariant-loop-b : goal.invariant-loop-b
invariant-loop-b l = Running l.m l.b-items l.initial.out l.out l.st l.b-index

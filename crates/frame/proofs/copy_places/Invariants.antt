-- `copy_places` meets its contract: after k turns the first k places are copied. Assumes nothing.
use Rattle.std.proofs.Common.{◌≡◌, length, take}
use Rattle.frame.proofs.copy_places.Given as goal

abbrev pub invariant-loop-k : goal.invariant-loop-k
invariant-loop-k l = (length l.to ≡ length l.initial.to) × (take l.k l.to ≡ take l.k l.places)

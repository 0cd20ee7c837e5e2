-- `kind_places` meets its contract: after k turns the store has the places below k that are sought. Assumes nothing.
use Rattle.prepare.specs.Places.{kind_at}
use Rattle.prepare.proofs.PlaceLaws.{Parted}
use Rattle.prepare.proofs.kind_places.Given as goal

abbrev pub invariant-loop-k : goal.invariant-loop-k
invariant-loop-k l = Parted (kind_at l.kind l.ms l.ln l.kinds) l.initial.store l.k l.store l.n

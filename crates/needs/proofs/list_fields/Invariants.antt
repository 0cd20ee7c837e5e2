-- `list_fields` meets its contract: the list has the needs of the fields below f. Assumes nothing.
use Rattle.needs.specs.Listing.{SoFar}
use Rattle.needs.proofs.list_fields.Given as goal

abbrev pub invariant-loop-f : goal.invariant-loop-f
invariant-loop-f l = SoFar l.ms l.ns l.f 0 l.r

-- `list_members` meets its contract: the list has the needs of the fields and of the first i members. Assumes nothing.
use Rattle.needs.specs.Listing.{SoFar}
use Rattle.needs.proofs.list_members.Given as goal

abbrev pub invariant-loop-i : goal.invariant-loop-i
invariant-loop-i l = SoFar l.ms l.ns 8 l.i l.s

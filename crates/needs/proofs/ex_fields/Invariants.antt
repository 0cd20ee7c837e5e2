-- `ex_fields` meets its contract: the set has the fields of the first i members. Assumes nothing.
use Rattle.needs.proofs.FieldLaws.{FieldsSoFar}
use Rattle.needs.proofs.ex_fields.Given as goal

abbrev pub invariant-loop-x : goal.invariant-loop-x
invariant-loop-x l = FieldsSoFar l.ms l.x-index l.acc

-- `field_words` meets its contract: the blocks of the fields below f are done. Assumes nothing.
use Rattle.needs.proofs.BlockSteps.{BlocksSoFar}
use Rattle.needs.proofs.field_words.Given as goal

abbrev pub invariant-loop-f : goal.invariant-loop-f
invariant-loop-f l = BlocksSoFar l.ms l.ln l.w l.tw l.f

-- `smaller` meets its contract: s is what a type of `rest` refuses. Each turn at a word takes a smaller s. Assumes nothing.
use Rattle.image.proofs.Lessening.{Lessening}
use Rattle.image.proofs.smaller.Given as goal

abbrev pub invariant-loop-k : goal.invariant-loop-k
invariant-loop-k l = Lessening l.w l.cw l.a l.rest l.s

abbrev pub invariant-loop-s : goal.invariant-loop-s
invariant-loop-s l = Lessening l.w l.cw l.a l.rest l.s

abbrev pub decreases-loop-s : goal.decreases-loop-s
decreases-loop-s l = l.s

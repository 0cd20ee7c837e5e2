-- `first` meets its contract: no member is in the first i words. Assumes nothing.
use Rattle.wordset.proofs.Scanning.{NoneSoFar}
use Rattle.wordset.specs.Words.{member}
use Rattle.wordset.proofs.first.Given as goal

abbrev pub invariant-loop-i : goal.invariant-loop-i
invariant-loop-i l = NoneSoFar (member l.ws) l.w l.i

-- `size` meets its contract: n counts the members in the words that the loop has seen. Assumes nothing.
use Rattle.wordset.proofs.Scanning.{Counted}
use Rattle.wordset.specs.Words.{member}
use Rattle.wordset.proofs.size.Given as goal

abbrev pub invariant-loop-x : goal.invariant-loop-x
invariant-loop-x l = Counted (member l.ws) l.w l.x-index l.n

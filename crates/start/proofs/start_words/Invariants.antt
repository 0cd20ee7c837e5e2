-- `start_words` meets its contract: after i turns the store has the types without a name, and the own types of the first i names that obey. Assumes nothing.
use Rattle.start.proofs.Starting.{Started}
use Rattle.start.proofs.start_words.Given as goal

abbrev pub invariant-loop-i : goal.invariant-loop-i
invariant-loop-i l = Started l.w l.base l.names l.n l.r l.initial.dst l.dst l.i

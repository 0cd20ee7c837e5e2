-- `round` meets its contract: after some turns dst holds those of src that keep their place as far as the needs of those turns go. Assumes nothing.
use Rattle.tableau.proofs.Rounding.{Rounded}
use Rattle.tableau.proofs.eliminate.round.Given as goal

abbrev pub invariant-loop-x : goal.invariant-loop-x
invariant-loop-x l = Rounded l.words.w l.words.tw.now l.words.cw.now l.words.ns.now l.src l.initial.dst l.initial.copy l.initial.todo l.initial.v l.initial.rest l.dst l.copy l.todo l.v l.rest l.x-index

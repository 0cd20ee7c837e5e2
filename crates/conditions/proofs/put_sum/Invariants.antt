-- `put_sum` meets its contract: the first k words have their sum. Assumes nothing.
use Rattle.wordset.specs.Answers.{Answers}
use Rattle.truth.proofs.Redoing.{Redoing}
use Rattle.conditions.specs.Entries.{in_some}
use Rattle.conditions.proofs.put_sum.Given as goal

abbrev pub invariant-loop-k : goal.invariant-loop-k
invariant-loop-k l = Redoing (Answers (in_some l.w l.initial.cw l.a)) l.w l.e l.initial.cw l.cw l.k

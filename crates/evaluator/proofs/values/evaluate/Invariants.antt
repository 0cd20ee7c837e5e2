-- `evaluate` meets its contract: the first i members are in their words. Assumes nothing.
use lib.ListN.{length}
use Rattle.wordset.specs.Word.{word_of}
use Rattle.wordset.proofs.Filling.{Filling}
use Rattle.ctl.specs.Evaluator.{sat}
use Rattle.truth.specs.Tables.{form}
use Rattle.snapshot_text.specs.Store.{of_store}
use Rattle.evaluator.proofs.values.evaluate.Given as goal

abbrev pub invariant-loop-i : goal.invariant-loop-i
invariant-loop-i l = Filling (λ k. word_of l.n (sat (of_store l.n l.out) (form l.ws k))) l.initial.sets (length l.ws) l.sets l.i

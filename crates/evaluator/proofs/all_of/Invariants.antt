-- `all_of` meets its contract: x is the set of the nodes that are in the first k sets. Assumes nothing.
use mathlib.Core.Path.{◌≡◌}
use Rattle.wordset.specs.Word.{word_of}
use Rattle.evaluator.proofs.RowLaws.{in_all}
use Rattle.evaluator.proofs.all_of.Given as goal

abbrev pub invariant-loop-m : goal.invariant-loop-m
invariant-loop-m l = l.x ≡ word_of l.n (in_all l.sets l.members l.n l.m-index)

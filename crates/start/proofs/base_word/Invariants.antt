-- `base_word` meets its contract: the word answers whether the first i globals are true. Assumes nothing.
use lib.ListN.{get_or}
use Rattle.truth.specs.Truths.{true_at}
use Rattle.truth.proofs.Folds.{Met}
use Rattle.start.proofs.base_word.Given as goal

abbrev pub invariant-loop-g : goal.invariant-loop-g
invariant-loop-g l = Met (λ j t. true_at l.ms l.ln (get_or l.globals j 0) t) l.g-index l.k l.acc

-- `free_word` meets its contract: the word answers whether a type has none of the first i places. Assumes nothing.
use mathlib.Core.Bool.{not}
use lib.ListN.{get_or}
use Rattle.ctl.specs.Types.{in_type}
use Rattle.truth.proofs.Folds.{Met}
use Rattle.start.proofs.free_word.Given as goal

abbrev pub invariant-loop-v : goal.invariant-loop-v
invariant-loop-v l = Met (λ j t. not (in_type t (get_or l.names j 0))) l.v-index l.k l.acc

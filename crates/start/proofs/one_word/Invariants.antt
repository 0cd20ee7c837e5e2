-- `one_word` meets its contract: one word answers whether a type has one of the first i places, the other whether it has two. Assumes nothing.
use lib.ListN.{get_or}
use Rattle.ctl.specs.Types.{in_type}
use Rattle.start.proofs.StartWords.{Counted}
use Rattle.start.proofs.one_word.Given as goal

abbrev pub invariant-loop-v : goal.invariant-loop-v
invariant-loop-v l = Counted (λ j t. in_type t (get_or l.values j 0)) l.v-index l.k l.once l.twice

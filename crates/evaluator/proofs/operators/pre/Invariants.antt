-- `pre` meets its contract: y is the set of the nodes below i from which a mode leads into x. Assumes nothing.
use mathlib.Core.Bool.{not}
use lib.Dec.{eqb}
use lib.Bits.{bit_and}
use lib.ListN.{get_or}
use mathlib.Core.Path.{◌≡◌}
use Rattle.wordset.specs.Word.{word_of}
use Rattle.evaluator.proofs.operators.pre.Given as goal

abbrev pub invariant-loop-i : goal.invariant-loop-i
invariant-loop-i l = l.y ≡ word_of l.i (λ j. not (eqb (bit_and (get_or l.e j 0) l.x) 0))

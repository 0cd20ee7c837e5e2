-- `on` meets its contract: x is the set of the nodes below i that symbol k is on. Assumes nothing.
use mathlib.Core.Path.{◌≡◌}
use lib.Dec.{eqb}
use Rattle.wordset.specs.Word.{word_of}
use Rattle.snapshot_text.specs.Store.{entry_at}
use Rattle.edges.proofs.on.Given as goal

abbrev pub invariant-loop-i : goal.invariant-loop-i
invariant-loop-i l = l.x ≡ word_of l.i (λ j. eqb (entry_at l.out j l.k) 1)

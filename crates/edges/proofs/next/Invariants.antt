-- `next` meets its contract: x is the set of the nodes below j to which the modes lead. Assumes nothing.
use mathlib.Core.Path.{◌≡◌}
use Rattle.wordset.specs.Word.{word_of}
use Rattle.edges.specs.Nodes.{leads_at}
use Rattle.edges.proofs.next.Given as goal

abbrev pub invariant-loop-j : goal.invariant-loop-j
invariant-loop-j l = l.x ≡ word_of l.j (leads_at l.out l.modes l.i)

-- Before each turn the count is that of the symbols passed.
use mathlib.Core.Path.{◌≡◌}
use Rattle.wordset.specs.Below.{count_below}
use Rattle.snapshot.proofs.EntryLaws.{node_holds}
use Rattle.snapshot.proofs.entries.held_count.Given as goal

abbrev pub invariant-loop-k : goal.invariant-loop-k
invariant-loop-k l = l.c ≡ count_below l.k (node_holds l.kinds l.out l.i)

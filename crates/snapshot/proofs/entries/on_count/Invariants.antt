-- Before each turn the count is that of the nodes passed.
use mathlib.Core.Path.{◌≡◌}
use Rattle.snapshot.specs.Read.{on_count}
use Rattle.snapshot.proofs.entries.on_count.Given as goal

abbrev pub invariant-loop-i : goal.invariant-loop-i
invariant-loop-i l = l.c ≡ on_count l.out l.i l.k

-- Before each turn each node passed holds one of the values.
use Prim.Native.Nat.{ℕ, ◌<◌}
use mathlib.Core.Path.{◌≡◌}
use Rattle.snapshot.specs.Read.{held_count}
use Rattle.snapshot.proofs.entries.some_not_one.Given as goal

abbrev pub invariant-loop-i : goal.invariant-loop-i
invariant-loop-i l = (j : ℕ) → j < l.i → held_count l.kinds l.out j ≡ 1

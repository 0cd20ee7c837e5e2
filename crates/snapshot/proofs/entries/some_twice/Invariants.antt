-- Before each turn no symbol passed is a name on two nodes.
use Prim.Native.Nat.{ℕ, ◌<◌}
use mathlib.Core.Path.{◌≡◌}
use mathlib.Core.Bool.{false}
use Rattle.snapshot.proofs.EntryLaws.{name_twice}
use Rattle.snapshot.proofs.entries.some_twice.Given as goal

abbrev pub invariant-loop-k : goal.invariant-loop-k
invariant-loop-k l = (j : ℕ) → j < l.k → name_twice l.kinds l.n l.out j ≡ false

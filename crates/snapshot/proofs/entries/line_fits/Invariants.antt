-- Before each turn the entries passed are within their limits.
use Prim.Native.Nat.{ℕ, ◌<◌}
use mathlib.Core.Path.{◌≡◌}
use mathlib.Core.Bool.{true}
use Rattle.snapshot.proofs.EntryLaws.{entry_fits}
use Rattle.snapshot.proofs.entries.line_fits.Given as goal

abbrev pub invariant-loop-k : goal.invariant-loop-k
invariant-loop-k l = (j : ℕ) → j < l.k → entry_fits l.kinds l.n l.out l.i j ≡ true

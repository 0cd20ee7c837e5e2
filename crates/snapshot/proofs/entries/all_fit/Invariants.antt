-- Before each turn the nodes passed have entries within their limits.
use Prim.Native.Nat.{ℕ, ◌<◌}
use mathlib.Core.Path.{◌≡◌}
use mathlib.Core.Bool.{true}
use Rattle.snapshot.specs.Read.{line_fits}
use Rattle.snapshot.proofs.entries.all_fit.Given as goal

abbrev pub invariant-loop-i : goal.invariant-loop-i
invariant-loop-i l = (j : ℕ) → j < l.i → line_fits l.kinds l.n l.out j ≡ true

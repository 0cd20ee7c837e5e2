-- The two halves of the product agree: where Snapshot says that all globals hold at all nodes and the goal at some, Verdict does not say unsatisfiable. Assumes nothing.
use mathlib.Core.Path.{◌≡◌}
use mathlib.Core.List.{List}
use Prim.Native.Nat.{ℕ, ◌%◌, ◌≤◌, ◌<◌}
use native.Mathlib.Omega.{arith}
use lib.ListN.{get_or}
use Rattle.ctl.specs.Snapshot.{of_lines}
use Rattle.std.specs.Prelude.{Result, Ok}
use Rattle.refusal.specs.declared.Refusal.{Refusal}
use Rattle.judge.specs.declared.Verdict.{Verdict}
use Rattle.judge.specs.declared.Verdict.TheVariants.{Unsatisfiable}
use Rattle.limits.specs.declared.Limits.{Limits}
use Rattle.outcomes.specs.Demands.{SnapshotMeans, VerdictDemand3}

-- of whatever Snapshot and Verdict answered on one sheet, by their contracts
pub halves-agree : (K L : Limits) (s t : List ℕ) {o : Result ℕ Refusal} {row : List ℕ} {v : Result Verdict Refusal} → SnapshotMeans K s t o row → VerdictDemand3 L s v → (n : ℕ) → o ≡ Ok n → ((i : ℕ) → i < n → 2 ≤ get_or row i 0)
    → (i : ℕ) → i < n → get_or row i 0 % 2 ≡ 1 → v ≡ Ok Unsatisfiable → ⊥
unfolding of_lines
halves-agree K L s t x y n e all i h bit u =
    let j = x.judges n e in
    let c = j.2 in
    let m = j.4 in
    y.nowhere u (of_lines j.0) (j.3, λ g q k l. (m.globals-bit k l).0 (all k (omega arith)) g q) i (omega arith) ((m.goal-bit i (omega arith)).0 bit)

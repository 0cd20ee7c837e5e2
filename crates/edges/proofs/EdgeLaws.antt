-- Edges by the store's entries are the edges of the snapshot that it holds. Assumes nothing.
use Prim.Native.Nat.{ℕ, suc, ◌+◌, ◌-◌, ◌<◌}
use native.Mathlib.Omega.{arith}
use native.Mathlib.Numerals.{add-one}
use mathlib.Core.Path.{◌≡◌, sym, ap, ap₂, ◌∙◌}
use mathlib.Core.Logic.{◌⊎◌, inl, inr}
use mathlib.Core.Bool.{true, false, cond, ◌&&◌}
use mathlib.Core.List.{List}
use lib.Dec.{eqb, ltb}
use borrow.Author.Tests.{le-ltb, lt-ltb, ltb-false, ltb-true}
use Rattle.ctl.specs.Evaluator.{leads}
use Rattle.ctl.specs.Modes.{has_mode}
use Rattle.ctl.specs.Snapshot.{follows, step}
use Rattle.ctl.proofs.BoolLaws.{and_both, and-make, decide, or_cases, or_left, or_right, same_test}
use Rattle.ctl.proofs.EvaluatorLaws.{modes-iff}
use Rattle.ctl.proofs.ListLaws.{any-find, any-make}
use Rattle.snapshot_text.specs.Store.{entry_at, of_store}
use Rattle.edges.specs.Nodes.{by_mode, field_leads, leads_at}

-- ---- edges of the snapshot

module _ (out : List ℕ) (n : ℕ) where
  -- a mode that leads from i to j is a field's, forward or backward
  of-mode : (A i j m : ℕ) → m < 16 → has_mode A m ≡ true → follows (of_store n out) m i j ≡ true → leads_at out A i j ≡ true
  unfolding leads_at field_leads of_store
  of-mode A i j m h a l = go (decide (ltb m 8))
    where
      go : (ltb m 8 ≡ true) ⊎ (ltb m 8 ≡ false) → leads_at out A i j ≡ true
      go (inl e) =
          let k : eqb (entry_at out i m) (suc j) ≡ true = ap (λ t. cond t (eqb (entry_at out i m) (suc j)) (eqb (entry_at out j (m - 8)) (suc i))) (sym e) ∙ l in
          any-make 8 (field_leads out A i j) m (ltb-true m 8 e)
          (or_left (by_mode out A m m i j) (by_mode out A (m + 8) m j i)
          (and-make (has_mode A m) (eqb (entry_at out i m) (j + 1)) a (ap (λ x. eqb (entry_at out i m) x) (add-one j) ∙ k)))
      go (inr e) =
          let k : eqb (entry_at out j (m - 8)) (suc i) ≡ true = ap (λ t. cond t (eqb (entry_at out i m) (suc j)) (eqb (entry_at out j (m - 8)) (suc i))) (sym e) ∙ l in
          let u : m ≡ m - 8 + 8 = omega (arith, ltb-false m 8 e) in
          any-make 8 (field_leads out A i j) (m - 8) (omega arith)
          (or_right (by_mode out A (m - 8) (m - 8) i j) (by_mode out A (m - 8 + 8) (m - 8) j i)
          (and-make (has_mode A (m - 8 + 8)) (eqb (entry_at out j (m - 8)) (i + 1)) (ap (has_mode A) (sym u) ∙ a) (ap (λ x. eqb (entry_at out j (m - 8)) x) (add-one i) ∙ k)))

  -- and the other way about
  mode_of : (A i j f : ℕ) → f < 8 → field_leads out A i j f ≡ true → (m : ℕ) × (m < 16) × (has_mode A m ≡ true) × (follows (of_store n out) m i j ≡ true)
  unfolding field_leads of_store
  mode_of A i j f h e = go (or_cases (by_mode out A f f i j) (by_mode out A (f + 8) f j i) e)
    where
      go : (by_mode out A f f i j ≡ true) ⊎ (by_mode out A (f + 8) f j i ≡ true)
          → (m : ℕ) × (m < 16) × (has_mode A m ≡ true) × (follows (of_store n out) m i j ≡ true)
      go (inl t) =
          let b = and_both (has_mode A f) (eqb (entry_at out i f) (j + 1)) t in
          (f, omega arith, b.0, ap (λ t. cond t (eqb (entry_at out i f) (suc j)) (eqb (entry_at out j (f - 8)) (suc i))) (lt-ltb f 8 h) ∙ ap (λ x. eqb (entry_at out i f) x) (sym (add-one j)) ∙ b.1)
      go (inr t) =
          let b = and_both (has_mode A (f + 8)) (eqb (entry_at out j f) (i + 1)) t in
          let u : f + 8 - 8 ≡ f = omega arith in
          (f + 8, omega arith, b.0, ap (λ t. cond t (eqb (entry_at out i (f + 8)) (suc j)) (eqb (entry_at out j (f + 8 - 8)) (suc i))) (le-ltb (f + 8) 8 (omega arith)) ∙ ap₂ (λ x y. eqb (entry_at out j x) y) u (sym (add-one i)) ∙ b.1)

  pub leads-same : (A i j : ℕ) → i < n → j < n → leads (of_store n out) A i j ≡ leads_at out A i j
  unfolding leads step leads_at of_store
  leads-same A i j hi hj =
      same_test (leads (of_store n out) A i j) (leads_at out A i j)
      (λ e. let r = (modes-iff A (λ m. step (of_store n out) m i j)).0 e in
      of-mode A i j r.0 r.1 r.2 (and_both (ltb i n && ltb j n) (follows (of_store n out) r.0 i j) r.3).1)
      (λ e. let r = any-find 8 (field_leads out A i j) e in
      let t = mode_of A i j r.0 r.1 r.2 in
      (modes-iff A (λ m. step (of_store n out) m i j)).1 (
        t.0,
        t.1,
        t.2,
        and-make (ltb i n && ltb j n) (follows (of_store n out) t.0 i j) (and-make (ltb i n) (ltb j n) (lt-ltb i n hi) (lt-ltb j n hj)) t.3,
      ))

-- What the tableau needs of a snapshot: steps, and what EX, AX, EU and AU say at a node. Assumes nothing.
use Prim.Native.Nat.{ℕ, suc, ◌+◌, ◌-◌, ◌<◌}
use native.Mathlib.Omega.{arith}
use mathlib.Core.Path.{◌≡◌, sym, ap, ◌∙◌}
use mathlib.Core.Logic.{◌⊎◌, inl, inr}
use mathlib.Core.Bool.{Bool, true, not, ◌&&◌, ◌||◌, and_comm}
use lib.Dec.{T, ltb}
use borrow.Author.Tests.{lt-ltb, le-ltb, eqb-true}
use Rattle.ctl.specs.Lists.{◌∈◌}
use Rattle.ctl.specs.Formula.{Form, tru, fls, lit, nlit, and, or, ex, ax, eu, au, er, ar}
use Rattle.ctl.specs.Modes.{has_mode, modes}
use Rattle.ctl.specs.Expansion.{expand}
use Rattle.ctl.specs.Snapshot.{Snapshot, follows, step}
use Rattle.ctl.specs.Meaning.{Leads}
use Rattle.ctl.specs.Evaluator.{some_next, each_next, round_au, leads, sat}
use Rattle.ctl.proofs.BoolLaws.{true-T, T_true, T-cast⁻, and_both, or_cases}
use Rattle.ctl.proofs.ModeLaws.{modes-in, modes-has, mode-lt}
use Rattle.ctl.proofs.Fixpoint.{after, rank, after-stays, rank_falls, rank-le}
use Rattle.ctl.proofs.Paths.{Chain}
use Rattle.ctl.proofs.NextLaws.{AU-parts, mono_au, each_next-at, some_next-find}
use Rattle.ctl.proofs.Operators.{EU-chain}
use Rattle.ctl.proofs.EvaluatorLaws.{step-inside, graph, sat-nlit, sat-lit, sat-and, sat-or, sat-eu, sat-au}
use Rattle.ctl.proofs.ExpansionLaws.{ex-iff, ax-iff, sat-expand}

module _ (s : Snapshot) where
  -- ---- steps

  pub step-lt : (m i j : ℕ) → T (step s m i j) → (i < s.n) × (j < s.n)
  step-lt m i j t = step-inside s m i j (true-T (step s m i j) t)

  forward : (m i j : ℕ) → m < 8 → T (step s m i j) → s.to m i ≡ suc j
  unfolding step
  forward m i j h t = eqb-true (s.to m i) (suc j) (rw (lt-ltb m 8 h) at (and_both (ltb i s.n && ltb j s.n) (follows s m i j) (true-T (step s m i j) t)).1)

  -- a field leads to at most one node
  pub step-target : (m i j j' : ℕ) → m < 8 → T (step s m i j) → T (step s m i j') → j ≡ j'
  step-target m i j j' h e f = omega (arith, forward m i j h e, forward m i j' h f)

  -- and backward modes are its reverse
  pub step_back : (m i j : ℕ) → m < 8 → step s (8 + m) j i ≡ step s m i j
  unfolding step
  step_back m i j h =
      let a = lt-ltb m 8 h in
      let b = le-ltb (8 + m) 8 (omega arith) in
      let c : 8 + m - 8 ≡ m = omega arith in
      rw (a, b, c, and_comm (ltb j s.n) (ltb i s.n))

  -- a step by a mode of A, both ways of saying it
  pub leads-in : (A i j m : ℕ) → m ∈ modes A → T (step s m i j) → Leads s A i j
  leads-in A i j m k t = let w = modes-in A k in (m, mode-lt w.0, true-T (has_mode A m) w.1, true-T (step s m i j) t)

  pub leads-out : (A i j : ℕ) (r : Leads s A i j) → (r.0 ∈ modes A) × T (step s r.0 i j)
  leads-out A i j r = (modes-has A r.0 r.1 (T_true (has_mode A r.0) r.2), T_true (step s r.0 i j) r.3)

  -- ---- negated symbols, EX and AX

  pub sat-not : (k i : ℕ) → i < s.n → sat s (nlit k) i ≡ not (sat s (lit k) i)
  sat-not k i l = sat-nlit s k i l ∙ ap not (sym (sat-lit s k i l))

  pub ex-out : (A : ℕ) (p : Form) (i : ℕ) → i < s.n → T (sat s (ex A p) i) → (m : ℕ) × (j : ℕ) × (m ∈ modes A) × T (step s m i j) × T (sat s p j)
  ex-out A p i l h =
      let r = (ex-iff s A p i l).0 (true-T (sat s (ex A p) i) h) in
      let o = leads-out A i r.0 r.1 in
      (r.1.0, r.0, o.0, o.1, T_true (sat s p r.0) r.2)

  pub ax-out : (A : ℕ) (p : Form) (i m j : ℕ) → i < s.n → T (sat s (ax A p) i) → m ∈ modes A → T (step s m i j) → T (sat s p j)
  ax-out A p i m j l h k t = T_true (sat s p j) ((ax-iff s A p i l).0 (true-T (sat s (ax A p) i) h) j (leads-in A i j m k t))

  -- ---- U and R, through their expansions

  pub eu-unfold : (A : ℕ) (p q : Form) (i : ℕ) → i < s.n → sat s (eu A p q) i ≡ (sat s q i || (sat s p i && sat s (ex A (eu A p q)) i))
  unfolding expand
  eu-unfold A p q i l = sat-expand s (eu A p q) i l ∙ rw (sat-or s q (and p (ex A (eu A p q))) i l, sat-and s p (ex A (eu A p q)) i l)

  pub ar-unfold : (A : ℕ) (p q : Form) (i : ℕ) → i < s.n → sat s (ar A p q) i ≡ (sat s q i && (sat s p i || sat s (ax A (ar A p q)) i))
  unfolding expand
  ar-unfold A p q i l = sat-expand s (ar A p q) i l ∙ rw (sat-and s q (or p (ax A (ar A p q))) i l, sat-or s p (ax A (ar A p q)) i l)

  pub au-unfold : (A : ℕ) (p q : Form) (i : ℕ) → i < s.n → sat s (au A p q) i ≡ (sat s q i || (sat s p i && (sat s (ex A tru) i && sat s (ax A (au A p q)) i)))
  unfolding expand
  au-unfold A p q i l = sat-expand s (au A p q) i l ∙ rw (
    sat-or s q (and p (and (ex A tru) (ax A (au A p q)))) i l,
    sat-and s p (and (ex A tru) (ax A (au A p q))) i l,
    sat-and s (ex A tru) (ax A (au A p q)) i l,
  )

  pub er-unfold : (A : ℕ) (p q : Form) (i : ℕ) → i < s.n → sat s (er A p q) i ≡ (sat s q i && (sat s p i || (sat s (ax A fls) i || sat s (ex A (er A p q)) i)))
  unfolding expand
  er-unfold A p q i l = sat-expand s (er A p q) i l ∙ rw (
    sat-and s q (or p (or (ax A fls) (ex A (er A p q)))) i l,
    sat-or s p (or (ax A fls) (ex A (er A p q))) i l,
    sat-or s (ax A fls) (ex A (er A p q)) i l,
  )

  -- ---- EU: a chain; AU: a rank

  pub eu-chain : (A : ℕ) (p q : Form) (i : ℕ) → i < s.n → T (sat s (eu A p q) i) → Chain (Leads s A) (λ j. T (sat s p j)) (λ j. T (sat s q j)) i
  eu-chain A p q i l t =
      EU-chain (graph s A) (λ j. T (sat s p j)) (λ j. T (sat s q j)) (sat s p) (sat s q) (λ j h. (T_true (sat s p j), true-T (sat s p j))) (λ j h. (T_true (sat s q j), true-T (sat s q j)))
      s.n i l (sym (sat-eu s A p q i) ∙ true-T (sat s (eu A p q) i) t)

  -- the round that makes a node true
  pub rank_au : (A : ℕ) (p q : Form) → ℕ → ℕ
  rank_au A p q = rank s.n (round_au s.n (leads s A) (sat s p) (sat s q))

  sat-rank : (A : ℕ) (p q : Form) (i : ℕ) → i < s.n → sat s (au A p q) i ≡ true →
      (sat s q i ≡ true) ⊎ ((sat s p i ≡ true) × ((j : ℕ) × Leads s A i j)
      × ((j : ℕ) → Leads s A i j → (sat s (au A p q) j ≡ true) × (rank_au A p q j < rank_au A p q i)))
  unfolding rank_au
  sat-rank A p q i l e = go (or_cases (sat s q i) (sat s p i && (some_next s.n (leads s A) (λ j. true) i && each_next s.n (leads s A) (at k) i)) falls.2)
    where
      F : (ℕ → Bool) → ℕ → Bool
      F = round_au s.n (leads s A) (sat s p) (sat s q)

      mono : (x y : ℕ → Bool) → ((j : ℕ) → j < s.n → x j ≡ true → y j ≡ true) → (i : ℕ) → i < s.n → F x i ≡ true → F y i ≡ true
      mono = mono_au s.n (leads s A) (sat s p) (sat s q)

      at : ℕ → ℕ → Bool
      at = after s.n F

      falls : (k : ℕ) × (rank s.n F i ≡ suc k) × (F (at k) i ≡ true)
      falls = rank_falls s.n F mono i l (sym (sat-au s A p q i) ∙ e)

      k : ℕ
      k = falls.0

      go : (sat s q i ≡ true) ⊎ ((sat s p i && (some_next s.n (leads s A) (λ j. true) i && each_next s.n (leads s A) (at k) i)) ≡ true) →
          (sat s q i ≡ true) ⊎ ((sat s p i ≡ true) × ((j : ℕ) × Leads s A i j)
          × ((j : ℕ) → Leads s A i j → (sat s (au A p q) j ≡ true) × (rank_au A p q j < rank_au A p q i)))
      go (inl f) = inl f
      go (inr f) =
          let b = AU-parts s.n (leads s A) (sat s p) (sat s q) (at k) i f in
          let w = some_next-find s.n (leads s A) (λ j. true) i b.1 in
          inr (
            b.0,
            (w.0, (graph s A).sound i w.0 w.2),
            λ j r.
                let lj = (graph s A).inside i j r in
                let t = each_next-at s.n (leads s A) (at k) i b.2 j lj ((graph s A).complete i j r) in
                (sat-au s A p q j ∙ after-stays s.n F mono k j lj t, omega (arith, rank-le s.n F mono k j t, falls.1)),
          )

  -- the rank falls at each step until the right operand is true
  pub au-rank : (A : ℕ) (p q : Form) (i : ℕ) → i < s.n → T (sat s (au A p q) i)
      → T (sat s q i) ⊎ (T (sat s p i) × ((m j : ℕ) → m ∈ modes A → T (step s m i j) → T (sat s (au A p q) j) × (rank_au A p q j < rank_au A p q i)))
  au-rank A p q i l t = go (sat-rank A p q i l (true-T (sat s (au A p q) i) t))
    where
      go : (sat s q i ≡ true) ⊎ ((sat s p i ≡ true) × ((j : ℕ) × Leads s A i j)
          × ((j : ℕ) → Leads s A i j → (sat s (au A p q) j ≡ true) × (rank_au A p q j < rank_au A p q i))) →
          T (sat s q i) ⊎ (T (sat s p i) × ((m j : ℕ) → m ∈ modes A → T (step s m i j) → T (sat s (au A p q) j) × (rank_au A p q j < rank_au A p q i)))
      go (inl e) = inl (T_true (sat s q i) e)
      go (inr r) = inr (T_true (sat s p i) r.0, λ m j k t. let w = r.2 j (leads-in A i j m k t) in (T_true (sat s (au A p q) j) w.0, w.1))

  -- no two nodes one step apart wait for the same right operand both ways
  pub au-both : (A : ℕ) (p q : Form) (m i j : ℕ) → m < 8 → m ∈ modes A → (8 + m) ∈ modes A → T (step s m i j)
      → T (sat s (au A p q) i) → T (sat s (au A p q) j) → T (sat s q i) ⊎ T (sat s q j)
  au-both A p q m i j small f b t hi hj = go (au-rank A p q i (step-lt m i j t).0 hi) (au-rank A p q j (step-lt m i j t).1 hj)
    where
      Next : ℕ → Type 0
      Next i = T (sat s p i) × ((m j : ℕ) → m ∈ modes A → T (step s m i j) → T (sat s (au A p q) j) × (rank_au A p q j < rank_au A p q i))

      go : T (sat s q i) ⊎ Next i → T (sat s q j) ⊎ Next j → T (sat s q i) ⊎ T (sat s q j)
      go (inl h) c = inl h
      go (inr x) (inl h) = inr h
      go (inr x) (inr y) = absurd (let a = (x.1 m j f t).1 in let c = (y.1 (8 + m) i b (T-cast⁻ (step_back m i j small) t)).1 in omega arith)

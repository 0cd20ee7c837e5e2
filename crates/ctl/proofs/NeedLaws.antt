-- What a type needs of a family, as computed, is what document 01 asks for; and a wider family has all that a smaller one has. Assumes nothing.
use mathlib.Core.Logic.{inl, inr, ◌↔◌}
use mathlib.Core.Bool.{Bool, not, ◌&&◌}
use mathlib.Core.List.{List}
use Prim.Native.Nat.{ℕ, zero, suc}
use lib.Dec.{T, T_not, not_T}
use Rattle.ctl.specs.Lists.{◌∈◌, any_of, all_of, imp, elem}
use Rattle.ctl.specs.Formula.{Form, tru, fls, lit, nlit, and, or, ex, ax, eu, au, er, ar}
use Rattle.ctl.specs.Modes.{single}
use Rattle.ctl.specs.ClosedFamily.{linked, one_of, Chain, stop, step, Ranked, Meets}
use Rattle.ctl.specs.Elimination.{next, ex_next, eu_test, au_test, good, fails}
use Rattle.ctl.proofs.BoolLaws.{and_in, and_0, and-1, imp-in, imp-out, not_absurd}
use Rattle.ctl.proofs.ListLaws.{any-in, any_out, all_in, all-out, keep-in, keep_out, elem_in, elem_out}
use Rattle.ctl.proofs.GrowLaws.{reach-out, reach-first, reach-next}

module _ (cl : List Form) (tr : ℕ → Form → Bool) (lk : ℕ → ℕ → ℕ → Bool) where
  -- ---- the computed sets are those of the document

  next-in : (U : List ℕ) (A : ℕ) (p : Form) (t u : ℕ) → u ∈ U → T (linked lk A t u) → T (tr u p) → T (next tr lk U A p t)
  unfolding next
  next-in U A p t u m l h = any-in (λ u. tr u p && linked lk A t u) m (and_in (tr u p) (linked lk A t u) h l)

  next-out : (U : List ℕ) (A : ℕ) (p : Form) (t : ℕ) → T (next tr lk U A p t) → (u : ℕ) × (u ∈ U) × T (linked lk A t u) × T (tr u p)
  unfolding next
  next-out U A p t h =
      let r = any_out (λ u. tr u p && linked lk A t u) U h in
      (r.0, r.1, and-1 (tr r.0 p) (linked lk A t r.0) r.2, and_0 (tr r.0 p) (linked lk A t r.0) r.2)

  module _ (fam : List ℕ) where
    -- a chain is found, and what is found has a chain
    chain-in : {A : ℕ} {p q : Form} {t : ℕ} → Chain tr lk fam A p q t → t ∈ good cl tr lk fam (eu A p q)
    unfolding good eu_test
    chain-in {A} {p} {q} (stop m h) = reach-first fam (eu_test tr lk A p) (λ t. tr t q) m h
    chain-in {A} {p} {q} (step {t = t} {u = u} m h l c) =
        reach-next fam (eu_test tr lk A p) (λ t. tr t q) m
        (and_in (tr t p) (any_of (linked lk A t) (good cl tr lk fam (eu A p q))) h (any-in (linked lk A t) (chain-in c) l))

    chain-out : (A : ℕ) (p q : Form) (t : ℕ) → t ∈ good cl tr lk fam (eu A p q) → Chain tr lk fam A p q t
    unfolding good eu_test
    chain-out A p q t m = (reach-out fam (eu_test tr lk A p) (λ n u. Chain tr lk fam A p q u) (λ n u c. c) more (λ t. tr t q) (λ u i h. stop i h) t m).1
      where
        more : (n : ℕ) (U : List ℕ) (t : ℕ) → t ∈ fam → ((u : ℕ) → u ∈ U → Chain tr lk fam A p q u) → T (eu_test tr lk A p U t) → Chain tr lk fam A p q t
        more n U t i f h =
            let r = any_out (linked lk A t) U (and-1 (tr t p) (any_of (linked lk A t) U) h) in
            step i (and_0 (tr t p) (any_of (linked lk A t) U) h) r.2 (f r.0 r.1)

    -- AU's test, member by member of the closure
    ex_next-in : (U : List ℕ) (A t : ℕ) → ((B : ℕ) (v : Form) → ex B v ∈ cl → T (one_of A B) → T (tr t (ex B v)) → T (next tr lk U B v t)) → (p : Form) → p ∈ cl → T (ex_next tr lk U A t p)
    unfolding ex_next
    ex_next-in U A t f tru m = tt
    ex_next-in U A t f fls m = tt
    ex_next-in U A t f (lit k) m = tt
    ex_next-in U A t f (nlit k) m = tt
    ex_next-in U A t f (and p q) m = tt
    ex_next-in U A t f (or p q) m = tt
    ex_next-in U A t f (ex B v) m = imp-in (one_of A B) (imp (tr t (ex B v)) (next tr lk U B v t)) (λ o. imp-in (tr t (ex B v)) (next tr lk U B v t) (λ h. f B v m o h))
    ex_next-in U A t f (ax B v) m = tt
    ex_next-in U A t f (eu B p q) m = tt
    ex_next-in U A t f (au B p q) m = tt
    ex_next-in U A t f (er B p q) m = tt
    ex_next-in U A t f (ar B p q) m = tt

    ex_next-out : (U : List ℕ) (A t : ℕ) → T (all_of (ex_next tr lk U A t) cl) → (B : ℕ) (v : Form) → ex B v ∈ cl → T (one_of A B) → T (tr t (ex B v)) → T (next tr lk U B v t)
    unfolding ex_next
    ex_next-out U A t h B v m o k = imp-out (tr t (ex B v)) (next tr lk U B v t) (imp-out (one_of A B) (imp (tr t (ex B v)) (next tr lk U B v t)) (all-out (ex_next tr lk U A t) h m) o) k

    -- a rank is found, and what is found has a rank
    rank-in : (A : ℕ) (p q : Form) (n t : ℕ) → Ranked cl tr lk fam A p q n t → t ∈ good cl tr lk fam (au A p q)
    unfolding good au_test
    rank-in A p q zero t r = reach-first fam (au_test cl tr lk A p) (λ t. tr t q) r.0 r.1
    rank-in A p q (suc n) t (inl r) = rank-in A p q n t r
    rank-in A p q (suc n) t (inr r) = go (λ u. rank-in A p q n u)
      where
        G : List ℕ
        G = good cl tr lk fam (au A p q)

        go : ((u : ℕ) → Ranked cl tr lk fam A p q n u → u ∈ good cl tr lk fam (au A p q)) → t ∈ good cl tr lk fam (au A p q)
        go rec =
            reach-next fam (au_test cl tr lk A p) (λ t. tr t q) r.0
            (and_in (tr t p) (all_of (ex_next tr lk G A t) cl) r.1
            (all_in (ex_next tr lk G A t) cl (ex_next-in G A t (λ B v m o h. let w = r.2 B v m o h in next-in G B v t w.0 (rec w.0 w.3) w.1 w.2))))

    rank-out : (A : ℕ) (p q : Form) (t : ℕ) → t ∈ good cl tr lk fam (au A p q) → (n : ℕ) × Ranked cl tr lk fam A p q n t
    unfolding good au_test
    rank-out A p q t m = reach-out fam (au_test cl tr lk A p) (Ranked cl tr lk fam A p q) (λ n u c. inl c) more (λ t. tr t q) (λ u i h. (i, h)) t m
      where
        more : (n : ℕ) (U : List ℕ) (t : ℕ) → t ∈ fam → ((u : ℕ) → u ∈ U → Ranked cl tr lk fam A p q n u) → T (au_test cl tr lk A p U t) → Ranked cl tr lk fam A p q (suc n) t
        more n U t i f h =
            inr (
              i,
              and_0 (tr t p) (all_of (ex_next tr lk U A t) cl) h,
              λ B v m o k.
                  let w = next-out U B v t (ex_next-out U A t (and-1 (tr t p) (all_of (ex_next tr lk U A t) cl) h) B v m o k) in (w.0, w.2, w.3, f w.0 w.1),
            )

    -- ---- a member fails exactly if it lacks something

    -- what a closure member asks of a type that does not fail
    unfailed : (t : ℕ) → T (not (fails cl tr lk fam t)) → (p : Form) → p ∈ cl → T (tr t p) → t ∈ good cl tr lk fam p
    unfolding fails
    unfailed t n p m h =
        elem_out t (good cl tr lk fam p)
        (not_absurd (elem t (good cl tr lk fam p)) (λ k. T_not (fails cl tr lk fam t) n
        (any-in (λ p. tr t p && not (elem t (good cl tr lk fam p))) m (and_in (tr t p) (not (elem t (good cl tr lk fam p))) h k))))

    pub meets-out : (t : ℕ) → T (not (fails cl tr lk fam t)) → Meets cl tr lk fam t
    unfolding good
    meets-out t n = record {
      exs = λ A p m s h. next-out fam A p t
          (imp-out (single A && tr t (ex A p)) (next tr lk fam A p t)
          (keep_out (λ t. imp (single A && tr t (ex A p)) (next tr lk fam A p t)) fam (unfailed t n (ex A p) m h)).1
          (and_in (single A) (tr t (ex A p)) s h));
      eus = λ A p q m h. chain-out A p q t (unfailed t n (eu A p q) m h);
      aus = λ A p q m h. rank-out A p q t (unfailed t n (au A p q) m h);
    }

    module _ (t : ℕ) (i : t ∈ fam) (has : Meets cl tr lk fam t) where
      asked : (p : Form) → p ∈ cl → T (tr t p) → t ∈ good cl tr lk fam p
      unfolding good
      asked tru m h = i
      asked fls m h = i
      asked (lit k) m h = i
      asked (nlit k) m h = i
      asked (and p q) m h = i
      asked (or p q) m h = i
      asked (ex A p) m h =
          keep-in (λ t. imp (single A && tr t (ex A p)) (next tr lk fam A p t)) i
          (imp-in (single A && tr t (ex A p)) (next tr lk fam A p t)
          (λ k. let w = has.exs A p m (and_0 (single A) (tr t (ex A p)) k) h in next-in fam A p t w.0 w.1 w.2 w.3))
      asked (ax A p) m h = i
      asked (eu A p q) m h = chain-in (has.eus A p q m h)
      asked (au A p q) m h = let w = has.aus A p q m h in rank-in A p q w.0 t w.1
      asked (er A p q) m h = i
      asked (ar A p q) m h = i

      pub meets-in : T (not (fails cl tr lk fam t))
      unfolding fails
      meets-in =
          not_T (fails cl tr lk fam t) (λ f.
          let r = any_out (λ p. tr t p && not (elem t (good cl tr lk fam p))) cl f in
          let p = r.0 in
          T_not (elem t (good cl tr lk fam p)) (and-1 (tr t p) (not (elem t (good cl tr lk fam p))) r.2)
          (elem_in (asked p r.1 (and_0 (tr t p) (not (elem t (good cl tr lk fam p))) r.2))))

  -- a member of a family fails against it exactly if it has not what it needs
  pub fails-iff : (fam : List ℕ) (t : ℕ) → t ∈ fam → T (not (fails cl tr lk fam t)) ↔ Meets cl tr lk fam t
  fails-iff fam t m = (meets-out fam t, meets-in fam t m)

  -- ---- a wider family has all that a smaller one has

  module _ (small big : List ℕ) (sub : (t : ℕ) → t ∈ small → t ∈ big) where
    chain-wider : {A : ℕ} {p q : Form} {t : ℕ} → Chain tr lk small A p q t → Chain tr lk big A p q t
    chain-wider (stop {t = t} m h) = stop (sub t m) h
    chain-wider (step {t = t} m h l c) = step (sub t m) h l (chain-wider c)

    rank-wider : (A : ℕ) (p q : Form) (n t : ℕ) → Ranked cl tr lk small A p q n t → Ranked cl tr lk big A p q n t
    rank-wider A p q zero t r = (sub t r.0, r.1)
    rank-wider A p q (suc n) t (inl r) = inl (rank-wider A p q n t r)
    rank-wider A p q (suc n) t (inr r) = inr (sub t r.0, r.1, λ B v m o h. let w = r.2 B v m o h in (w.0, w.1, w.2, rank-wider A p q n w.0 w.3))

    pub meets-wider : (t : ℕ) → Meets cl tr lk small t → Meets cl tr lk big t
    meets-wider t has = record {
      exs = λ A p m s h. let w = has.exs A p m s h in (w.0, sub w.0 w.1, w.2, w.3);
      eus = λ A p q m h. chain-wider (has.eus A p q m h);
      aus = λ A p q m h. let w = has.aus A p q m h in (w.0, rank-wider A p q w.0 t w.1);
    }

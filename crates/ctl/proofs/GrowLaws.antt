-- The least set that passes its tests (specs/Elimination, `reach`): it holds what passes, is closed under its test, and what it has it has by a number of steps.
-- Assumes nothing.
use mathlib.Core.Path.{◌≡◌, refl, sym, ap, ◌∙◌, subst}
use mathlib.Core.Logic.{◌⊎◌, inl, inr}
use mathlib.Core.Bool.{Bool, true, false, ◌||◌}
use mathlib.Core.List.Memᴰ
use mathlib.Core.List.{List, [], ◌∷◌}
use Prim.Native.Nat.{ℕ, zero, suc, ◌+◌, ◌≤◌}
use native.Mathlib.Omega.{arith}
use lib.ListN.{length}
use lib.Dec.{T, eqb, eqb→eq}
use borrow.Author.Tests.{eqb-false}
use Rattle.ctl.specs.Lists.{◌∈◌, put, keep, elem}
use Rattle.ctl.specs.Elimination.{widen, grow, reach}
use Rattle.ctl.proofs.BoolLaws.{T_true, or-0, or-1, or-out}
use Rattle.ctl.proofs.ListLaws.{keep-in, keep_out, keep-full, elem_in, elem_out}

-- ---- two tests, the first of which implies the second

-- what the second keeps is as long, and if it is no longer, it is the same
put-put : {A : Type 0} (a b : Bool) (x : A) (k l : List A) → (T a → T b) → length k ≤ length l → length (put a x k) ≤ length (put b x l)
put-put true true x k l f h = omega arith
put-put true false x k l f h = absurd (f tt)
put-put false true x k l f h = omega arith
put-put false false x k l f h = h

pub keep-le : (a b : ℕ → Bool) (l : List ℕ) → ((x : ℕ) → x ∈ l → T (a x) → T (b x)) → length (keep a l) ≤ length (keep b l)
keep-le a b [] f = omega arith
keep-le a b (x ∷ xs) f = put-put (a x) (b x) x (keep a xs) (keep b xs) (f x (Memᴰ.head refl)) (keep-le a b xs (λ y m. f y (Memᴰ.tail m)))

pub keep-eq : (a b : ℕ → Bool) (l : List ℕ) → ((x : ℕ) → x ∈ l → T (a x) → T (b x)) → length (keep b l) ≤ length (keep a l) → (x : ℕ) → x ∈ l → T (b x) → T (a x)
keep-eq a b [] f h x m t = absurd (Memᴰ.not-nil m)
keep-eq a b (y ∷ ys) f h x m t = go (a y) (b y) refl refl (f y (Memᴰ.head refl)) h (Memᴰ.cases_cons m) (λ k i. keep-eq a b ys (λ z i'. f z (Memᴰ.tail i')) k x i t) (keep-le a b ys (λ z i'. f z (Memᴰ.tail i')))
  where
    go : (c d : Bool) → a y ≡ c → b y ≡ d → (T (a y) → T (b y)) → length (put d y (keep b ys)) ≤ length (put c y (keep a ys)) → (x ≡ y) ⊎ (x ∈ ys)
        → (length (keep b ys) ≤ length (keep a ys) → x ∈ ys → T (a x)) → length (keep a ys) ≤ length (keep b ys) → T (a x)
    go true d e e' g k (inl i) rec less = T_true (a x) (ap a i ∙ e)
    go true true e e' g k (inr i) rec less = rec (omega arith) i
    go true false e e' g k (inr i) rec less = absurd (subst T e' (g (T_true (a y) e)))
    go false true e e' g k c rec less = absurd (omega arith)
    go false false e e' g k (inl i) rec less = absurd (subst T (ap b i ∙ e') t)
    go false false e e' g k (inr i) rec less = rec k i

-- ---- the growing set

module _ (fam : List ℕ) (test : List ℕ → ℕ → Bool) where
  widen_in : (U : List ℕ) {t : ℕ} → t ∈ fam → T (test U t) → t ∈ widen fam test U
  unfolding widen
  widen_in U {t} m h = keep-in (λ t. elem t U || test U t) m (or-1 (elem t U) (test U t) h)

  widen-out : (U : List ℕ) {t : ℕ} → t ∈ widen fam test U → (t ∈ U) ⊎ ((t ∈ fam) × T (test U t))
  unfolding widen
  widen-out U {t} m = go (or-out (elem t U) (test U t) r.1)
    where
      r : (t ∈ fam) × T (elem t U || test U t)
      r = keep_out (λ t. elem t U || test U t) fam m

      go : T (elem t U) ⊎ T (test U t) → (t ∈ U) ⊎ ((t ∈ fam) × T (test U t))
      go (inl h) = inl (elem_out t U h)
      go (inr h) = inr (r.0, h)

  -- what the set has, it has by a number of steps
  module _ (P : ℕ → ℕ → Type 0) (more : (n t : ℕ) → P n t → P (suc n) t)
      (next : (n : ℕ) (U : List ℕ) (t : ℕ) → t ∈ fam → ((u : ℕ) → u ∈ U → P n u) → T (test U t) → P (suc n) t) where
    grow-out : (k n : ℕ) (U : List ℕ) → ((u : ℕ) → u ∈ U → P n u) → (t : ℕ) → t ∈ grow fam test k U → (j : ℕ) × P j t
    unfolding grow
    grow-out zero n U f t m = (n, f t m)
    grow-out (suc k) n U f t m = go (eqb (length (widen fam test U)) (length U)) m (grow-out k (suc n) (widen fam test U) wider t)
      where
        wider : (u : ℕ) → u ∈ widen fam test U → P (suc n) u
        wider u i = elim (widen-out U i) [ inl h ↦ more n u (f u h) | inr h ↦ next n U u h.0 f h.1 ]

        go : (b : Bool) → t ∈ (elim b as (λ c. List ℕ) [ true ↦ U | false ↦ grow fam test k (widen fam test U) ]) → (t ∈ grow fam test k (widen fam test U) → (j : ℕ) × P j t) → (j : ℕ) × P j t
        go true i rec = (n, f t i)
        go false i rec = rec i

    pub reach-out : (first : ℕ → Bool) → ((t : ℕ) → t ∈ fam → T (first t) → P 0 t) → (t : ℕ) → t ∈ reach fam test first → (j : ℕ) × P j t
    unfolding reach
    reach-out first base t m = grow-out (length fam) 0 (keep first fam) (λ u i. let r = keep_out first fam i in base u r.0 r.1) t m

  -- ---- the set is closed under its test

  -- a set that is kept from the members by some test
  abbrev Kept : List ℕ → Type 0
  Kept U = (a : ℕ → Bool) × (U ≡ keep a fam)

  widen-kept : (U : List ℕ) → Kept (widen fam test U)
  unfolding widen
  widen-kept U = (λ t. elem t U || test U t, refl)

  module _ (U : List ℕ) (kept : Kept U) where
    wider : (t : ℕ) → t ∈ fam → T (kept.0 t) → T (elem t U || test U t)
    wider t m h = or-0 (elem t U) (test U t) (elem_in (subst (λ l. t ∈ l) (sym kept.1) (keep-in kept.0 m h)))

    widen-le : length U ≤ length (widen fam test U)
    unfolding widen
    widen-le = subst (λ l. length l ≤ length (widen fam test U)) (sym kept.1) (keep-le kept.0 (λ t. elem t U || test U t) fam wider)

    widen-has : (t : ℕ) → t ∈ U → t ∈ widen fam test U
    unfolding widen
    widen-has t m =
        let r = keep_out kept.0 fam (subst (λ l. t ∈ l) kept.1 m) in
        keep-in (λ t. elem t U || test U t) r.0 (or-0 (elem t U) (test U t) (elem_in m))

    -- if a step makes it no longer, it adds nothing
    widen-stays : length (widen fam test U) ≤ length U → (t : ℕ) → t ∈ widen fam test U → t ∈ U
    unfolding widen
    widen-stays h t m =
        let r = keep_out (λ t. elem t U || test U t) fam m in
        let k = keep-eq kept.0 (λ t. elem t U || test U t) fam wider (subst (λ l. length (widen fam test U) ≤ length l) kept.1 h) t r.0 r.1 in
        subst (λ l. t ∈ l) (sym kept.1) (keep-in kept.0 r.0 k)

    widen-fam : (t : ℕ) → t ∈ widen fam test U → t ∈ fam
    unfolding widen
    widen-fam t m = (keep_out (λ t. elem t U || test U t) fam m).0

    -- as long as the list itself, it has every member
    full : length fam ≤ length U → (t : ℕ) → t ∈ fam → t ∈ U
    full h t m = subst (λ l. t ∈ l) (sym kept.1) (keep-in kept.0 m (keep-full kept.0 fam (subst (λ l. length fam ≤ length l) kept.1 h) t m))

  grow-closed : (k : ℕ) (U : List ℕ) → Kept U → length fam ≤ k + length U → (t : ℕ) → t ∈ widen fam test (grow fam test k U) → t ∈ grow fam test k U
  unfolding grow
  grow-closed zero U kept h t m = full U kept (omega arith) t (widen-fam U kept t m)
  grow-closed (suc k) U kept h t m =
      go (eqb (length (widen fam test U)) (length U)) refl m (λ l. grow-closed k (widen fam test U) (widen-kept U) l t)
    where
      then : Bool → List ℕ
      then b = elim b as (λ c. List ℕ) [ true ↦ U | false ↦ grow fam test k (widen fam test U) ]

      go : (b : Bool) → eqb (length (widen fam test U)) (length U) ≡ b → t ∈ widen fam test (then b)
          → (length fam ≤ k + length (widen fam test U) → t ∈ widen fam test (grow fam test k (widen fam test U)) → t ∈ grow fam test k (widen fam test U)) → t ∈ then b
      go true e i rec = widen-stays U kept (let q = eqb→eq (length (widen fam test U)) (length U) (T_true _ e) in omega arith) t i
      go false e i rec = rec (let l = widen-le U kept in let d = eqb-false (length (widen fam test U)) (length U) e in omega arith) i

  grow-more : (k : ℕ) (U : List ℕ) → Kept U → (t : ℕ) → t ∈ U → t ∈ grow fam test k U
  unfolding grow
  grow-more zero U kept t m = m
  grow-more (suc k) U kept t m = go (eqb (length (widen fam test U)) (length U)) (grow-more k (widen fam test U) (widen-kept U) t (widen-has U kept t m))
    where
      go : (b : Bool) → t ∈ grow fam test k (widen fam test U) → t ∈ (elim b as (λ c. List ℕ) [ true ↦ U | false ↦ grow fam test k (widen fam test U) ])
      go true i = m
      go false i = i

  first-kept : (first : ℕ → Bool) → Kept (keep first fam)
  first-kept first = (first, refl)

  pub reach-first : (first : ℕ → Bool) {t : ℕ} → t ∈ fam → T (first t) → t ∈ reach fam test first
  unfolding reach
  reach-first first {t} m h = grow-more (length fam) (keep first fam) (first-kept first) t (keep-in first m h)

  pub reach-next : (first : ℕ → Bool) {t : ℕ} → t ∈ fam → T (test (reach fam test first) t) → t ∈ reach fam test first
  unfolding reach
  reach-next first {t} m h = grow-closed (length fam) (keep first fam) (first-kept first) (omega arith) t (widen_in (reach fam test first) m h)

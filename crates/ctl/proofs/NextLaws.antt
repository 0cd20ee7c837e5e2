-- Tests at next nodes, and that the rounds of EU and AU are monotone, in any finite graph. Assumes nothing.
use Prim.Native.Nat.{ℕ, ◌<◌}
use mathlib.Core.Path.{◌≡◌, sym, ap, ◌∙◌}
use mathlib.Core.Logic.{◌⊎◌, inl, inr}
use mathlib.Core.Bool.{Bool, true, not, ◌&&◌, not-not}
use borrow.Author.Tests.{not-true}
use Rattle.ctl.specs.Lists.{imp}
use Rattle.ctl.specs.Evaluator.{some_next, each_next, round_eu, round_au}
use Rattle.ctl.proofs.BoolLaws.{true-T, T_true, imp-in, imp-out, and_both, and-make, or_cases, or_left, or_right, same_test, not-of, false_of, true-and-false}
use Rattle.ctl.proofs.ListLaws.{any-make, any-find, all-make, all-at}

module _ (n : ℕ) (edge : ℕ → ℕ → Bool) where
  pub some_next-make : (x : ℕ → Bool) (i j : ℕ) → j < n → edge i j ≡ true → x j ≡ true → some_next n edge x i ≡ true
  some_next-make x i j h e f = any-make n (λ j. edge i j && x j) j h (and-make (edge i j) (x j) e f)

  pub some_next-find : (x : ℕ → Bool) (i : ℕ) → some_next n edge x i ≡ true → (j : ℕ) × (j < n) × (edge i j ≡ true) × (x j ≡ true)
  some_next-find x i e =
      let r = any-find n (λ j. edge i j && x j) e in
      let b = and_both (edge i r.0) (x r.0) r.2 in
      (r.0, r.1, b.0, b.1)

  pub each_next-make : (x : ℕ → Bool) (i : ℕ) → ((j : ℕ) → j < n → edge i j ≡ true → x j ≡ true) → each_next n edge x i ≡ true
  each_next-make x i h = all-make n (λ j. imp (edge i j) (x j)) (λ j l. true-T (imp (edge i j) (x j)) (imp-in (edge i j) (x j) (λ t. T_true (x j) (h j l (true-T (edge i j) t)))))

  pub each_next-at : (x : ℕ → Bool) (i : ℕ) → each_next n edge x i ≡ true → (j : ℕ) → j < n → edge i j ≡ true → x j ≡ true
  each_next-at x i a j l e = true-T (x j) (imp-out (edge i j) (x j) (T_true (imp (edge i j) (x j)) (all-at n (λ j. imp (edge i j) (x j)) a j l)) (T_true (edge i j) e))

  -- tests that agree below n, and opposite tests
  pub some_next-same : (x y : ℕ → Bool) (i : ℕ) → ((j : ℕ) → j < n → x j ≡ y j) → some_next n edge x i ≡ some_next n edge y i
  some_next-same x y i h = same_test (some_next n edge x i) (some_next n edge y i)
      (λ e. let r = some_next-find x i e in some_next-make y i r.0 r.1 r.2 (sym (h r.0 r.1) ∙ r.3))
      (λ e. let r = some_next-find y i e in some_next-make x i r.0 r.1 r.2 (h r.0 r.1 ∙ r.3))

  pub each_next-same : (x y : ℕ → Bool) (i : ℕ) → ((j : ℕ) → j < n → x j ≡ y j) → each_next n edge x i ≡ each_next n edge y i
  each_next-same x y i h = same_test (each_next n edge x i) (each_next n edge y i)
      (λ e. each_next-make y i (λ j l f. sym (h j l) ∙ each_next-at x i e j l f))
      (λ e. each_next-make x i (λ j l f. h j l ∙ each_next-at y i e j l f))

  pub not-some_next : (x : ℕ → Bool) (i : ℕ) → not (some_next n edge x i) ≡ each_next n edge (λ j. not (x j)) i
  not-some_next x i = same_test (not (some_next n edge x i)) (each_next n edge (λ j. not (x j)) i)
      (λ e. each_next-make (λ j. not (x j)) i (λ j l f. not-of (x j) (false_of (x j) (λ t.
      true-and-false (some_next n edge x i) (some_next-make x i j l f t) (not-true (some_next n edge x i) e)))))
      (λ e. not-of (some_next n edge x i) (false_of (some_next n edge x i) (λ t.
      let r = some_next-find x i t in
      true-and-false (x r.0) r.3 (not-true (x r.0) (each_next-at (λ j. not (x j)) i e r.0 r.1 r.2)))))

  pub not-each_next : (x : ℕ → Bool) (i : ℕ) → not (each_next n edge x i) ≡ some_next n edge (λ j. not (x j)) i
  not-each_next x i =
      ap not (each_next-same x (λ j. not (not (x j))) i (λ j l. sym (not-not (x j))) ∙ sym (not-some_next (λ j. not (x j)) i))
      ∙ not-not (some_next n edge (λ j. not (x j)) i)

  module _ (p q : ℕ → Bool) where
    pub mono_eu : (x y : ℕ → Bool) → ((j : ℕ) → j < n → x j ≡ true → y j ≡ true) → (i : ℕ) → i < n → round_eu n edge p q x i ≡ true → round_eu n edge p q y i ≡ true
    mono_eu x y h i l e = go (or_cases (q i) (p i && some_next n edge x i) e)
      where
        go : (q i ≡ true) ⊎ ((p i && some_next n edge x i) ≡ true) → round_eu n edge p q y i ≡ true
        go (inl f) = or_left (q i) (p i && some_next n edge y i) f
        go (inr f) =
            let b = and_both (p i) (some_next n edge x i) f in
            let r = some_next-find x i b.1 in
            or_right (q i) (p i && some_next n edge y i)
            (and-make (p i) (some_next n edge y i) b.0 (some_next-make y i r.0 r.1 r.2 (h r.0 r.1 r.3)))

    -- the three parts of the right side of a round of AU
    pub AU-parts : (x : ℕ → Bool) (i : ℕ) → (p i && (some_next n edge (λ j. true) i && each_next n edge x i)) ≡ true →
        (p i ≡ true) × (some_next n edge (λ j. true) i ≡ true) × (each_next n edge x i ≡ true)
    AU-parts x i e =
        let b = and_both (p i) (some_next n edge (λ j. true) i && each_next n edge x i) e in
        let c = and_both (some_next n edge (λ j. true) i) (each_next n edge x i) b.1 in
        (b.0, c.0, c.1)

    pub AU-make : (x : ℕ → Bool) (i : ℕ) → p i ≡ true → some_next n edge (λ j. true) i ≡ true → each_next n edge x i ≡ true → round_au n edge p q x i ≡ true
    AU-make x i a b c =
        or_right (q i) (p i && (some_next n edge (λ j. true) i && each_next n edge x i))
        (and-make (p i) (some_next n edge (λ j. true) i && each_next n edge x i) a (and-make (some_next n edge (λ j. true) i) (each_next n edge x i) b c))

    pub mono_au : (x y : ℕ → Bool) → ((j : ℕ) → j < n → x j ≡ true → y j ≡ true) → (i : ℕ) → i < n → round_au n edge p q x i ≡ true → round_au n edge p q y i ≡ true
    mono_au x y h i l e = go (or_cases (q i) (p i && (some_next n edge (λ j. true) i && each_next n edge x i)) e)
      where
        go : (q i ≡ true) ⊎ ((p i && (some_next n edge (λ j. true) i && each_next n edge x i)) ≡ true) → round_au n edge p q y i ≡ true
        go (inl f) = or_left (q i) (p i && (some_next n edge (λ j. true) i && each_next n edge y i)) f
        go (inr f) =
            let b = AU-parts x i f in
            AU-make y i b.0 b.1 (each_next-make y i (λ j l e. h j l (each_next-at x i b.2 j l e)))

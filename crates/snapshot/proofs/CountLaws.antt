-- Numbers below n that fail a test, pass it, are two that pass, or are the only one that does. Assumes nothing.
use Prim.Native.Nat.{ℕ, zero, suc, ◌+◌, ◌≤◌, ◌<◌}
use native.Mathlib.Omega.{arith}
use mathlib.Core.Path.{◌≡◌, refl, sym, ap, ◌∙◌}
use mathlib.Core.Logic.{◌⊎◌, inl, inr}
use mathlib.Core.Bool.{Bool, true, false, ◌&&◌, true≢false}
use Rattle.wordset.specs.Below.{one, all_below, any_below, count_below, least}
use Rattle.wordset.proofs.BelowLaws.{lt-or-le, top, least_lt, least-holds}

module _ (P : ℕ → Bool) where
  pub some-fails : (n : ℕ) → all_below n P ≡ false → (i : ℕ) × (i < n) × (P i ≡ false)
  unfolding all_below
  some-fails zero e = absurd (true≢false e)
  some-fails (suc n) e = go (all_below n P) refl e (some-fails n)
    where
      go : (b : Bool) → all_below n P ≡ b → (b && P n) ≡ false → (all_below n P ≡ false → (i : ℕ) × (i < n) × (P i ≡ false)) → (i : ℕ) × (i < suc n) × (P i ≡ false)
      go true f e ih = (n, omega arith, e)
      go false f e ih = let r = ih f in (r.0, (let h = r.1 in omega arith), r.2)

  pub some-passes : (n : ℕ) → any_below n P ≡ true → (i : ℕ) × (i < n) × (P i ≡ true)
  some-passes n e = let h = least_lt n P e in (least n P, h, least-holds n P h)

  one-counted : (n : ℕ) → 1 ≤ count_below n P → (i : ℕ) × (i < n) × (P i ≡ true)
  unfolding count_below
  one-counted zero h = absurd (omega arith)
  one-counted (suc n) h = go (P n) refl h (one-counted n)
    where
      go : (b : Bool) → P n ≡ b → 1 ≤ count_below n P + one b → (1 ≤ count_below n P → (i : ℕ) × (i < n) × (P i ≡ true)) → (i : ℕ) × (i < suc n) × (P i ≡ true)
      go true e h ih = (n, omega arith, e)
      go false e h ih = let r = ih (omega arith) in (r.0, (let l = r.1 in omega arith), r.2)

  -- two numbers below n that pass
  pub record Two (n : ℕ) : Type 0 where
    pub first : ℕ
    pub second : ℕ
    pub apart : first < second
    pub within : second < n
    pub first_passes : P first ≡ true
    pub second-passes : P second ≡ true

  pub two-counted : (n : ℕ) → 2 ≤ count_below n P → Two n
  unfolding count_below
  two-counted zero h = absurd (omega arith)
  two-counted (suc n) h = go (P n) refl h (two-counted n)
    where
      go : (b : Bool) → P n ≡ b → 2 ≤ count_below n P + one b → (2 ≤ count_below n P → Two n) → Two (suc n)
      go true e h ih =
          let r = one-counted n (omega arith) in
          record { first = r.0; second = n; apart = r.1; within = omega arith; first_passes = r.2; second-passes = e }
      go false e h ih =
          let r = ih (omega arith) in
          record { first = r.first; second = r.second; apart = r.apart; within = (let l = r.within in omega arith); first_passes = r.first_passes; second-passes = r.second-passes }

  counted-one : (n i : ℕ) → i < n → P i ≡ true → 1 ≤ count_below n P
  unfolding count_below
  counted-one zero i h e = absurd (omega arith)
  counted-one (suc n) i h e = go (top i n h) (counted-one n i)
    where
      go : (i ≡ n) ⊎ (i < n) → (i < n → P i ≡ true → 1 ≤ count_below n P) → 1 ≤ count_below n P + one (P n)
      go (inl q) ih = let w : one (P n) ≡ 1 = ap one (sym (ap P q) ∙ e) in omega arith
      go (inr l) ih = let r = ih l e in omega arith

  pub counted-two : (n : ℕ) → Two n → 2 ≤ count_below n P
  unfolding count_below
  counted-two zero t = absurd (let h = t.within in omega arith)
  counted-two (suc n) t = go (top t.second n t.within) (counted-two n)
    where
      go : (t.second ≡ n) ⊎ (t.second < n) → (Two n → 2 ≤ count_below n P) → 2 ≤ count_below n P + one (P n)
      go (inl q) ih =
          let w : one (P n) ≡ 1 = ap one (sym (ap P q) ∙ t.second-passes) in
          let h = t.apart in
          let r = counted-one n t.first (omega arith) t.first_passes in
          omega arith
      go (inr l) ih =
          let r = ih (record { first = t.first; second = t.second; apart = t.apart; within = l; first_passes = t.first_passes; second-passes = t.second-passes }) in
          omega arith

  -- where at most one is counted, no two pass
  pub counted_same : (n : ℕ) → count_below n P ≤ 1 → (i j : ℕ) → i < n → j < n → P i ≡ true → P j ≡ true → i ≡ j
  counted_same n c i j hi hj pi pj = go (lt-or-le i j) (lt-or-le j i)
    where
      not-two : Two n → ⊥
      not-two t = let h = counted-two n t in omega arith

      go : (i < j) ⊎ (j ≤ i) → (j < i) ⊎ (i ≤ j) → i ≡ j
      go (inl l) m = absurd (not-two (record { first = i; second = j; apart = l; within = hj; first_passes = pi; second-passes = pj }))
      go (inr l) (inl m) = absurd (not-two (record { first = j; second = i; apart = m; within = hi; first_passes = pj; second-passes = pi }))
      go (inr l) (inr m) = omega arith

  -- one number below n passes, and no other
  pub record Only (n : ℕ) : Type 0 where
    pub the : ℕ
    pub within : the < n
    pub passes : P the ≡ true
    pub no_other : (j : ℕ) → j < n → P j ≡ true → j ≡ the

  pub only-counted : (n : ℕ) → count_below n P ≡ 1 → Only n
  only-counted n e =
      let r = one-counted n (omega arith) in
      record { the = r.0; within = r.1; passes = r.2; no_other = λ j h p. counted_same n (omega arith) j r.0 h r.1 p r.2 }

  -- where another number than 1 is counted, none passes, or two do
  pub not-one-counted : (n : ℕ) → (count_below n P ≡ 1 → ⊥) → ((i : ℕ) → i < n → P i ≡ true → ⊥) ⊎ Two n
  not-one-counted n f = go (lt-or-le (count_below n P) 1)
    where
      go : (count_below n P < 1) ⊎ (1 ≤ count_below n P) → ((i : ℕ) → i < n → P i ≡ true → ⊥) ⊎ Two n
      go (inl l) = inl (λ i h p. let c = counted-one n i h p in omega arith)
      go (inr l) = inr (two-counted n (omega arith))

-- Two tests of numbers compared: the same answers below n, a subset, how many pass. Assumes nothing.
use mathlib.Core.Path.{◌≡◌, refl, sym}
use mathlib.Core.Bool.{Bool, true, false, ◌&&◌, beq, true≢false, false≢true}
use Prim.Native.Nat.{ℕ, zero, suc, ◌+◌, ◌≤◌, ◌<◌}
use native.Mathlib.Omega.{arith}
use Rattle.wordset.specs.Below.{one, all_below, count_below}

pub beq-true : (s t : Bool) → beq s t ≡ true → s ≡ t
beq-true true true e = refl
beq-true true false e = absurd (false≢true e)
beq-true false true e = absurd (false≢true e)
beq-true false false e = refl

pub beq-refl : (s t : Bool) → s ≡ t → beq s t ≡ true
beq-refl true true e = refl
beq-refl true false e = absurd (true≢false e)
beq-refl false true e = absurd (false≢true e)
beq-refl false false e = refl

-- two Booleans, each true where the other is
pub both_ways : (s t : Bool) → (s ≡ true → t ≡ true) → (t ≡ true → s ≡ true) → s ≡ t
both_ways true true f g = refl
both_ways true false f g = sym (f refl)
both_ways false true f g = g refl
both_ways false false f g = refl

-- a subset has no more members, and one that is not the same has fewer
module _ (P Q : ℕ → Bool) where
  one-le : (s t : Bool) → (t ≡ true → s ≡ true) → one t ≤ one s
  one-le true true f = omega arith
  one-le true false f = omega arith
  one-le false true f = absurd (false≢true (f refl))
  one-le false false f = omega arith

  pub count-subset : (n : ℕ) → ((j : ℕ) → Q j ≡ true → P j ≡ true) → count_below n Q ≤ count_below n P
  unfolding count_below
  count-subset zero f = omega arith
  count-subset (suc n) f = omega (arith, count-subset n f, one-le (P n) (Q n) (f n))

  one-lt : (s t : Bool) → (t ≡ true → s ≡ true) → beq s t ≡ false → one t < one s
  one-lt true true f e = absurd (true≢false e)
  one-lt true false f e = omega arith
  one-lt false true f e = absurd (false≢true (f refl))
  one-lt false false f e = absurd (true≢false e)

  pub count-fewer : (n : ℕ) → ((j : ℕ) → Q j ≡ true → P j ≡ true) → all_below n (λ j. beq (P j) (Q j)) ≡ false → count_below n Q < count_below n P
  unfolding count_below all_below
  count-fewer zero f e = absurd (true≢false e)
  count-fewer (suc n) f e = go (all_below n (λ j. beq (P j) (Q j))) (beq (P n) (Q n)) refl refl e (count-fewer n f)
    where
      go : (s t : Bool) → all_below n (λ j. beq (P j) (Q j)) ≡ s → beq (P n) (Q n) ≡ t → (s && t) ≡ false
          → (all_below n (λ j. beq (P j) (Q j)) ≡ false → count_below n Q < count_below n P) → count_below n Q + one (Q n) < count_below n P + one (P n)
      go true true p q y ih = absurd (true≢false y)
      go true false p q y ih = omega (arith, count-subset n f, one-lt (P n) (Q n) (f n) q)
      go false t p q y ih = omega (arith, ih p, one-le (P n) (Q n) (f n))

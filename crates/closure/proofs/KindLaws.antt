-- The positive form of a formula by its kind, its number and its operands. Assumes nothing.
use mathlib.Core.Path.{◌≡◌, refl, sym, subst}
use mathlib.Core.Bool.{Bool, true, false, not}
use mathlib.Core.List.{[], ◌∷◌}
use Prim.Native.Nat.{ℕ, zero, suc, ◌+◌, ◌-◌, ◌≤◌, ◌<◌}
use native.Mathlib.Omega.{arith}
use lib.Dec.{eqb}
use lib.ListN.{get_or}
use Rattle.ctl.specs.Formula.{lit, nlit}
use Rattle.ctl.specs.Raw.{Raw}
use Rattle.ctl.specs.Positive.{signed}
use Rattle.expansion.specs.Operators.{next_form, join_form, unit_form, flip, letter_form, until_form, until_unit}

-- the formula of a kind, as the parser numbers them, a number and operands; q is the right or only one
abbrev pub raw_by : ℕ → ℕ → Raw → Raw → Raw
raw_by k a p q = get_or (Raw.zero ∷ Raw.one ∷ Raw.sym a ∷ Raw.neg q ∷ Raw.ex a q ∷ Raw.ax a q ∷ Raw.ef a q ∷ Raw.af a q ∷ Raw.eg a q ∷ Raw.ag a q
    ∷ Raw.imp p q ∷ Raw.or p q ∷ Raw.and p q ∷ Raw.eu a p q ∷ Raw.au a p q ∷ Raw.er a p q ∷ Raw.ar a p q ∷ []) k Raw.zero

from : (P : ℕ → Type 0) (a : ℕ) → (k : ℕ) → a ≤ k → ((o : ℕ) → k ≡ a + o → P (a + o)) → P k
from P a k h f = let e : k ≡ a + (k - a) = omega arith in subst P (sym e) (f (k - a) e)

module _ (a : ℕ) (p q : Raw) where
  pub sign-unit : (b : Bool) (k : ℕ) → k < 2 → signed b (raw_by k a p q) ≡ unit_form (flip (eqb k 1) b)
  unfolding signed
  sign-unit true zero h = refl
  sign-unit false zero h = refl
  sign-unit true (suc zero) h = refl
  sign-unit false (suc zero) h = refl
  sign-unit b (suc (suc k)) h = absurd (omega arith)

  pub sign-letter : (b : Bool) (k : ℕ) → k ≡ 2 → signed b (raw_by k a p q) ≡ letter_form b a
  unfolding signed
  sign-letter true k e = subst (λ k. signed true (raw_by k a p q) ≡ lit a) (sym e) refl
  sign-letter false k e = subst (λ k. signed false (raw_by k a p q) ≡ nlit a) (sym e) refl

  pub sign-neg : (b : Bool) (k : ℕ) → k ≡ 3 → signed b (raw_by k a p q) ≡ signed (not b) q
  unfolding signed
  sign-neg true k e = subst (λ k. signed true (raw_by k a p q) ≡ signed false q) (sym e) refl
  sign-neg false k e = subst (λ k. signed false (raw_by k a p q) ≡ signed true q) (sym e) refl

  next-at : (b : Bool) (o : ℕ) → o < 2 → signed b (raw_by (4 + o) a p q) ≡ next_form (flip (eqb (4 + o) 5) b) a (signed b q)
  unfolding signed
  next-at true zero h = refl
  next-at false zero h = refl
  next-at true (suc zero) h = refl
  next-at false (suc zero) h = refl
  next-at b (suc (suc o)) h = absurd (omega arith)

  pub sign-next : (b : Bool) (k : ℕ) → 4 ≤ k → k < 6 → signed b (raw_by k a p q) ≡ next_form (flip (eqb k 5) b) a (signed b q)
  sign-next b k h l = from (λ k. signed b (raw_by k a p q) ≡ next_form (flip (eqb k 5) b) a (signed b q)) 4 k h (λ o e. next-at b o (omega arith))

  lone-at : (b : Bool) (o : ℕ) → o < 4 → signed b (raw_by (6 + o) a p q) ≡ until_form o b a (unit_form (until_unit o b)) (signed b q)
  unfolding signed
  lone-at true zero h = refl
  lone-at false zero h = refl
  lone-at true (suc zero) h = refl
  lone-at false (suc zero) h = refl
  lone-at true (suc (suc zero)) h = refl
  lone-at false (suc (suc zero)) h = refl
  lone-at true (suc (suc (suc zero))) h = refl
  lone-at false (suc (suc (suc zero))) h = refl
  lone-at b (suc (suc (suc (suc o)))) h = absurd (omega arith)

  pub sign-lone : (b : Bool) (k o : ℕ) → 6 ≤ k → k < 10 → o ≡ k - 6 → signed b (raw_by k a p q) ≡ until_form o b a (unit_form (until_unit o b)) (signed b q)
  sign-lone b k o h l e = let e' : k ≡ 6 + o = omega arith in subst (λ k. signed b (raw_by k a p q) ≡ until_form o b a (unit_form (until_unit o b)) (signed b q)) (sym e') (lone-at b o (omega arith))

  join-at : (b : Bool) (o : ℕ) → o < 3 → signed b (raw_by (10 + o) a p q) ≡ join_form (flip (eqb (10 + o) 12) b) (signed (flip (eqb (10 + o) 10) b) p) (signed b q)
  unfolding signed
  join-at true zero h = refl
  join-at false zero h = refl
  join-at true (suc zero) h = refl
  join-at false (suc zero) h = refl
  join-at true (suc (suc zero)) h = refl
  join-at false (suc (suc zero)) h = refl
  join-at b (suc (suc (suc o))) h = absurd (omega arith)

  pub sign-join : (b : Bool) (k : ℕ) → 10 ≤ k → k < 13 → signed b (raw_by k a p q) ≡ join_form (flip (eqb k 12) b) (signed (flip (eqb k 10) b) p) (signed b q)
  sign-join b k h l = from (λ k. signed b (raw_by k a p q) ≡ join_form (flip (eqb k 12) b) (signed (flip (eqb k 10) b) p) (signed b q)) 10 k h (λ o e. join-at b o (omega arith))

  until-at : (b : Bool) (o : ℕ) → o < 4 → signed b (raw_by (13 + o) a p q) ≡ until_form o b a (signed (flip (eqb (13 + o) 10) b) p) (signed b q)
  unfolding signed
  until-at true zero h = refl
  until-at false zero h = refl
  until-at true (suc zero) h = refl
  until-at false (suc zero) h = refl
  until-at true (suc (suc zero)) h = refl
  until-at false (suc (suc zero)) h = refl
  until-at true (suc (suc (suc zero))) h = refl
  until-at false (suc (suc (suc zero))) h = refl
  until-at b (suc (suc (suc (suc o)))) h = absurd (omega arith)

  pub sign-until : (b : Bool) (k o : ℕ) → 13 ≤ k → k < 17 → o ≡ k - 13 → signed b (raw_by k a p q) ≡ until_form o b a (signed (flip (eqb k 10) b) p) (signed b q)
  sign-until b k o h l e = let e' : k ≡ 13 + o = omega arith in subst (λ k. signed b (raw_by k a p q) ≡ until_form o b a (signed (flip (eqb k 10) b) p) (signed b q)) (sym e') (until-at b o (omega arith))

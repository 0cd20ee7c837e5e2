-- Booleans as facts: `T b`, as definitions test them, and `b ≡ true`, as code and meaning say them. Assumes nothing.
use mathlib.Core.Path.{◌≡◌, refl, sym, ap, ◌∙◌, subst}
use mathlib.Core.Logic.{◌⊎◌, inl, inr, ◌↔◌}
use mathlib.Core.Bool.{Bool, true, false, not, ◌&&◌, ◌||◌, true≢false, false≢true}
use lib.Dec.{T}
use Rattle.ctl.specs.Lists.{imp}

-- ---- from one form to the other

pub true-T : (b : Bool) → T b → b ≡ true
true-T true t = refl
true-T false t = absurd t

pub T_true : (b : Bool) → b ≡ true → T b
T_true b e = subst T (sym e) tt

pub false-T : (b : Bool) → (T b → ⊥) → b ≡ false
false-T true f = absurd (f tt)
false-T false f = refl

pub T-cast : {a b : Bool} → a ≡ b → T a → T b
T-cast e t = subst T e t

pub T-cast⁻ : {a b : Bool} → a ≡ b → T b → T a
T-cast⁻ e t = subst T (sym e) t

pub decide_T : (b : Bool) → T b ⊎ (T b → ⊥)
decide_T true = inl tt
decide_T false = inr (λ t. t)

pub decide : (b : Bool) → (b ≡ true) ⊎ (b ≡ false)
decide true = inl refl
decide false = inr refl

pub true-and-false : (b : Bool) → b ≡ true → b ≡ false → ⊥
true-and-false b e f = true≢false (sym e ∙ f)

pub false_of : (b : Bool) → ¬ (b ≡ true) → b ≡ false
false_of true h = absurd (h refl)
false_of false h = refl

-- Booleans that are true together are equal
pub both_ways : (a b : Bool) → (T a → T b) → (T b → T a) → a ≡ b
both_ways true true f g = refl
both_ways true false f g = absurd (f tt)
both_ways false true f g = absurd (g tt)
both_ways false false f g = refl

pub same_test : (a b : Bool) → (a ≡ true → b ≡ true) → (b ≡ true → a ≡ true) → a ≡ b
same_test a b f g = both_ways a b (λ t. T_true b (f (true-T a t))) (λ t. T_true a (g (true-T b t)))

-- ---- and

pub and_in : (a b : Bool) → T a → T b → T (a && b)
and_in true b s t = t
and_in false b s t = s

pub and_0 : (a b : Bool) → T (a && b) → T a
and_0 true b t = tt
and_0 false b t = t

pub and-1 : (a b : Bool) → T (a && b) → T b
and-1 true b t = t
and-1 false b t = absurd t

pub and_both : (a b : Bool) → a && b ≡ true → (a ≡ true) × (b ≡ true)
and_both true b e = (refl, e)
and_both false b e = absurd (false≢true e)

pub and-make : (a b : Bool) → a ≡ true → b ≡ true → a && b ≡ true
and-make true b e f = f
and-make false b e f = e

-- ---- or

pub or-0 : (a b : Bool) → T a → T (a || b)
or-0 true b t = tt
or-0 false b t = absurd t

pub or-1 : (a b : Bool) → T b → T (a || b)
or-1 true b t = tt
or-1 false b t = t

pub or-out : (a b : Bool) → T (a || b) → T a ⊎ T b
or-out true b t = inl tt
or-out false b t = inr t

pub or_cases : (a b : Bool) → a || b ≡ true → (a ≡ true) ⊎ (b ≡ true)
or_cases true b e = inl refl
or_cases false b e = inr e

pub or_left : (a b : Bool) → a ≡ true → a || b ≡ true
or_left true b e = refl
or_left false b e = absurd (false≢true e)

pub or_right : (a b : Bool) → b ≡ true → a || b ≡ true
or_right true b e = refl
or_right false b e = e

-- ---- implication

pub imp-in : (a b : Bool) → (T a → T b) → T (imp a b)
imp-in true b f = f tt
imp-in false b f = tt

pub imp-out : (a b : Bool) → T (imp a b) → T a → T b
imp-out true b t s = t
imp-out false b t s = absurd s

-- ---- not

pub not_absurd : (a : Bool) → (T (not a) → ⊥) → T a
not_absurd true f = tt
not_absurd false f = f tt

pub not-of : (b : Bool) → b ≡ false → not b ≡ true
not-of b e = ap not e

pub not-and : (a b : Bool) → not (a && b) ≡ not a || not b
not-and true b = refl
not-and false b = refl

pub not-or : (a b : Bool) → not (a || b) ≡ not a && not b
not-or true b = refl
not-or false b = refl

-- ---- what facts turn into, for `simp`

pub and-iff : (a b : Bool) → T (a && b) ↔ (T a × T b)
and-iff a b = (λ h. (and_0 a b h, and-1 a b h), λ p. and_in a b p.0 p.1)

pub imp-iff : (a b : Bool) → T (imp a b) ↔ (T a → T b)
imp-iff a b = (imp-out a b, imp-in a b)

-- ---- tests that say what propositions say

module _ {P : Type 0} where
  -- a test that equals another
  pub along : {a b : Bool} → a ≡ b → (b ≡ true) ↔ P → (a ≡ true) ↔ P
  along e h = (λ f. h.0 (sym e ∙ f), λ g. e ∙ h.1 g)

  pub not-says : (b : Bool) → (b ≡ true) ↔ P → (not b ≡ true) ↔ (¬ P)
  not-says true h = (λ e. absurd (false≢true e), λ n. absurd (n (h.0 refl)))
  not-says false h = (λ e p. false≢true (h.1 p), λ n. refl)

  pub and-says : {Q : Type 0} (a b : Bool) → (a ≡ true) ↔ P → (b ≡ true) ↔ Q → ((a && b) ≡ true) ↔ (P × Q)
  and-says a b f g = (λ e. let r = and_both a b e in (f.0 r.0, g.0 r.1), λ h. and-make a b (f.1 h.0) (g.1 h.1))

  pub or-says : {Q : Type 0} (a b : Bool) → (a ≡ true) ↔ P → (b ≡ true) ↔ Q → ((a || b) ≡ true) ↔ (P ⊎ Q)
  or-says {Q} a b f g = (λ e. there (or_cases a b e), back)
    where
      there : (a ≡ true) ⊎ (b ≡ true) → P ⊎ Q
      there (inl e) = inl (f.0 e)
      there (inr e) = inr (g.0 e)

      back : P ⊎ Q → (a || b) ≡ true
      back (inl h) = or_left a b (f.1 h)
      back (inr h) = or_right a b (g.1 h)

  pub imp-says : {Q : Type 0} (a b : Bool) → (a ≡ true) ↔ P → (b ≡ true) ↔ Q → ((not a || b) ≡ true) ↔ (P → Q)
  imp-says true b f g = (λ e h. g.0 e, λ h. g.1 (h (f.0 refl)))
  imp-says false b f g = (λ e h. absurd (false≢true (f.1 h)), λ h. refl)

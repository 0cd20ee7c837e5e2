-- The first of the types of a set that pass a test is the least one of them. Assumes nothing.
use mathlib.Core.Path.{◌≡◌, refl, sym, ap, ◌∙◌}
use mathlib.Core.Bool.{Bool, true, false, ◌&&◌, true≢false}
use mathlib.Core.List.{List}
use mathlib.Core.Logic.{◌⊎◌, inl, inr}
use Rattle.std.specs.Prelude.{Some, None}
use Prim.Native.Nat.{ℕ, zero, suc, ◌+◌, ◌*◌, ◌≤◌, ◌<◌}
use native.Mathlib.Omega.{arith}
use Rattle.ctl.specs.Lists.{keep, put, count_from, below}
use Rattle.ctl.proofs.ListLaws.{keep-twice}
use Rattle.wordset.proofs.BelowLaws.{same_or, any_false, least-holds, least-below}
use Rattle.wordset.specs.Below.{any_below, least}
use Rattle.wordset.specs.Words.{member}
use Rattle.truth.specs.Blocks.{list_of}
use Rattle.goal.specs.Goals.{first_of}

module _ (P : ℕ → Bool) where
  first-from : (a n t : ℕ) → a ≤ t → t < a + n → P t ≡ true → ((k : ℕ) → k < t → P k ≡ false) → first_of (keep P (count_from a n)) ≡ Some t
  unfolding first_of
  first-from a zero t h l e f = absurd (omega arith)
  first-from a (suc n) t h l e f = go (P a) refl (same_or a t) (λ s. first-from (suc a) n t (omega arith) (omega arith) e f)
    where
      go : (b : Bool) → P a ≡ b → (a ≡ t) ⊎ (a ≡ t → ⊥) → ((a ≡ t → ⊥) → first_of (keep P (count_from (suc a) n)) ≡ Some t) → first_of (put b a (keep P (count_from (suc a) n))) ≡ Some t
      go true q (inl s) later = ap Some s
      go true q (inr s) later = absurd (true≢false (sym q ∙ f a (omega arith)))
      go false q (inl s) later = absurd (true≢false (sym e ∙ ap P (sym s) ∙ q))
      go false q (inr s) later = later s

  none_from : (a n : ℕ) → ((k : ℕ) → k < a + n → P k ≡ false) → first_of (keep P (count_from a n)) ≡ None
  unfolding first_of
  none_from a zero f = refl
  none_from a (suc n) f = ap (λ b. first_of (put b a (keep P (count_from (suc a) n)))) (f a (omega arith)) ∙ none_from (suc a) n (λ k l. f k (omega arith))

module _ (w : ℕ) (ws : List ℕ) (Q : ℕ → Bool) where
  abbrev both : ℕ → Bool
  both t = member ws t && Q t

  pub first_found : (t : ℕ) → t < w * 64 → t ≡ least (w * 64) both → Some t ≡ first_of (keep Q (list_of w ws))
  unfolding list_of
  first_found t l e =
      let h : least (w * 64) both < w * 64 = omega arith in
      sym (ap first_of (keep-twice (member ws) Q (below (w * 64)))
      ∙ first-from both 0 (w * 64) t (omega arith) (omega arith) (ap both e ∙ least-holds (w * 64) both h) (λ k i. least-below (w * 64) both k (omega arith)))

  pub first-none : false ≡ any_below (w * 64) both → None ≡ first_of (keep Q (list_of w ws))
  unfolding list_of
  first-none e = sym (ap first_of (keep-twice (member ws) Q (below (w * 64))) ∙ none_from both 0 (w * 64) (λ k l. any_false both (w * 64) (sym e) k (omega arith)))

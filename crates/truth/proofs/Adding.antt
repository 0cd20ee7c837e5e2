-- The loop over the modes of a set that adds a place to a block for each. Assumes nothing.
use mathlib.Core.Path.{◌≡◌, refl, sym, ap, ◌∙◌}
use mathlib.Core.Bool.{Bool, true, false, not, ◌&&◌, ◌||◌, or_assoc, or-false, false≢true}
use mathlib.Core.List.{List}
use Prim.Native.Nat.{ℕ, ◌^◌, ◌<◌}
use native.Mathlib.Omega.{arith}
use lib.Count.{count_trailing_zeros}
use lib.ListN.{length}
use Rattle.ctl.specs.Modes.{has_mode}
use Rattle.ctl.specs.Types.{in_type}
use Rattle.wordset.specs.Below.{any_below}
use Rattle.truth.specs.Blocks.{BlockIs, Redone, added, turned}
use Rattle.truth.proofs.Joining.{modes-lowest, modes-none}
use Rattle.truth.proofs.Redoing.{redone-as, redone-then}
use Rattle.truth.proofs.Sifting.{less, less-lt, lowest}

add_turned : (n x y : Bool) → turned n (added n x y) ≡ (turned n x || turned n y)
add_turned true true y = refl
add_turned true false y = refl
add_turned false x y = refl

turned-add : (n x p s : Bool) → (turned n x || false) ≡ (turned n p || s) → x ≡ added n p (turned n s)
turned-add true true true s e = ap not e
turned-add true true false s e = absurd (false≢true e)
turned-add true false true s e = ap not e
turned-add true false false s e = refl
turned-add false x p s e = sym (or-false x) ∙ e

-- F m is the test of mode m. What block i answers, with the modes in `left` added, is what it answered in d, with those of a added
pub record Adding (n : Bool) (F : ℕ → ℕ → Bool) (w i a : ℕ) (d ws : List ℕ) (left : ℕ) : Type 0 where
  pub fits : left < 2 ^ 16
  pub long : length ws ≡ length d
  pub test : (ℕ → Bool) → ℕ → Bool
  pub step : (P : ℕ → Bool) → BlockIs P w i d → Redone w i (test P) d ws
  pub is : (P : ℕ → Bool) (t : ℕ) → (turned n (test P t) || any_below 16 (λ m. has_mode left m && turned n (F m t))) ≡ (turned n (P t) || any_below 16 (λ m. has_mode a m && turned n (F m t)))

module _ {n : Bool} {F : ℕ → ℕ → Bool} {w i a : ℕ} {d : List ℕ} where
  pub adding-start : {left : ℕ} → left ≡ a → a < 2 ^ 16 → Adding n F w i a d d left
  adding-start e h = record {
    fits = omega arith;
    long = refl;
    test = λ P. P;
    step = λ P b. record { long = refl; before = λ j l. refl; block = b };
    is = λ P t. ap (λ (z : ℕ). turned n (P t) || any_below 16 (λ m. has_mode z m && turned n (F m t))) e;
  }

  module _ {ws : List ℕ} {left : ℕ} (s : Adding n F w i a d ws left) where
    pub adding-low : (left ≡ 0 → ⊥) → count_trailing_zeros 64 left < 16
    adding-low z = (lowest 16 left (omega arith) s.fits z).0

    pub adding-on : (left ≡ 0 → ⊥) → (r : ℕ) → ((t : ℕ) → in_type t r ≡ F (count_trailing_zeros 64 left) t) → {vs : List ℕ} → length vs ≡ length ws
        → ((P : ℕ → Bool) → BlockIs P w i ws → Redone w i (λ t. added n (P t) (in_type t r)) ws vs) → Adding n F w i a d vs (less left)
    adding-on z r e l f = record {
      fits = (let x = s.fits in let y = less-lt left z in omega arith);
      long = l ∙ s.long;
      test = λ P t. added n (s.test P t) (in_type t r);
      step = λ P b. (let u = s.step P b in redone-then u (f (s.test P) u.block));
      is = λ P t.
          (let m = count_trailing_zeros 64 left in let R = any_below 16 (λ j. has_mode (less left) j && turned n (F j t)) in
          ap (λ v. v || R) (add_turned n (s.test P t) (in_type t r) ∙ ap (λ v. turned n (s.test P t) || turned n v) (e t))
          ∙ or_assoc (turned n (s.test P t)) (turned n (F m t)) R
          ∙ ap (λ v. turned n (s.test P t) || v) (sym (modes-lowest (λ j. turned n (F j t)) left s.fits z)) ∙ s.is P t);
    }

    pub adding-end : left ≡ 0 → (P : ℕ → Bool) → BlockIs P w i d → Redone w i (λ t. added n (P t) (turned n (any_below 16 (λ m. has_mode a m && turned n (F m t))))) d ws
    adding-end z P b =
        redone-as (λ t. turned-add n (s.test P t) (P t) _ (ap (λ v. turned n (s.test P t) || v) (sym (modes-none (λ m. turned n (F m t)) left z)) ∙ s.is P t)) (s.step P b)

-- The loop over the modes of a set: what is linked by one of them is dropped. For any word count. Assumes nothing.
use mathlib.Core.Path.{◌≡◌, refl, sym, ap, ◌∙◌}
use mathlib.Core.Bool.{and-false, and-true, Bool, true, false, not, ◌&&◌, ◌||◌}
use mathlib.Core.List.{List}
use Prim.Native.Nat.{ℕ, ◌*◌, ◌^◌, ◌≤◌, ◌<◌}
use native.Mathlib.Omega.{arith}
use lib.Count.{count_trailing_zeros}
use lib.ListN.{length}
use Rattle.ctl.specs.Modes.{has_mode}
use Rattle.wordset.specs.Below.{any_below}
use Rattle.wordset.specs.Words.{member, minus, packed}
use Rattle.truth.proofs.Joining.{modes-lowest, modes-none}
use Rattle.truth.proofs.ListWords.{held, minus-member}
use Rattle.truth.proofs.Sifting.{less, less-lt, lowest}
use Rattle.conditions.specs.Entries.{in_some, linked_to}
use Rattle.image.proofs.Confining.{free-linked}
use Rattle.image.proofs.Draining.{linked-ext}

-- `rest` was filled with those of src that are not in u
module _ (w : ℕ) (cw : List ℕ) (a : ℕ) (src u rest₀ rest : List ℕ) (h : w ≤ length src) (k : w ≤ length rest₀) (e : rest ≡ packed w (λ j. member src j && not (member u j)) rest₀) where
  linked-less : (t : ℕ) → linked_to w cw a (member rest) t ≡ linked_to w cw a (member (minus w src u)) t
  linked-less t =
      linked-ext w cw a (member rest) (member (minus w src u)) t
      (λ j i. held (λ j. member src j && not (member u j)) rest₀ rest w k e j i ∙ sym (minus-member src u (minus w src u) w h refl j i))

  -- dst lost what is linked to one of them
  pub drained-less : (dst dst' : List ℕ) → ((t : ℕ) → t < w * 64 → member dst' t ≡ (member dst t && not (linked_to w cw a (member rest) t)))
      → (t : ℕ) → t < w * 64 → member dst' t ≡ (member dst t && not (linked_to w cw a (member (minus w src u)) t))
  drained-less dst dst' f t l = f t l ∙ ap (λ x. member dst t && not x) (linked-less t)

  -- one of them refuses nothing, and dst lost all
  pub freed-less : (R : ℕ → Bool) → ((t : ℕ) → t < w * 64 → R t ≡ in_some w cw a t) → any_below (w * 64) (λ t. member rest t && not (R t)) ≡ true → (dst dst' : List ℕ)
      → ((t : ℕ) → t < w * 64 → member dst' t ≡ false) → (t : ℕ) → t < w * 64 → member dst' t ≡ (member dst t && not (linked_to w cw a (member (minus w src u)) t))
  freed-less R f g dst dst' n t l =
      n t l ∙ sym (and-false (member dst t)) ∙ ap (λ x. member dst t && not x) (sym (free-linked w cw a (member rest) R f g t) ∙ linked-less t)

-- a set less itself
pub nothing-less : (w : ℕ) (s d d' : List ℕ) → w ≤ length d → d' ≡ packed w (λ j. member s j && not (member s j)) d → (t : ℕ) → t < w * 64 → member d' t ≡ false
nothing-less w s d d' h e t l = held (λ j. member s j && not (member s j)) d d' w h e t l ∙ none (member s t)
  where
    none : (b : Bool) → (b && not b) ≡ false
    none true = refl
    none false = refl

-- d lacks those of d₀ that pass F for a mode of a that is not in `left`
pub record Moded (F : ℕ → ℕ → Bool) (w a : ℕ) (d₀ rest₀ d rest : List ℕ) (left : ℕ) : Type 0 where
  pub fits : left < 2 ^ 16
  pub long : length d ≡ length d₀
  pub long_rest : length rest ≡ length rest₀
  pub is : (t : ℕ) → t < w * 64 → (member d t && not (any_below 16 (λ j. has_mode left j && F j t))) ≡ (member d₀ t && not (any_below 16 (λ j. has_mode a j && F j t)))

module _ {F : ℕ → ℕ → Bool} {w a : ℕ} {d₀ rest₀ : List ℕ} where
  module _ {d rest : List ℕ} {left : ℕ} (s : Moded F w a d₀ rest₀ d rest left) where
    pub mode-low : (left ≡ 0 → ⊥) → count_trailing_zeros 64 left < 16
    mode-low n = (lowest 16 left (omega arith) s.fits n).0

    -- what passes F for the lowest mode was dropped
    module _ (n : left ≡ 0 → ⊥) (d' : List ℕ) (f : (t : ℕ) → t < w * 64 → member d' t ≡ (member d t && not (F (count_trailing_zeros 64 left) t))) where
      now-is : (t : ℕ) → t < w * 64 → (member d' t && not (any_below 16 (λ j. has_mode (less left) j && F j t))) ≡ (member d₀ t && not (any_below 16 (λ j. has_mode a j && F j t)))
      now-is t l =
          let r = any_below 16 (λ j. has_mode (less left) j && F j t) in
          ap (λ x. x && not r) (f t l) ∙ out (member d t) (F (count_trailing_zeros 64 left) t) r ∙ ap (λ z. member d t && not z) (sym (modes-lowest (λ j. F j t) left s.fits n)) ∙ s.is t l
        where
          out : (d f r : Bool) → ((d && not f) && not r) ≡ (d && not (f || r))
          out true true r = refl
          out true false r = refl
          out false f r = refl

      pub mode-on : (rest' : List ℕ) → length d' ≡ length d → length rest' ≡ length rest → Moded F w a d₀ rest₀ d' rest' (less left)
      mode-on rest' e g = record { fits = (let x = s.fits in let y = less-lt left n in omega arith); long = e ∙ s.long; long_rest = g ∙ s.long_rest; is = now-is }

      -- none is left
      pub mode-none : ((t : ℕ) → t < w * 64 → member d' t ≡ false) → (t : ℕ) → t < w * 64 → member d' t ≡ (member d₀ t && not (any_below 16 (λ j. has_mode a j && F j t)))
      mode-none e t l = e t l ∙ sym (ap (λ z. z && not (any_below 16 (λ j. has_mode (less left) j && F j t))) (e t l)) ∙ now-is t l

    pub mode-end : left ≡ 0 → (t : ℕ) → t < w * 64 → member d t ≡ (member d₀ t && not (any_below 16 (λ j. has_mode a j && F j t)))
    mode-end e t l =
        sym (and-true (member d t))
        ∙ ap (λ z. member d t && not z) (sym (modes-none (λ j. F j t) left e)) ∙ s.is t l

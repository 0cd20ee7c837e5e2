-- Words of entries, and the numbers of a word that is shifted round by half. Assumes nothing.
use mathlib.Core.Path.{◌≡◌, sym, ap, ap₂, ◌∙◌}
use mathlib.Core.Bool.{Bool, not, ◌&&◌, ◌||◌, and_assoc, or-false}
use mathlib.Core.List.{List}
use mathlib.Core.Logic.{⊎_elim}
use Prim.Native.Nat.{ℕ, ◌+◌, ◌-◌, ◌*◌, ◌/◌, ◌%◌, ◌^◌, ◌≤◌, ◌<◌}
use native.Mathlib.Omega.{arith}
use lib.Bits.{bit_and, bit_or}
use Rattle.truth.proofs.BlockLaws.{word-as, word-not}
use Rattle.truth.proofs.Sifting.{Sifting}
use Rattle.wordset.proofs.AnswersLaws.{and-answers}
use Rattle.wordset.proofs.BelowLaws.{any-ext, lt-or-le}
use Rattle.wordset.proofs.BitLaws.{bit-minus, bit-none, bit-or, bit_past, bit-shr}
use Rattle.wordset.specs.Answers.{Answers}
use Rattle.wordset.specs.Below.{any_below}
use Rattle.wordset.specs.Word.{bit}
use Rattle.conditions.proofs.LinkLaws.{up, up-high, up-low}
use Rattle.truth.specs.Blocks.{has}
use Rattle.conditions.specs.Entries.{in_some}
use Rattle.image.specs.Covering.{RefusedBy}
use Rattle.image.specs.Narrowing.{not_all}

-- the loop over the entries that have a type: nothing is left
pub refused_end : (w : ℕ) (cw : List ℕ) (a t : ℕ) {rest acc : ℕ} → Sifting (λ c. has w cw c t) a rest acc → a < 2 ^ 64 → rest ≡ 0 → RefusedBy w cw a t acc
refused_end w cw a t {rest} {acc} s h e c =
    ⊎_elim
    (λ l. sym (or-false (bit acc c)) ∙ sym (ap (λ z. bit acc c || (z && has w cw c t)) (ap (λ (n : ℕ). bit n c) e ∙ bit-none c)) ∙ s.is c l)
    (λ l. bit_past 64 acc s.small c l ∙ sym (ap (λ z. z && has w cw c t) (bit_past 64 a h c l))) (lt-or-le c 64)

-- ---- a word shifted round by half

pub bit-half : (r : ℕ) → r < 2 ^ 64 → (c : ℕ) → c < 64 → bit (bit_or (r / 2 ^ 32) ((r * 2 ^ 32) % 2 ^ 64)) c ≡ bit r ((c + 32) % 64)
bit-half r h c l = bit-or (r / 2 ^ 32) (up r) c ∙ ⊎_elim low high (lt-or-le c 32)
  where
    low : c < 32 → (bit (r / 2 ^ 32) c || bit (up r) c) ≡ bit r ((c + 32) % 64)
    low g = let e : 32 + c ≡ (c + 32) % 64 = omega arith in ap₂ ◌||◌ (bit-shr r 32 c ∙ ap (bit r) e) (up-low r c g) ∙ or-false (bit r ((c + 32) % 64))

    high : 32 ≤ c → (bit (r / 2 ^ 32) c || bit (up r) c) ≡ bit r ((c + 32) % 64)
    high g =
        let e : c ≡ 32 + (c - 32) = omega arith in
        let f : (c + 32) % 64 ≡ c - 32 = omega arith in
        ap₂ ◌||◌ (bit_past 32 (r / 2 ^ 32) (omega arith) c g) (ap (bit (up r)) e ∙ up-high r (c - 32) (omega arith) ∙ ap (bit r) (sym f))

-- ---- types that refuse less

pub fewer-none : (Q : ℕ → Bool) {k x : ℕ} → x ≡ 0 → (P : ℕ → Bool) → Answers P k x → Answers (λ u. P u && Q u) k 0
fewer-none Q {k} e P a = record {
  small = omega arith;
  each = λ b h. ap (λ z. z && Q (k * 64 + b)) (a.each b h ∙ ap (λ (y : ℕ). bit y b) e ∙ bit-none b) ∙ sym (bit-none b);
}

module _ (w : ℕ) (cw : List ℕ) (a r : ℕ) where
  -- u is in none of the entries a but those of r
  abbrev no_other : ℕ → Bool
  no_other u = not (any_below 64 (λ c. (bit a c && not (bit r c)) && has w cw c u))

  -- of those of x none is left that lacks an entry of r
  pub fewer-lacking : {k x y : ℕ} → Answers (not_all w cw r) k y → bit_and x y ≡ 0 → (P : ℕ → Bool) → Answers P k x → Answers (λ u. P u && (not_all w cw r u && no_other u)) k 0
  fewer-lacking p e P o = word-as (λ u. and_assoc (P u) (not_all w cw r u) (no_other u)) (fewer-none no_other e (λ u. P u && not_all w cw r u) (and-answers o p))

  pub fewer-some : {k x y z : ℕ} → r < 2 ^ 64 → Answers (not_all w cw r) k y → Answers (in_some w cw (bit_and a ((2 ^ 64 - 1) - r))) k z
      → (P : ℕ → Bool) → Answers P k x → Answers (λ u. P u && (not_all w cw r u && no_other u)) k (bit_and (bit_and x y) ((2 ^ 64 - 1) - z))
  unfolding in_some
  fewer-some h p q P o =
      word-as (λ u. and_assoc (P u) (not_all w cw r u) (no_other u))
      (and-answers (and-answers o p) (word-as (λ u. ap not (any-ext (λ c. bit (bit_and a ((2 ^ 64 - 1) - r)) c && has w cw c u) (λ c. (bit a c && not (bit r c)) && has w cw c u) 64
      (λ c l. ap (λ z. z && has w cw c u) (bit-minus 64 c a r h l)))) (word-not q)))

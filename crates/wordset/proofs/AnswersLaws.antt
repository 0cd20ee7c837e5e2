-- Which words answer a test, and that there is one only. Assumes nothing.
use mathlib.Core.Path.{◌≡◌, sym, ap, ap₂, ◌∙◌}
use mathlib.Core.Bool.{Bool, ◌&&◌, ◌||◌, not, beq}
use mathlib.Core.List.{List}
use Prim.Native.Nat.{ℕ, ◌+◌, ◌-◌, ◌*◌, ◌^◌, ◌<◌}
use lib.Bits.{bit_and, bit_or, and_lt, or_lt}
use lib.Dec.{eqb}
use lib.ListN.{get_or, take}
use lib.Seq.{get_or-take}
use lib.Pow.{ones_sub-lt}
use borrow.Author.Tests.{eq-eqb, eqb-true}
use Rattle.wordset.specs.Answers.{Answers}
use Rattle.wordset.specs.Below.{all_below}
use Rattle.wordset.specs.Word.{bit}
use Rattle.wordset.specs.Words.{member}
use Rattle.wordset.proofs.BelowLaws.{all-intro, all-elim}
use Rattle.wordset.proofs.BitLaws.{bit-and, bit-or, bit-minus, bit-ext, word_of-is}
use Rattle.wordset.proofs.CompareLaws.{beq-true, beq-refl, both_ways}
use Rattle.wordset.proofs.WordLaws.{member-at}
use Rattle.wordset.proofs.PackLaws.{pack_word}

pub answers-word : {P : ℕ → Bool} {i x : ℕ} → Answers P i x → x ≡ pack_word P i
answers-word {P} {i} {x} a = word_of-is 64 (λ b. P (i * 64 + b)) x a.small (λ b h. sym (a.each b h))

-- ---- which words answer

pub word-answers : (ws : List ℕ) (i : ℕ) → get_or ws i 0 < 2 ^ 64 → Answers (member ws) i (get_or ws i 0)
word-answers ws i h = record { small = h; each = member-at ws i }

-- the same among the first w words
pub front-answers : (ws : List ℕ) (w i : ℕ) → i < w → get_or ws i 0 < 2 ^ 64 → Answers (member ws) i (get_or (take w ws) i 0)
front-answers ws w i l h = rw (get_or-take w ws i 0 l) (word-answers ws i h)

module _ {P Q : ℕ → Bool} {i x y : ℕ} (p : Answers P i x) (q : Answers Q i y) where
  -- a word whose digits are f of those of x and y
  by_digits : (f : Bool → Bool → Bool) {v : ℕ} → v < 2 ^ 64 → ((b : ℕ) → b < 64 → bit v b ≡ f (bit x b) (bit y b)) → Answers (λ j. f (P j) (Q j)) i v
  by_digits f h e = record { small = h; each = λ b l. ap₂ f (p.each b l) (q.each b l) ∙ sym (e b l) }

  pub and-answers : Answers (λ j. P j && Q j) i (bit_and x y)
  and-answers = by_digits ◌&&◌ (and_lt 64 x y p.small q.small) (λ b h. bit-and x y b)

  pub or-answers : Answers (λ j. P j || Q j) i (bit_or x y)
  or-answers = by_digits ◌||◌ (or_lt 64 x y p.small q.small) (λ b h. bit-or x y b)

  pub minus-answers : Answers (λ j. P j && not (Q j)) i (bit_and x ((2 ^ 64 - 1) - y))
  minus-answers = by_digits (λ s t. s && not t) (and_lt 64 x ((2 ^ 64 - 1) - y) p.small (ones_sub-lt 64 y)) (λ b h. bit-minus 64 b x y q.small h)

  -- the words are equal exactly if the tests agree
  pub equal-answers : all_below 64 (λ b. beq (P (i * 64 + b)) (Q (i * 64 + b))) ≡ eqb x y
  equal-answers =
      both_ways (all_below 64 same) (eqb x y)
      (λ e. eq-eqb x y (bit-ext 64 x y p.small q.small (λ b h. sym (p.each b h) ∙ beq-true _ _ (all-elim same 64 e b h) ∙ q.each b h)))
      (λ e. all-intro same 64 (λ b h. beq-refl _ _ (p.each b h ∙ ap (λ (n : ℕ). bit n b) (eqb-true x y e) ∙ sym (q.each b h))))
    where
      same : ℕ → Bool
      same b = beq (P (i * 64 + b)) (Q (i * 64 + b))

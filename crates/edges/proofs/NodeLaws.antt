-- Sets of nodes in words: loops that gather one, all nodes, the opposite of a set, and rounds. Assumes nothing.
use Prim.Native.Nat.{ℕ, ◌+◌, ◌-◌, ◌*◌, ◌^◌, ◌≤◌, ◌<◌}
use native.Mathlib.Omega.{arith}
use native.Mathlib.Numerals.{add-one}
use native.Mathlib.Nat.{lt_of_le_of_lt}
use mathlib.Core.Path.{◌≡◌, refl, sym, ap, ap₂, ◌∙◌, subst}
use mathlib.Core.Bool.{Bool, true, not, ◌&&◌}
use lib.Bits.{bit_and, and_le_l}
use lib.Pow.{pow_pos}
use Rattle.wordset.specs.Below.{one}
use Rattle.wordset.specs.Word.{bit, word_of}
use Rattle.wordset.proofs.BitLaws.{bit-and, bit-ext, bit-none, bit_not, bit-word_of, word_of-lt}
use Rattle.edges.specs.Nodes.{flip_word, full_word, repeat}

-- ---- gathering the numbers that pass P, one after the other

module _ (P : ℕ → Bool) where
  pub gathered-none : 0 ≡ word_of 0 P
  unfolding word_of
  gathered-none = refl

  pub gathered-small : {x : ℕ} (i : ℕ) → x ≡ word_of i P → x < 2 ^ i
  gathered-small i e = subst (λ z. z < 2 ^ i) (sym e) (word_of-lt i P)

  pub gathered-next : {x y : ℕ} {t : Bool} (i : ℕ) → x ≡ word_of i P → y ≡ x + one t * 2 ^ i → t ≡ P i → y ≡ word_of (i + 1) P
  unfolding word_of
  gathered-next i e g f = g ∙ ap₂ (λ a b. a + one b * 2 ^ i) e f ∙ ap (λ k. word_of k P) (sym (add-one i))

-- ---- all nodes, and the others

-- 2 ^ n - 1 has every number below n
bit-ones : (n i : ℕ) → i < n → bit (2 ^ n - 1) i ≡ true
bit-ones n i h = ap (λ x. bit x i) (omega arith) ∙ bit_not n i 0 (pow_pos n) h ∙ ap not (bit-none i)

pub full_is : (n : ℕ) → 2 ^ n - 1 ≡ full_word n
unfolding full_word
full_is n = bit-ext n (2 ^ n - 1) (word_of n (λ i. true)) (let p = pow_pos n in omega arith) (word_of-lt n (λ i. true)) (λ i h. bit-ones n i h ∙ sym (bit-word_of n (λ i. true) i h))

full-lt : (n : ℕ) → full_word n < 2 ^ n
unfolding full_word
full-lt n = word_of-lt n (λ i. true)

pub bit-full : (n i : ℕ) → i < n → bit (full_word n) i ≡ true
unfolding full_word
bit-full n i h = bit-word_of n (λ i. true) i h

pub bit-flip : (n x i : ℕ) → i < n → bit (flip_word n x) i ≡ not (bit x i)
unfolding flip_word
bit-flip n x i h = bit-word_of n (λ i. not (bit x i)) i h

pub flip-lt : (n x : ℕ) → flip_word n x < 2 ^ n
unfolding flip_word
flip-lt n x = word_of-lt n (λ i. not (bit x i))

pub flip_is : (n x : ℕ) → n ≤ 16 → x < 2 ^ 64 → bit_and (full_word n) ((2 ^ 64 - 1) - x) ≡ flip_word n x
unfolding flip_word
flip_is n x hn hx =
    bit-ext n (bit_and (full_word n) ((2 ^ 64 - 1) - x)) (word_of n (λ i. not (bit x i)))
    (lt_of_le_of_lt (and_le_l (full_word n) ((2 ^ 64 - 1) - x)) (full-lt n)) (word_of-lt n (λ i. not (bit x i)))
    (λ i h. bit-and (full_word n) ((2 ^ 64 - 1) - x) i ∙ ap₂ ◌&&◌ (bit-full n i h) (bit_not 64 i x hx (omega arith)) ∙ sym (bit-word_of n (λ i. not (bit x i)) i h))

-- ---- rounds

pub repeat-none : (f : ℕ → ℕ) → 0 ≡ repeat 0 f
unfolding repeat
repeat-none f = refl

pub repeat-on : (f : ℕ → ℕ) (k x y : ℕ) → x ≡ repeat k f → y ≡ f x → y ≡ repeat (k + 1) f
unfolding repeat
repeat-on f k x y e g = g ∙ ap f e ∙ ap (λ j. repeat j f) (sym (add-one k))

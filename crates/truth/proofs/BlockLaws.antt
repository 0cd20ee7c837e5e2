-- Words that answer tests, and blocks of words, for any word count. Assumes nothing.
use mathlib.Core.Path.{◌≡◌, sym, ap, ◌∙◌}
use mathlib.Core.Bool.{Bool, true, false, not}
use mathlib.Core.List.{List}
use Prim.Native.Nat.{ℕ, ◌+◌, ◌-◌, ◌*◌, ◌/◌, ◌%◌, ◌^◌, ◌≤◌, ◌<◌}
use native.Mathlib.Nat.{mul-le-mul_right, suc-mul}
use native.Mathlib.Omega.{arith}
use lib.Pow.{ones_sub-lt}
use lib.ListN.{length, get_or, take, drop, length-drop}
use lib.Seq.{take_all, get_or-drop}
use Rattle.wordset.proofs.BitLaws.{bit-none, bit_not}
use Rattle.wordset.proofs.WordLaws.{member-at}
use Rattle.wordset.specs.Word.{bit}
use Rattle.wordset.specs.Answers.{Answers}
use Rattle.truth.specs.Blocks.{has}

pub word-as : {P Q : ℕ → Bool} {i x : ℕ} → ((t : ℕ) → P t ≡ Q t) → Answers P i x → Answers Q i x
word-as {P} {Q} {i} {x} e p = record { small = p.small; each = λ b h. sym (e (i * 64 + b)) ∙ p.each b h }

module _ {P : ℕ → Bool} {i x : ℕ} where
  pub word-not : Answers P i x → Answers (λ t. not (P t)) i ((2 ^ 64 - 1) - x)
  word-not p = record { small = ones_sub-lt 64 x; each = λ b h. ap not (p.each b h) ∙ sym (bit_not 64 b x p.small h) }

pub word_none : {i : ℕ} → Answers (λ t. false) i 0
word_none = record { small = omega arith; each = λ b h. sym (bit-none b) }

pub word-full : {i : ℕ} → Answers (λ t. true) i 18446744073709551615
word-full = record { small = omega arith; each = λ b h. sym (bit_not 64 b 0 (omega arith) h ∙ ap not (bit-none b)) }

-- ---- blocks

-- a block lies within the store
pub block_in : (w i n : ℕ) → i < n → i * w + w ≤ n * w
block_in w i n h = let k = mul-le-mul_right w h in omega (arith, suc-mul i w)

pub block_at : (w : ℕ) (ws : List ℕ) (i k b : ℕ) → b < 64 → has w ws i (k * 64 + b) ≡ bit (get_or ws (i * w + k) 0) b
unfolding has
block_at w ws i k b h = member-at (drop (i * w) ws) k b h ∙ ap (λ (x : ℕ). bit x b) (get_or-drop (i * w) ws k 0)

pub block-word : (w : ℕ) (ws : List ℕ) (i k : ℕ) → get_or ws (i * w + k) 0 < 2 ^ 64 → Answers (has w ws i) k (get_or ws (i * w + k) 0)
block-word w ws i k h = record { small = h; each = block_at w ws i k }

-- a block whose words answer a test
pub block-has : (P : ℕ → Bool) (w : ℕ) (ws : List ℕ) (i : ℕ) → ((k : ℕ) → k < w → Answers P k (get_or ws (i * w + k) 0)) → (t : ℕ) → t < w * 64 → has w ws i t ≡ P t
block-has P w ws i f t h =
    let q : t / 64 * 64 + t % 64 ≡ t = omega arith in
    ap (has w ws i) (sym q) ∙ block_at w ws i (t / 64) (t % 64) (omega arith)
    ∙ sym ((f (t / 64) (omega arith)).each (t % 64) (omega arith)) ∙ ap P q

-- a block, and a word of a block, within a store
pub block-fits : (w i n len : ℕ) → i < n → n * w ≤ len → i * w + w ≤ len
block-fits w i n len h r = let b = block_in w i n h in omega arith

pub slot : (w j n k len : ℕ) → j < n → n * w ≤ len → k < w → j * w + k < len
slot w j n k len h r l = let b = block_in w j n h in omega arith

-- a part that goes to the end
pub tail : (n : ℕ) (l : List ℕ) → take (length l - n) (drop n l) ≡ drop n l
tail n l = take_all (length l - n) (drop n l) (omega (arith, length-drop n l))

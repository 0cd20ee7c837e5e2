-- Entries of condition words: what they hold, and the loops that write one. For any word count. Assumes nothing.
use mathlib.Core.Path.{◌≡◌, refl, sym, ap, ◌∙◌}
use mathlib.Core.Bool.{Bool, true, false, not, ◌&&◌, ◌||◌, true≢false}
use mathlib.Core.List.{List}
use mathlib.Core.Logic.{⊎_elim}
use Prim.Native.Nat.{ℕ, ◌+◌, ◌*◌, ◌/◌, ◌%◌, ◌^◌, ◌≤◌, ◌<◌}
use native.Mathlib.Omega.{arith}
use lib.Bits.{bit_and, bit_or}
use lib.Dec.{eqb}
use borrow.Author.Tests.{eqb-true, not-false}
use lib.ListN.{length, get_or, set}
use lib.Seq.{get_or-drop, get_or-set_other}
use Rattle.wordset.proofs.BelowLaws.{any-ext, lt-or-le, top}
use Rattle.wordset.proofs.BitLaws.{bit-none, bit-or, test_bit}
use Rattle.wordset.specs.Answers.{Answers}
use Rattle.wordset.specs.Word.{bit}
use Rattle.wordset.specs.Words.{member}
use Rattle.truth.specs.Blocks.{has}
use Rattle.truth.proofs.BlockLaws.{block_at, block-has, block_in}
use Rattle.truth.proofs.Redoing.{Redoing, redo-on}
use Rattle.conditions.specs.Entries.{in_some}
use Rattle.conditions.specs.Putting.{Put}

-- (cw[c * w + k] >> b) & 1 == 1
pub entry-test : (w : ℕ) (cw : List ℕ) (c k b : ℕ) → b < 64 → eqb (bit_and (get_or cw (c * w + k) 0 / 2 ^ b) 1) 1 ≡ has w cw c (k * 64 + b)
entry-test w cw c k b h = test_bit (get_or cw (c * w + k) 0) b ∙ sym (block_at w cw c k b h)

-- whether an entry has a type is read off one word
pub entry_kept : (w : ℕ) (cw cw' : List ℕ) (c t : ℕ) → get_or cw' (c * w + t / 64) 0 ≡ get_or cw (c * w + t / 64) 0 → has w cw' c t ≡ has w cw c t
unfolding has member
entry_kept w cw cw' c t e = ap (λ (x : ℕ). bit x (t % 64)) (get_or-drop (c * w) cw' (t / 64) 0 ∙ e ∙ sym (get_or-drop (c * w) cw (t / 64) 0))

pub some-kept : (w : ℕ) (cw cw' : List ℕ) (a t : ℕ) → ((c : ℕ) → c < 64 → bit a c ≡ true → has w cw' c t ≡ has w cw c t) → in_some w cw' a t ≡ in_some w cw a t
unfolding in_some
some-kept w cw cw' a t f = any-ext (λ c. bit a c && has w cw' c t) (λ c. bit a c && has w cw c t) 64 (λ c l. go c (bit a c) refl l)
  where
    go : (c : ℕ) (b : Bool) → bit a c ≡ b → c < 64 → (b && has w cw' c t) ≡ (b && has w cw c t)
    go c true e l = f c l e
    go c false e l = refl

-- a word behind the entries is written
pub entry-before : (w : ℕ) (cw : List ℕ) (q x c t : ℕ) → w * 64 ≤ q → c < 64 → t < w * 64 → has w (set cw q x) c t ≡ has w cw c t
entry-before w cw q x c t h l k = let b = block_in w c 64 l in entry_kept w cw (set cw q x) c t (get_or-set_other cw q (c * w + t / 64) x 0 (omega arith))

-- an entry lies within the words
pub entry-room : (w c : ℕ) {n : ℕ} → w * 64 + 16 ≤ n → c < 64 → c * w + w ≤ n
entry-room w c r h = let b = block_in w c 64 h in omega arith

-- ---- a loop that writes one entry, word after word

module _ {A : ℕ → ℕ → Type 0} {w c : ℕ} {cw₀ cw : List ℕ} {k : ℕ} (s : Redoing A w c cw₀ cw k) where
  -- a word of another entry, and the next of this one, are as they were
  apart : (e j : ℕ) → j < w → (e ≡ c → k ≤ j) → get_or cw (e * w + j) 0 ≡ get_or cw₀ (e * w + j) 0
  apart e j l f =
      ⊎_elim (λ h. (let b = block_in w e c h in s.before (e * w + j) (omega arith)))
      (λ h. ⊎_elim (λ q. s.rest (e * w + j) (rw q (let g = f (sym q) in omega arith))) (λ g. (let b = block_in w c e g in let i = s.within in s.rest (e * w + j) (omega arith))) (top c e (omega arith))) (lt-or-le e c)

  pub apart_next : (a : ℕ) {x : ℕ} → k < w → Answers (in_some w cw a) k x → Answers (in_some w cw₀ a) k x
  apart_next a h v = record {
    small = v.small;
    each = λ b g. sym (some-kept w cw₀ cw a (k * 64 + b) (λ e l m. entry_kept w cw₀ cw e (k * 64 + b) (apart e ((k * 64 + b) / 64) (omega arith) (λ q. omega arith)))) ∙ v.each b g;
  }

module _ {P : ℕ → Bool} {w c : ℕ} {cw₀ cw : List ℕ} {k : ℕ} (s : Redoing (Answers P) w c cw₀ cw k) where
  pub put-end : w ≤ k → c < 64 → Put P w c cw₀ cw
  put-end h g = record {
    is = block-has P w cw c (λ j l. s.done j (omega arith));
    entries = λ e t n l. entry_kept w cw₀ cw e t (apart s e (t / 64) (omega arith) (λ q. absurd (n q)));
    sides = λ m. (let b = block_in w c 64 g in let i = s.within in s.rest (w * 64 + m) (omega arith));
  }

-- ---- the same while `any` gathers the words

pub record Gathered (P : ℕ → Bool) (w c : ℕ) (cw₀ cw : List ℕ) (any k : ℕ) : Type 0 where
  pub words : Redoing (Answers P) w c cw₀ cw k
  pub none : (b : ℕ) → b < 64 → bit any b ≡ false → (j : ℕ) → j < k → P (j * 64 + b) ≡ false

module _ {P : ℕ → Bool} {w c : ℕ} {cw₀ cw : List ℕ} {any k : ℕ} (s : Gathered P w c cw₀ cw any k) where
  pub gather-on : (x : ℕ) → k < w → w * 64 + 16 ≤ length cw₀ → c < 64 → Answers P k x → Gathered P w c cw₀ (set cw (c * w + k) x) (bit_or any x) (k + 1)
  gather-on x h r g a = record {
    words = redo-on s.words (entry-room w c r g) h a;
    none = λ b l e j n.
        (let q = neither (bit any b) (bit x b) (sym (bit-or any x b) ∙ e) in
        ⊎_elim (λ z. ap (λ (i : ℕ). P (i * 64 + b)) z ∙ a.each b l ∙ q.1) (λ z. s.none b l q.0 j z) (top j k (omega arith)));
  }
    where
      neither : (y z : Bool) → (y || z) ≡ false → (y ≡ false) × (z ≡ false)
      neither true z e = absurd (true≢false e)
      neither false z e = (refl, e)

  pub gather_none : w ≤ k → c < 64 → not (eqb any 0) ≡ false → (t : ℕ) → t < w * 64 → has w cw c t ≡ false
  gather_none h g e t l =
      let z : any ≡ 0 = eqb-true any 0 (not-false _ e) in
      let q : t / 64 * 64 + t % 64 ≡ t = omega arith in
      (put-end s.words h g).is t l ∙ ap P (sym q) ∙ s.none (t % 64) (omega arith) (ap (λ (n : ℕ). bit n (t % 64)) z ∙ bit-none (t % 64)) (t / 64) (omega arith)

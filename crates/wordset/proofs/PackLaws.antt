-- Sets that are packed into the first w words: which lists are, and what is packed over another set. For any word count.
-- Assumes nothing.
use mathlib.Core.Path.{◌≡◌, refl, sym, ap, ap₂, ◌∙◌}
use mathlib.Core.Bool.{Bool, beq}
use mathlib.Core.List.{List}
use mathlib.Core.Logic.{⊎_elim}
use Prim.Native.Nat.{ℕ, zero, suc, ◌+◌, ◌-◌, ◌*◌, ◌^◌, ◌≤◌, ◌<◌}
use native.Mathlib.Omega.{arith}
use lib.ListN.{length, get_or, set, drop}
use lib.Seq.{ext_get_or, get_or-drop, set-get_or}
use Rattle.wordset.specs.Below.{all_below}
use Rattle.wordset.specs.Word.{word_of}
use Rattle.wordset.specs.Words.{member, filled, packed}
use Rattle.wordset.proofs.BelowLaws.{lt-or-le, all-ext}
use Rattle.wordset.proofs.BitLaws.{bit-word_of, word_of-lt}
use Rattle.wordset.proofs.WordLaws.{length-filled, drop-filled, filled_at, filled-past, member-at, packed-is, member-packed}

-- word i of a packed set
abbrev pub pack_word : (ℕ → Bool) → ℕ → ℕ
pack_word P i = word_of 64 (λ b. P (i * 64 + b))

pub packed-ext : (P Q : ℕ → Bool) (d : List ℕ) (w : ℕ) → ((j : ℕ) → j < w * 64 → P j ≡ Q j) → packed w P d ≡ packed w Q d
packed-ext P Q d w e =
    packed-is Q (pack_word P) d w (λ i l. word_of-lt 64 (λ b. P (i * 64 + b)))
    (λ i b l k. bit-word_of 64 (λ b. P (i * 64 + b)) b k ∙ e (i * 64 + b) (omega arith))

-- ---- over other words: only those behind the first w matter

pub filled-over : (g : ℕ → ℕ) (d e : List ℕ) (w : ℕ) → length e ≡ length d → drop w e ≡ drop w d → w ≤ length d → filled w g e ≡ filled w g d
filled-over g d e w n r h =
    ext_get_or 0 (filled w g e) (filled w g d) (length-filled g e w ∙ n ∙ sym (length-filled g d w))
    (λ i l. ⊎_elim (λ (k : i < w). filled_at g e w i (omega arith) k ∙ sym (filled_at g d w i h k))
    (λ (k : w ≤ i).
    (let q : w + (i - w) ≡ i = omega arith in
    filled-past g e w i k ∙ ap (λ (m : ℕ). get_or e m 0) (sym q) ∙ sym (get_or-drop w e (i - w) 0) ∙ ap (λ (z : List ℕ). get_or z (i - w) 0) r
    ∙ get_or-drop w d (i - w) 0 ∙ ap (λ (m : ℕ). get_or d m 0) q ∙ sym (filled-past g d w i k)))
    (lt-or-le i w))

pub packed-over : (P : ℕ → Bool) (d e : List ℕ) (w : ℕ) → length e ≡ length d → drop w e ≡ drop w d → w ≤ length d → packed w P e ≡ packed w P d
packed-over P = filled-over (pack_word P)

pub packed-again : (P Q : ℕ → Bool) (d : List ℕ) (w : ℕ) → w ≤ length d → packed w Q (packed w P d) ≡ packed w Q d
packed-again P Q d w h = packed-over Q d (packed w P d) w (length-filled (pack_word P) d w) (drop-filled (pack_word P) d w w (omega arith)) h

-- a store that was packed, packed again, as if from the first contents
pub packed-twice : (P Q : ℕ → Bool) (d l m : List ℕ) (w : ℕ) → w ≤ length d → l ≡ packed w P d → m ≡ packed w Q l → m ≡ packed w Q d
packed-twice P Q d l m w h e q = q ∙ ap (packed w Q) e ∙ packed-again P Q d w h

pub packed-held : (P : ℕ → Bool) (d l : List ℕ) (w : ℕ) → w ≤ length d → l ≡ packed w P d → l ≡ packed w P l
packed-held P d l w h e = e ∙ sym (ap (packed w P) e ∙ packed-again P P d w h)

-- ---- which lists are packed sets

filled-self : (d : List ℕ) (w : ℕ) → filled w (λ i. get_or d i 0) d ≡ d
unfolding filled
filled-self d zero = refl
filled-self d (suc w) = ap (λ (x : List ℕ). set x w (get_or d w 0)) (filled-self d w) ∙ set-get_or d w 0

-- a store's own words
pub packed-self : (d : List ℕ) (w : ℕ) → ((i : ℕ) → i < w → get_or d i 0 < 2 ^ 64) → d ≡ packed w (member d) d
packed-self d w r = sym (filled-self d w) ∙ packed-is (member d) (λ i. get_or d i 0) d w r (λ i b l k. sym (member-at d i b k))

-- ---- what is asked of packed sets

-- they are equal exactly if the tests agree
pub equal-packed : (P Q : ℕ → Bool) (d e : List ℕ) (w : ℕ) → w ≤ length d → w ≤ length e
    → all_below (w * 64) (λ j. beq (member (packed w P d) j) (member (packed w Q e) j)) ≡ all_below (w * 64) (λ j. beq (P j) (Q j))
equal-packed P Q d e w h k =
    all-ext (λ j. beq (member (packed w P d) j) (member (packed w Q e) j)) (λ j. beq (P j) (Q j)) (w * 64)
    (λ j l. ap₂ beq (member-packed P d w j h l) (member-packed Q e w j k l))

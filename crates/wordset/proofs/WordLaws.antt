-- Lists of words as sets: what a loop that fills the first words leaves, and which numbers are then members. For any word count.
-- Assumes nothing.
use mathlib.Core.Path.{◌≡◌, refl, sym, ap, ap₂, ◌∙◌}
use mathlib.Core.Bool.{Bool}
use mathlib.Core.List.{List, ◌++◌}
use mathlib.Core.Logic.{⊎_elim}
use Prim.Native.Nat.{ℕ, zero, suc, ◌+◌, ◌-◌, ◌*◌, ◌/◌, ◌%◌, ◌^◌, ◌≤◌, ◌<◌}
use native.Mathlib.Nat.{not-suc-le-zero}
use native.Mathlib.Numerals.{add-one}
use native.Mathlib.Omega.{arith}
use lib.ListN.{length, get_or, set, take, drop, length-set, length-append, length-drop, get_or-append}
use lib.Seq.{ext_get_or, length-take-le, get_or-take, get_or-drop, get_or-append_right, get_or-set_same, get_or-set_other, drop-set-lt}
use Rattle.wordset.specs.Word.{bit, word_of}
use Rattle.wordset.specs.Words.{member, filled, packed}
use Rattle.wordset.proofs.BelowLaws.{top, lt-or-le}
use Rattle.wordset.proofs.BitLaws.{bit-word_of, word_of-is}

module _ (g : ℕ → ℕ) (d : List ℕ) where
  pub length-filled : (w : ℕ) → length (filled w g d) ≡ length d
  unfolding filled
  length-filled zero = refl
  length-filled (suc w) = length-set (filled w g d) w (g w) ∙ length-filled w

  -- past the words that are filled the list is as it was
  pub filled-past : (w i : ℕ) → w ≤ i → get_or (filled w g d) i 0 ≡ get_or d i 0
  unfolding filled
  filled-past zero i h = refl
  filled-past (suc w) i h = get_or-set_other (filled w g d) w i (g w) 0 (omega arith) ∙ filled-past w i (omega arith)

  pub filled_at : (w i : ℕ) → w ≤ length d → i < w → get_or (filled w g d) i 0 ≡ g i
  unfolding filled
  filled_at zero i h l = absurd (not-suc-le-zero l)
  filled_at (suc w) i h l =
      ⊎_elim
      (λ (e : i ≡ w). ap (λ (k : ℕ). get_or (set (filled w g d) w (g w)) k 0) e ∙ get_or-set_same (filled w g d) w (g w) 0 (omega (arith, length-filled w)) ∙ ap g (sym e))
      (λ (k : i < w). get_or-set_other (filled w g d) w i (g w) 0 (omega arith) ∙ filled_at w i (omega arith) k) (top i w l)

  pub drop-filled : (n w : ℕ) → w ≤ n → drop n (filled w g d) ≡ drop n d
  unfolding filled
  drop-filled n zero h = refl
  drop-filled n (suc w) h = drop-set-lt n (filled w g d) w (g w) h ∙ drop-filled n w (omega arith)

  -- one turn of a loop that fills
  pub filled-step : (l : List ℕ) (i v : ℕ) → l ≡ filled i g d → v ≡ g i → set l i v ≡ filled (i + 1) g d
  unfolding filled
  filled-step l i v e q = ap₂ (λ (x : List ℕ) (y : ℕ). set x i y) e q ∙ ap (λ (k : ℕ). filled k g d) (sym (add-one i))

  pub filled_next : (l : List ℕ) (i : ℕ) → l ≡ filled i g d → get_or l i 0 ≡ get_or d i 0
  filled_next l i e = ap (λ (x : List ℕ). get_or x i 0) e ∙ filled-past i i (omega arith)

-- words of the same contents fill alike
pub filled-ext : (g h : ℕ → ℕ) (d : List ℕ) (w : ℕ) → ((i : ℕ) → i < w → g i ≡ h i) → filled w g d ≡ filled w h d
unfolding filled
filled-ext g h d zero e = refl
filled-ext g h d (suc w) e = ap₂ (λ (x : List ℕ) (y : ℕ). set x w y) (filled-ext g h d w (λ i l. e i (omega arith))) (e w (omega arith))

-- ---- members

pub member-at : (ws : List ℕ) (i b : ℕ) → b < 64 → member ws (i * 64 + b) ≡ bit (get_or ws i 0) b
unfolding member
member-at ws i b h =
    let q : (i * 64 + b) / 64 ≡ i = omega arith in
    let r : (i * 64 + b) % 64 ≡ b = omega arith in
    ap₂ (λ (x y : ℕ). bit (get_or ws x 0) y) q r

-- the set that is packed
member-filled : (g : ℕ → ℕ) (d : List ℕ) (w j : ℕ) → w ≤ length d → j < w * 64 → member (filled w g d) j ≡ bit (g (j / 64)) (j % 64)
unfolding member
member-filled g d w j h l = ap (λ (x : ℕ). bit x (j % 64)) (filled_at g d w (j / 64) h (omega arith))

pub member-packed : (P : ℕ → Bool) (d : List ℕ) (w j : ℕ) → w ≤ length d → j < w * 64 → member (packed w P d) j ≡ P j
member-packed P d w j h l =
    let e : j / 64 * 64 + j % 64 ≡ j = omega arith in
    member-filled (λ i. word_of 64 (λ b. P (i * 64 + b))) d w j h l
    ∙ bit-word_of 64 (λ b. P (j / 64 * 64 + b)) (j % 64) (omega arith) ∙ ap P e

-- words below 2 ^ 64 with the same members as P are those that P packs
pub packed-is : (P : ℕ → Bool) (g : ℕ → ℕ) (d : List ℕ) (w : ℕ) → ((i : ℕ) → i < w → g i < 2 ^ 64)
    → ((i b : ℕ) → i < w → b < 64 → bit (g i) b ≡ P (i * 64 + b)) → filled w g d ≡ packed w P d
packed-is P g d w r e = filled-ext g (λ i. word_of 64 (λ b. P (i * 64 + b))) d w (λ i l. word_of-is 64 (λ b. P (i * 64 + b)) (g i) (r i l) (λ b k. e i b l k))

-- the first w words of another list, before the words behind
filled-copy : (w : ℕ) (s d : List ℕ) → w ≤ length s → w ≤ length d → filled w (λ i. get_or s i 0) d ≡ take w s ++ drop w d
filled-copy w s d h k =
    let n : length (take w s) ≡ w = length-take-le w s h in
    ext_get_or 0 (filled w (λ i. get_or s i 0) d) (take w s ++ drop w d)
    (length-filled (λ i. get_or s i 0) d w ∙ (let z : length d ≡ length (take w s ++ drop w d) = omega (arith, length-append (take w s) (drop w d), length-drop w d) in z))
    (λ i l. ⊎_elim
    (λ (e : i < w). filled_at (λ i. get_or s i 0) d w i k e ∙ sym (get_or-append (take w s) (drop w d) 0 i (omega arith) ∙ get_or-take w s i 0 e))
    (λ (e : w ≤ i).
    let z : w + (i - w) ≡ i = omega arith in
    filled-past (λ i. get_or s i 0) d w i e ∙ ap (λ (m : ℕ). get_or d m 0) (sym z) ∙ sym (get_or-append_right (take w s) (drop w d) i 0 (omega arith) ∙ ap (λ (m : ℕ). get_or (drop w d) (i - m) 0) n ∙ get_or-drop w d (i - w) 0))
    (lt-or-le i w))

-- a set that is copied is packed
pub packed-copy : (w : ℕ) (s d : List ℕ) → w ≤ length s → w ≤ length d → ((i : ℕ) → get_or s i 0 < 2 ^ 64) → take w s ++ drop w d ≡ packed w (member s) d
packed-copy w s d h k r = sym (filled-copy w s d h k) ∙ packed-is (member s) (λ i. get_or s i 0) d w (λ i l. r i) (λ i b l m. sym (member-at s i b m))

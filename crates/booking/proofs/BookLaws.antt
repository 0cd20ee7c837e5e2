-- Tables one after the other: how many words they take, when they are the same, and a loop that writes one table a turn.
-- Assumes nothing.
use mathlib.Core.Path.{◌≡◌, refl, sym, ap, ap₂, ◌∙◌, subst}
use mathlib.Core.Bool.{Bool}
use mathlib.Core.List.{List, ◌++◌, append_assoc}
use Prim.Native.Nat.{ℕ, zero, suc, ◌+◌, ◌-◌, ◌*◌, ◌≤◌, ◌<◌}
use native.Mathlib.Nat.{suc-mul, mul-le-mul_right, le_of_eq}
use native.Mathlib.Numerals.{add-one}
use native.Mathlib.Omega.{arith}
use lib.ListN.{length, set, take, drop, replicate, length-append, length-drop, length-replicate, take-append-drop, drop_of_length-le}
use lib.Seq.{length-take-le, set-append_left, take_at, drop_at, drop-drop}
use borrow.Rule.Slice.PartMut.{put_mid}
use Rattle.wordset.specs.Words.{filled, packed}
use Rattle.wordset.proofs.WordLaws.{length-filled}
use Rattle.wordset.proofs.PackLaws.{pack_word, packed-ext, filled-over}
use Rattle.booking.specs.Booked.{tables_by}
use Rattle.booking.proofs.Tails.{tail-lent, tail-back}

-- ---- one table at the front of a list

filled-left : (g : ℕ → ℕ) (p q : List ℕ) (w : ℕ) → w ≤ length p → filled w g (p ++ q) ≡ filled w g p ++ q
unfolding filled
filled-left g p q zero h = refl
filled-left g p q (suc w) h =
    ap (λ (l : List ℕ). set l w (g w)) (filled-left g p q w (omega arith))
    ∙ set-append_left (filled w g p) q w (g w) (omega (arith, length-filled g p w))

filled-front : (g : ℕ → ℕ) (d : List ℕ) (w : ℕ) → w ≤ length d → filled w g d ≡ filled w g (replicate w 0) ++ drop w d
filled-front g d w h =
    let n = length-take-le w d h in
    let m = length-replicate {A = ℕ} w 0 in
    ap (filled w g) (sym (take-append-drop w d))
    ∙ filled-left g (take w d) (drop w d) w (omega arith)
    ∙ ap (λ (l : List ℕ). l ++ drop w d) (filled-over g (replicate w 0) (take w d) w (n ∙ sym m)
    (drop_of_length-le (take w d) (le_of_eq n) ∙ sym (drop_of_length-le (replicate w 0) (le_of_eq m))) (omega arith))

-- the words that are packed do not depend on the words that they replace
pub packed-front : (P : ℕ → Bool) (d : List ℕ) (w : ℕ) → w ≤ length d → packed w P d ≡ packed w P (replicate w 0) ++ drop w d
packed-front P = filled-front (pack_word P)

-- ---- the tables

pub tables-length : (w : ℕ) (P : ℕ → ℕ → Bool) (n : ℕ) → length (tables_by w P n) ≡ n * w
unfolding tables_by
tables-length w P zero = omega arith
tables-length w P (suc r) =
    length-append (tables_by w P r) (packed w (P r) (replicate w 0))
    ∙ ap₂ (λ (x y : ℕ). x + y) (tables-length w P r) (length-filled (pack_word (P r)) (replicate w 0) w ∙ length-replicate w 0)
    ∙ sym (suc-mul r w)

pub tables-ext : (w : ℕ) (P Q : ℕ → ℕ → Bool) (n : ℕ) → ((r t : ℕ) → P r t ≡ Q r t) → tables_by w P n ≡ tables_by w Q n
unfolding tables_by
tables-ext w P Q zero e = refl
tables-ext w P Q (suc r) e =
    ap₂ (λ (x y : List ℕ). x ++ y) (tables-ext w P Q r e) (packed-ext (P r) (Q r) (replicate w 0) w (λ t l. e r t))

-- ---- a store into which one table a turn is written

-- after r of n turns over a store that was d at first
pub record Written (P : ℕ → ℕ → Bool) (w n : ℕ) (d l : List ℕ) (r : ℕ) : Type 0 where
  pub within : r ≤ n
  pub long : length l ≡ length d
  pub is : l ≡ tables_by w P r ++ drop (r * w) d
  pub room : n * w ≤ length d

module _ {P : ℕ → ℕ → Bool} {w n : ℕ} {d : List ℕ} where
  pub written_start : n * w ≤ length d → Written P w n d d 0
  unfolding tables_by
  written_start room = record { within = omega arith; long = refl; is = sym (drop-none (0 * w) d (omega arith)); room = room }
    where
      drop-none : (k : ℕ) (l : List ℕ) → k ≡ 0 → drop k l ≡ l
      drop-none k l e = rw e refl

  pub written-moved : {l : List ℕ} {r q : ℕ} → Written P w n d l r → q ≡ r → Written P w n d l q
  written-moved {l} b e = subst (λ k. Written P w n d l k) (sym e) b

  -- there is room for table r
  pub written-room : {l : List ℕ} {r : ℕ} → Written P w n d l r → r < n → r * w + w ≤ length l
  written-room {r} b h = omega (arith, b.long, b.room, mul-le-mul_right w h, suc-mul r w)

  pub written_next : {l : List ℕ} {r : ℕ} (ys : List ℕ) → Written P w n d l r → r < n
      → ys ≡ packed w (P r) (take (length l - r * w) (drop (r * w) l)) → Written P w n d (put_mid (r * w) (length l - r * w) l ys) (r + 1)
  unfolding tables_by
  written_next {l} {r} ys b h e =
      let T = tables_by w P r in
      let new = packed w (P r) (replicate w 0) in
      let rest = drop ((r + 1) * w) d in
      let k = written-room b h in
      let m = tables-length w P r in
      let more : r * w + w ≡ (r + 1) * w = sym (suc-mul r w) ∙ ap (λ (i : ℕ). i * w) (sym (add-one r)) in
      let before : take (r * w) l ≡ T = ap (take (r * w)) b.is ∙ take_at T (drop (r * w) d) (r * w) m in
      let after : drop (r * w) l ≡ drop (r * w) d = ap (drop (r * w)) b.is ∙ drop_at T (drop (r * w) d) (r * w) m in
      let part : ys ≡ new ++ rest =
      e ∙ ap (packed w (P r)) (tail-lent l (r * w) ∙ after)
      ∙ packed-front (P r) (drop (r * w) d) w (omega (arith, length-drop (r * w) d, b.long))
      ∙ ap (λ (z : List ℕ). new ++ z) (drop-drop w (r * w) d ∙ ap (λ (i : ℕ). drop i d) more) in
      let whole : put_mid (r * w) (length l - r * w) l ys ≡ tables_by w P (r + 1) ++ rest =
      tail-back l (r * w) ys ∙ ap₂ (λ (x y : List ℕ). x ++ y) before part
      ∙ sym (append_assoc T new rest)
      ∙ ap (λ (i : ℕ). tables_by w P i ++ rest) (sym (add-one r)) in
      record {
        within = omega arith;
        long =
            ap length whole ∙ length-append (tables_by w P (r + 1)) rest
            ∙ ap₂ (λ (x y : ℕ). x + y) (tables-length w P (r + 1)) (length-drop ((r + 1) * w) d)
            ∙ omega (arith, more, b.long);
        is = whole;
        room = b.room;
      }

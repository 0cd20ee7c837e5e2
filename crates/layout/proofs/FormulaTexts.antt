-- Laws of the formulas' texts. Assumes nothing.
use mathlib.Core.Path.{◌≡◌, refl, sym, ap, ◌∙◌}
use mathlib.Core.List.{List, [], ◌∷◌}
use Prim.Native.Nat.{ℕ, zero, suc, ◌+◌, ◌-◌, ◌≤◌, ◌<◌}
use native.Mathlib.Nat.{sub-zero, zero-sub, suc-sub-suc, sub_self, sub-add-eq}
use native.Mathlib.Omega.{arith}
use mathlib.Core.Bool.{Bool, true, false, cond}
use lib.Dec.{eqb}
use borrow.Author.Tests.{eq-eqb, eqb-true}
use lib.ListN.{length, get_or, take, drop, drop_of_length-le, length-drop}
use lib.Seq.{take-nil, drop-drop, get_or-drop}
use Rattle.layout.specs.Text.{part, upto, end_of}
use Rattle.layout.specs.Layout.{newline, lines_from, texts_of, last_of, ends_right, TextAt}
use Rattle.layout.proofs.ScanLaws.{part_length}
use Rattle.layout.proofs.LineLaws.{more, none, lines_end}

pub drop-take : (k m : ℕ) (l : List ℕ) → drop k (take m l) ≡ take (m - k) (drop k l)
drop-take zero m l = rw sub-zero
drop-take (suc k) zero l = rw zero-sub
drop-take (suc k) (suc m) [] = sym (take-nil (suc m - suc k))
drop-take (suc k) (suc m) (x ∷ xs) = rw suc-sub-suc (drop-take k m xs)

-- a part without its first k bytes
part-drop : (s : List ℕ) (at e k : ℕ) → drop k (part s at e) ≡ part s (at + k) e
part-drop s at e k = drop-take k (e - at) (drop at s) ∙ rw (drop-drop, sub-add-eq)

part_none : (s : List ℕ) (at e k : ℕ) → e ≤ length s → e - at ≤ k → drop k (part s at e) ≡ part s e e
part_none s at e k h g = drop_of_length-le (part s at e) {i = k} (rw (part_length s at e h) g) ∙ rw sub_self

module _ (s : List ℕ) (at e f : ℕ) (is : e ≡ end_of newline s at) (then : f ≡ end_of newline s (e + 1)) (order : at ≤ e) (h : e < length s) where
  last : length s ≤ f → texts_of (lines_from s at) ≡ drop 5 (part s at e) ∷ texts_of (lines_from s (e + 1))
  unfolding texts_of
  last k = rw (more s at e is (omega arith) h, none s (e + 1) f then (omega arith) k)

  next : f < length s → texts_of (lines_from s at) ≡ drop 4 (part s at e) ∷ texts_of (lines_from s (e + 1))
  unfolding texts_of
  next k = rw (more s at e is (omega arith) h, more s (e + 1) f then (omega arith) k)

  pub text-last : length s ≤ f → 5 ≤ e - at → TextAt s at e (at + 5)
  text-last k g = record { after = omega arith; before = omega arith; texts-are = last k ∙ rw (part-drop s at e 5) }

  pub text-last-none : length s ≤ f → e - at < 5 → TextAt s at e e
  text-last-none k g = record { after = order; before = omega arith; texts-are = last k ∙ rw (part_none s at e 5 (omega arith) (omega arith)) }

  pub text-next : f < length s → 4 ≤ e - at → TextAt s at e (at + 4)
  text-next k g = record { after = omega arith; before = omega arith; texts-are = next k ∙ rw (part-drop s at e 4) }

  pub text-next-none : f < length s → e - at < 4 → TextAt s at e e
  text-next-none k g = record { after = order; before = omega arith; texts-are = next k ∙ rw (part_none s at e 4 (omega arith) (omega arith)) }

-- ---- where the last text ends

upto-at : (b : ℕ) (l : List ℕ) (k : ℕ) → k < length l → get_or l k 0 ≡ b → upto b l ≤ k
unfolding upto
upto-at b [] k h e = absurd (omega arith)
upto-at b (c ∷ r) zero h e = rw (eq-eqb c b e) (omega arith)
upto-at b (c ∷ r) (suc k) h e = go (eqb c b) (upto-at b r k (omega arith) e)
  where
    go : (t : Bool) → upto b r ≤ k → cond t 0 (suc (upto b r)) ≤ suc k
    go true l = omega arith
    go false l = omega arith

-- in a text that ends with a newline every line does
pub end-inside : (s : List ℕ) (at : ℕ) → ends_right s ≡ true → at < length s → end_of newline s at < length s
unfolding ends_right end_of
end-inside s at e h =
    let n : length (drop at s) ≡ length s - at = length-drop at s in
    let i : at + (length (drop at s) - 1) ≡ length s - 1 = omega arith in
    let last : get_or (drop at s) (length (drop at s) - 1) 0 ≡ newline = get_or-drop at s (length (drop at s) - 1) 0 ∙ (ap (λ k. get_or s k 0) i ∙ eqb-true (get_or s (length s - 1) 0) newline e) in
    let k = upto-at newline (drop at s) (length (drop at s) - 1) (omega arith) last in
    omega arith

-- where a reader of the last text is: at the beginning, or behind a line that it read
pub data Behind (s : List ℕ) (from at end : ℕ) : Type 0 where
  first : at ≡ from → Behind s from at end
  later : end + 1 ≡ at → at ≤ length s → Behind s from at end

module _ {s : List ℕ} {from at end : ℕ} (b : Behind s from at end) where
  pub behind-end : length s ≤ at → from < length s → end + 1 ≡ length s
  behind-end h l = go b
    where
      go : Behind s from at end → end + 1 ≡ length s
      go (first e) = absurd (omega arith)
      go (later e k) = omega arith

pub behind-none : (s : List ℕ) (at e end : ℕ) → e ≡ end_of newline s at → at < length s → length s ≤ e → ends_right s ≡ true → end + 1 ≡ length s
behind-none s at e end is l h r = absurd (let k = end-inside s at r l in omega arith)

-- ---- the last text
pub last_end : (s t : List ℕ) (at : ℕ) → length s ≤ at → last_of t (texts_of (lines_from s at)) ≡ t
unfolding last_of texts_of
last_end s t at h = rw (lines_end s at h)

pub last_none : (s t : List ℕ) (at e : ℕ) → e ≡ end_of newline s at → at ≤ length s → length s ≤ e → last_of t (texts_of (lines_from s at)) ≡ t
unfolding last_of texts_of
last_none s t at e is i h = rw (none s at e is i h)

pub last-next : (s t : List ℕ) (at e r : ℕ) → TextAt s at e r → last_of (part s r e) (texts_of (lines_from s (e + 1))) ≡ last_of t (texts_of (lines_from s at))
unfolding last_of
last-next s t at e r x = rw x.texts-are

pub texts-length : (ls : List (List ℕ)) → length (texts_of ls) ≡ length ls
unfolding texts_of
texts-length [] = refl
texts-length (l ∷ []) = refl
texts-length (l ∷ m ∷ ms) = ap suc (texts-length (m ∷ ms))

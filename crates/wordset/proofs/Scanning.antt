-- A loop over words that asks about each number below 64 * w, of which a word answers for 64: whether some number passes, how many do, which
-- is the least, whether two tests agree on all. For any word count. Assumes nothing.
use mathlib.Core.Path.{◌≡◌, refl, sym, ap, ap₂, ◌∙◌}
use mathlib.Core.Bool.{Bool, true, false, ◌&&◌, ◌||◌, not, beq}
use mathlib.Core.Logic.{⊎_elim}
use Prim.Native.Nat.{ℕ, ◌+◌, ◌-◌, ◌*◌, ◌^◌, ◌≤◌, ◌<◌}
use native.Mathlib.Numerals.{add-one}
use native.Mathlib.Omega.{arith}
use lib.Dec.{eqb}
use lib.ListN.{length, get_or, take}
use lib.Seq.{ext_get_or, get_or-take, length-take-le}
use Rattle.std.specs.Cmp.Lexicographic.{pointwise}
use Rattle.std.proofs.lemmas.Slice.Eq.{slice_eq-Decides}
use Rattle.std.proofs.lemmas.Bool.Decides.{Decides-eqb}
use mathlib.Core.List.{List}
use Rattle.wordset.specs.Words.{member}
use lib.Count.{ones, ones-le, count_trailing_zeros}
use borrow.Author.Tests.{eq-eqb, ne_eqb, eqb-true}
use Rattle.wordset.specs.Below.{all_below, any_below, count_below, least}
use Rattle.wordset.specs.Word.{bit}
use Rattle.wordset.proofs.BelowLaws.{all-intro, all-elim, all-ext, all_blocks, count-le, least-none, any-add, any-ext, any_false, any-more, count_add, count-ext, least-is, least_lt, least-holds, least-below, lt-or-le}
use Rattle.wordset.proofs.BitLaws.{any-bit, ones-count, trailing-least}
use Rattle.wordset.specs.Answers.{Answers}
use Rattle.wordset.proofs.AnswersLaws.{equal-answers, word-answers}
use Rattle.wordset.proofs.CompareLaws.{both_ways}

-- ---- a loop's invariant: all below i passed the test; none of the first i words has a number that does; n numbers of them do

pub record AllSoFar (P : ℕ → Bool) (w i : ℕ) : Type 0 where
  pub within : i ≤ w
  pub passed : all_below i P ≡ true

pub record NoneSoFar (P : ℕ → Bool) (w i : ℕ) : Type 0 where
  pub within : i ≤ w
  pub none : any_below (i * 64) P ≡ false

pub record Counted (P : ℕ → Bool) (w i n : ℕ) : Type 0 where
  pub within : i ≤ w
  pub is : n ≡ count_below (i * 64) P

pub ones-fit : (x : ℕ) → x < 2 ^ 64 → ones x < 2 ^ 64
ones-fit x k = let v = ones-le 64 x k in omega arith

module _ {P : ℕ → Bool} {w : ℕ} where
  pub all_start : AllSoFar P w 0
  unfolding all_below
  all_start = record { within = omega arith; passed = refl }

  pub all-on : {i : ℕ} → AllSoFar P w i → i < w → P i ≡ true → AllSoFar P w (i + 1)
  unfolding all_below
  all-on {i} s l h = record { within = omega arith; passed = ap (λ (k : ℕ). all_below k P) (add-one i) ∙ ap₂ ◌&&◌ s.passed h }

  pub all_end : {i : ℕ} → AllSoFar P w i → w ≤ i → true ≡ all_below w P
  all_end {i} s h = let q : i ≡ w = omega arith in sym s.passed ∙ ap (λ (n : ℕ). all_below n P) q

  pub none-start : NoneSoFar P w 0
  unfolding any_below
  none-start = record { within = omega arith; none = refl }

  pub none_end : {i : ℕ} → NoneSoFar P w i → w ≤ i → false ≡ any_below (w * 64) P
  none_end {i} s h = let q : i ≡ w = omega arith in sym s.none ∙ ap (λ (n : ℕ). any_below (n * 64) P) q

  pub least-end : {i : ℕ} → NoneSoFar P w i → w ≤ i → w * 64 ≡ least (w * 64) P
  least-end s h = sym (least-none (w * 64) P (sym (none_end s h)))

  pub count-start : Counted P w 0 0
  unfolding count_below
  count-start = record { within = omega arith; is = refl }

  pub count-end : {i n : ℕ} → Counted P w i n → w ≤ i → n ≡ count_below (w * 64) P
  count-end {i} s h = let q : i ≡ w = omega arith in s.is ∙ ap (λ (k : ℕ). count_below (k * 64) P) q

  -- the sum with the count of one word more is no more than 64 * w
  pub count_fits : {i n : ℕ} → Counted P w i n → i < w → w * 64 < 2 ^ 64 → (x : ℕ) → x < 2 ^ 64 → n + ones x < 2 ^ 64
  count_fits {i} s l h x k = let u = count-le P (i * 64) in let v = ones-le 64 x k in omega (arith, s.is)

module _ {P : ℕ → Bool} {i x : ℕ} (a : Answers P i x) where
  any-block : any_below (i * 64 + 64) P ≡ (any_below (i * 64) P || not (eqb x 0))
  any-block =
      any-add P (i * 64) 64
      ∙ ap (λ (t : Bool). any_below (i * 64) P || t) (any-ext (λ b. P (i * 64 + b)) (bit x) 64 a.each ∙ any-bit 64 x a.small)

  next-block : (i + 1) * 64 ≡ i * 64 + 64
  next-block = omega arith

  -- a word that is 0 has no number that passes
  pub none-on : {w : ℕ} → NoneSoFar P w i → i < w → x ≡ 0 → NoneSoFar P w (i + 1)
  none-on s l z = record {
    within = omega arith;
    none = ap (λ (n : ℕ). any_below n P) next-block ∙ any-block ∙ ap₂ (λ (s : Bool) (y : ℕ). s || not (eqb y 0)) s.none z;
  }

  or_right : (s t : Bool) → t ≡ true → (s || t) ≡ true
  or_right true t e = refl
  or_right false t e = e

  -- and one that is not 0 has one
  pub any_found : (w : ℕ) → i < w → (x ≡ 0 → ⊥) → any_below (w * 64) P ≡ true
  any_found w h n =
      any-more P (i * 64 + 64) (w * 64) (omega arith) (any-block ∙ or_right (any_below (i * 64) P) (not (eqb x 0)) (ap not (ne_eqb x 0 n)))

  pub count-on : {w n : ℕ} → Counted P w i n → i < w → Counted P w (i + 1) (n + ones x)
  count-on s l = record {
    within = omega arith;
    is =
        ap₂ (λ (p q : ℕ). p + q) s.is (ones-count 64 x a.small ∙ sym (count-ext (λ b. P (i * 64 + b)) (bit x) 64 a.each))
        ∙ sym (ap (λ (n : ℕ). count_below n P) next-block ∙ count_add P (i * 64) 64);
  }

  -- the least number of the first word that is not 0
  pub least-found : {w : ℕ} → NoneSoFar P w i → i < w → (x ≡ 0 → ⊥)
      → (count_trailing_zeros 64 x < 64) × (i * 64 + count_trailing_zeros 64 x ≡ least (w * 64) P)
  least-found {w} s h n =
      let t : ℕ = count_trailing_zeros 64 x in
      let q : t ≡ least 64 (bit x) = trailing-least 64 x in
      let some : any_below 64 (bit x) ≡ true = any-bit 64 x a.small ∙ ap not (ne_eqb x 0 n) in
      let small : least 64 (bit x) < 64 = least_lt 64 (bit x) some in
      let holds : P (i * 64 + t) ≡ true = a.each t (omega arith) ∙ ap (bit x) q ∙ least-holds 64 (bit x) small in
      let past : (k : ℕ) → k < i * 64 + t → P k ≡ false =
      λ k l. ⊎_elim (λ (g : k < i * 64). any_false P (i * 64) s.none k g)
      (λ (g : i * 64 ≤ k). (let r : i * 64 + (k - i * 64) ≡ k = omega arith in
      ap P (sym r) ∙ a.each (k - i * 64) (omega arith) ∙ least-below 64 (bit x) (k - i * 64) (omega arith))) (lt-or-le k (i * 64)) in
      (omega arith, sym (least-is (w * 64) P (i * 64 + t) (omega arith) holds past))

-- ---- whether two sets are the same

module _ (a b : List ℕ) (w : ℕ) where
  abbrev alike : ℕ → Bool
  alike i = eqb (get_or a i 0) (get_or b i 0)

  -- the first w words are the same exactly if each of them is
  words-same : w ≤ length a → w ≤ length b → pointwise eqb (take w a) (take w b) ≡ all_below w alike
  words-same h k =
      let d = slice_eq-Decides Decides-eqb (take w a) (take w b) (pointwise eqb (take w a) (take w b)) refl in
      both_ways (pointwise eqb (take w a) (take w b)) (all_below w alike)
      (λ e. all-intro alike w (λ i l. eq-eqb (get_or a i 0) (get_or b i 0) (sym (get_or-take w a i 0 l) ∙ ap (λ x. get_or x i 0) (d.0 e) ∙ get_or-take w b i 0 l)))
      (λ e. d.1 (ext_get_or 0 (take w a) (take w b) (length-take-le w a h ∙ sym (length-take-le w b k))
      (λ i l. let m : i < w = omega (arith, length-take-le w a h) in get_or-take w a i 0 m ∙ eqb-true (get_or a i 0) (get_or b i 0) (all-elim alike w e i m) ∙ sym (get_or-take w b i 0 m))))

  -- and so are the sets
  pub sets-same : w ≤ length a → w ≤ length b → ((i : ℕ) → get_or a i 0 < 2 ^ 64) → ((i : ℕ) → get_or b i 0 < 2 ^ 64)
      → pointwise eqb (take w a) (take w b) ≡ all_below (w * 64) (λ j. beq (member a j) (member b j))
  sets-same h k f g =
      words-same h k
      ∙ all-ext alike (λ i. all_below 64 (λ d. beq (member a (i * 64 + d)) (member b (i * 64 + d)))) w (λ i l. sym (equal-answers (word-answers a i (f i)) (word-answers b i (g i))))
      ∙ sym (all_blocks (λ j. beq (member a j) (member b j)) w 64)

-- The words of the start types. Assumes nothing.
use mathlib.Core.Path.{◌≡◌, refl, sym, ap, ◌∙◌, subst}
use mathlib.Core.Bool.{Bool, true, false, not, ◌&&◌, beq, ◌||◌, or-true, or-false, and-false}
use mathlib.Core.List.{List, [], ◌∷◌}
use Prim.Native.Nat.{ℕ, zero, suc, ◌+◌, ◌-◌, ◌*◌, ◌%◌, ◌^◌, ◌≤◌, ◌<◌}
use native.Mathlib.Nat.{add-zero}
use native.Mathlib.Numerals.{add-one}
use native.Mathlib.Omega.{arith}
use lib.Bits.{bit_and, bit_or}
use lib.Dec.{eqb, ltb}
use lib.ListN.{length, get_or}
use lib.Pow.{pow-add, pow_mono}
use borrow.Author.Tests.{lt-ltb, le-ltb, ne_eqb}
use Rattle.ctl.specs.Types.{in_type}
use Rattle.wordset.proofs.BitLaws.{shl_one}
use Rattle.wordset.specs.Below.{all_below, count_below, one}
use Rattle.wordset.specs.Word.{bit}
use Rattle.wordset.specs.Answers.{Answers}
use Rattle.wordset.proofs.AnswersLaws.{and-answers, or-answers, minus-answers}
use Rattle.start.specs.Starts.{has_one}
use Rattle.truth.proofs.BlockLaws.{word-as, word-full, word_none}
use Rattle.truth.proofs.PlaceWords.{computed}

-- ---- the types below 2 ^ n

abbrev lows : List ℕ
lows = 1 ∷ 3 ∷ 15 ∷ 255 ∷ 65535 ∷ 4294967295 ∷ []

checked : all_below 6 (λ n. ltb (get_or lows n 0) (2 ^ 64) && all_below 64 (λ b. beq (ltb b (2 ^ n)) (bit (get_or lows n 0) b))) ≡ true
unfolding all_below bit
checked = refl

pub low_first : (n k : ℕ) → n < 6 → k ≡ 0 → Answers (λ t. ltb t (2 ^ n)) k (get_or lows n 0)
low_first n k h e =
    let c = computed (λ n b. ltb b (2 ^ n)) lows 6 checked n h in
    record { small = c.0; each = λ b l. (let q : k * 64 + b ≡ b = omega arith in ap (λ t. ltb t (2 ^ n)) q ∙ c.1 b l) }

pub low-later : (n k : ℕ) → n < 6 → (k ≡ 0 → ⊥) → Answers (λ t. ltb t (2 ^ n)) k 0
low-later n k h f = record {
  small = omega arith;
  each = λ b l. le-ltb (k * 64 + b) (2 ^ n) (let p : 2 ^ n ≤ 2 ^ 6 = pow_mono (let m : n ≤ 6 = omega arith in m) in omega arith) ∙ (word_none {i = k}).each b l;
}

split : (n : ℕ) → 6 ≤ n → 2 ^ n ≡ 64 * 2 ^ (n - 6)
split n h = let e : n ≡ 6 + (n - 6) = omega arith in ap (λ j. 2 ^ j) e ∙ pow-add 2 6 (n - 6)

pub low-full : (n k : ℕ) → 6 ≤ n → n ≤ 60 → k < (1 * 2 ^ (n - 6)) % 2 ^ 64 → Answers (λ t. ltb t (2 ^ n)) k 18446744073709551615
low-full n k h g l =
    let e = shl_one (n - 6) (let m : n - 6 < 64 = omega arith in m) in
    let s = split n h in
    record { small = omega arith; each = λ b m. lt-ltb (k * 64 + b) (2 ^ n) (omega arith) ∙ (word-full {i = k}).each b m }

pub low-none : (n k : ℕ) → 6 ≤ n → n ≤ 60 → (1 * 2 ^ (n - 6)) % 2 ^ 64 ≤ k → Answers (λ t. ltb t (2 ^ n)) k 0
low-none n k h g l =
    let e = shl_one (n - 6) (let m : n - 6 < 64 = omega arith in m) in
    let s = split n h in
    record { small = omega arith; each = λ b m. le-ltb (k * 64 + b) (2 ^ n) (omega arith) ∙ (word_none {i = k}).each b m }

-- ---- exactly one of some places

-- a count is above 0, above 1, where it goes on by one test
count-some : (c : ℕ) (b : Bool) → (ltb 0 c || b) ≡ ltb 0 (c + one b)
count-some c true = or-true (ltb 0 c) ∙ sym (lt-ltb 0 (c + 1) (omega arith))
count-some c false = or-false (ltb 0 c) ∙ ap (ltb 0) (sym (add-zero c))

count-several : (c : ℕ) (b : Bool) → (ltb 1 c || (ltb 0 c && b)) ≡ ltb 1 (c + one b)
count-several zero true = refl
count-several (suc c) true = rw (lt-ltb 0 (suc c) (omega arith), lt-ltb 1 (suc c + 1) (omega arith)) (or-true (ltb 1 (suc c)))
count-several c false = rw (and-false (ltb 0 c), add-zero c) (or-false (ltb 1 c))

count-one : (c : ℕ) → (ltb 0 c && not (ltb 1 c)) ≡ eqb c 1
count-one zero = refl
count-one (suc zero) = refl
count-one (suc (suc c)) = rw (lt-ltb 1 (suc (suc c)) (omega arith), ne_eqb (suc (suc c)) 1 (omega arith)) (and-false (ltb 0 (suc (suc c))))

-- word x answers whether a type passes at least one of the first i tests, and y whether it passes at least two
pub record Counted (P : ℕ → ℕ → Bool) (i k x y : ℕ) : Type 0 where
  pub some : Answers (λ t. ltb 0 (count_below i (λ j. P j t))) k x
  pub several : Answers (λ t. ltb 1 (count_below i (λ j. P j t))) k y

module _ {P : ℕ → ℕ → Bool} {k : ℕ} where
  pub counted_start : Counted P 0 k 0 0
  unfolding count_below
  counted_start = record { some = word_none; several = word_none }

  pub counted-on : {i x y z : ℕ} → Counted P i k x y → Answers (P i) k z → Counted P (i + 1) k (bit_or x z) (bit_or y (bit_and x z))
  unfolding count_below
  counted-on {i} {x} {y} {z} f p = subst (λ m. Counted P m k (bit_or x z) (bit_or y (bit_and x z))) (sym (add-one i)) (record {
    some = word-as (λ t. count-some (count_below i (λ j. P j t)) (P i t)) (or-answers f.some p);
    several = word-as (λ t. count-several (count_below i (λ j. P j t)) (P i t)) (or-answers f.several (and-answers f.some p));
  })

  counted-end : {n i x y : ℕ} → Counted P i k x y → i ≡ n → Answers (λ t. eqb (count_below n (λ j. P j t)) 1) k (bit_and x ((2 ^ 64 - 1) - y))
  counted-end {n} {i} f e = word-as (λ t. count-one (count_below i (λ j. P j t)) ∙ ap (λ m. eqb (count_below m (λ j. P j t)) 1) e) (minus-answers f.some f.several)

module _ (values : List ℕ) {k : ℕ} where
  one-by : {b : Bool} {x : ℕ} → eqb (length values) 0 ≡ b → Answers (λ t. b || eqb (count_below (length values) (λ i. in_type t (get_or values i 0))) 1) k x → Answers (has_one values) k x
  unfolding has_one
  one-by e = word-as (λ t. ap (λ b. b || eqb (count_below (length values) (λ i. in_type t (get_or values i 0))) 1) (sym e))

  pub one_none : eqb (length values) 0 ≡ true → Answers (has_one values) k 18446744073709551615
  one_none e = one-by e word-full

  pub one-of : {i x y : ℕ} → eqb (length values) 0 ≡ false → Counted (λ j t. in_type t (get_or values j 0)) i k x y → i ≡ length values → Answers (has_one values) k (bit_and x ((2 ^ 64 - 1) - y))
  one-of f c e = one-by f (counted-end c e)

-- The numbers of a word from the lowest on, and the loop over those of a word r that joins one word for each. Assumes nothing.
use mathlib.Core.Path.{◌≡◌, refl, sym, ap, ap₂, ◌∙◌}
use mathlib.Core.Bool.{Bool, true, false, not, ◌&&◌, ◌||◌, or_assoc, or-false}
use mathlib.Core.Logic.{⊎_elim}
use Prim.Native.Nat.{ℕ, ◌+◌, ◌*◌, ◌^◌, ◌≤◌, ◌<◌}
use native.Mathlib.Omega.{arith}
use lib.Bits.{bit_or, or_lt}
use lib.Count.{count_trailing_zeros}
use lib.Dec.{eqb}
use borrow.Author.Tests.{eqb-true}
use Rattle.ctl.specs.Modes.{has_mode}
use Rattle.ctl.proofs.BoolLaws.{and_both, decide, or_left, or_right}
use Rattle.truth.proofs.Sifting.{less, less-bit, less-lt, lowest}
use Rattle.wordset.proofs.BelowLaws.{any-ext, any-intro, any_none, least-holds, least_lt}
use Rattle.wordset.proofs.BitLaws.{bit-none, bit-or}
use Rattle.wordset.proofs.CompareLaws.{both_ways}
use Rattle.wordset.specs.Answers.{Answers}
use Rattle.wordset.specs.Below.{any_below, least}
use Rattle.wordset.specs.Word.{bit}

-- who is left out of some, and asked for besides
swap : (a b c : Bool) → ((a && not b) && c) ≡ ((a && c) && not b)
swap true true true = refl
swap true true false = refl
swap true false true = refl
swap true false false = refl
swap false b c = refl

-- one number of several
any-take : (P : ℕ → Bool) (n m : ℕ) → m < n → any_below n P ≡ (P m || any_below n (λ j. P j && not (eqb j m)))
any-take P n m h =
    both_ways (any_below n P) (P m || any_below n (λ j. P j && not (eqb j m)))
    (λ e. (let l = least_lt n P e in let k = least-holds n P l in ⊎_elim
    (λ q. or_left (P m) _ (ap P (sym (eqb-true (least n P) m q)) ∙ k))
    (λ q. or_right (P m) _ (any-intro (λ j. P j && not (eqb j m)) n (least n P) l (ap₂ (λ x y. x && not y) k q))) (decide (eqb (least n P) m))))
    (λ e. ⊎_elim (λ q. any-intro P n m h q)
    (λ q. (let r = ap (λ b. b || any_below n (λ j. P j && not (eqb j m))) (sym q) ∙ e in
    let l = least_lt n (λ j. P j && not (eqb j m)) r in
    any-intro P n _ l (and_both (P (least n (λ j. P j && not (eqb j m)))) _ (least-holds n (λ j. P j && not (eqb j m)) l)).0)) (decide (P m)))

-- the lowest number of a word, and the word without it
any-lowest : (F : ℕ → Bool) (n x : ℕ) → n ≤ 64 → x < 2 ^ n → x < 2 ^ 64 → (x ≡ 0 → ⊥) → any_below n (λ i. bit x i && F i) ≡ (F (count_trailing_zeros 64 x) || any_below n (λ i. bit (less x) i && F i))
any-lowest F n x g h f z =
    let l = lowest n x g h z in
    any-take (λ i. bit x i && F i) n m l.0
    ∙ ap₂ ◌||◌ (ap (λ b. b && F m) l.1)
    (any-ext (λ i. (bit x i && F i) && not (eqb i m)) (λ i. bit (less x) i && F i) n (λ i k. sym (ap (λ b. b && F i) (less-bit x z f i) ∙ swap (bit x i) (eqb i m) (F i))))
  where
    m : ℕ
    m = count_trailing_zeros 64 x

any-empty : (F : ℕ → Bool) (n x : ℕ) → x ≡ 0 → any_below n (λ i. bit x i && F i) ≡ false
any-empty F n x e = any_none (λ i. bit x i && F i) n (λ i h. ap (λ b. b && F i) (ap (λ (y : ℕ). bit y i) e ∙ bit-none i))

-- the same of a set of modes
module _ (F : ℕ → Bool) (a : ℕ) where
  pub modes-lowest : a < 2 ^ 16 → (a ≡ 0 → ⊥) → any_below 16 (λ m. has_mode a m && F m) ≡ (F (count_trailing_zeros 64 a) || any_below 16 (λ m. has_mode (less a) m && F m))
  unfolding bit
  modes-lowest h n = any-lowest F 16 a (omega arith) h (omega arith) n

  pub modes-none : a ≡ 0 → any_below 16 (λ m. has_mode a m && F m) ≡ false
  unfolding bit
  modes-none e = any-empty F 16 a e

-- word k of those that pass P for a number of r: `rest` is still to come, and acc has the others
pub record Joining (P : ℕ → ℕ → Bool) (r k rest acc : ℕ) : Type 0 where
  pub fits : rest < 2 ^ 64
  pub small : acc < 2 ^ 64
  pub is : (b : ℕ) → b < 64 → (bit acc b || any_below 64 (λ i. bit rest i && P i (k * 64 + b))) ≡ any_below 64 (λ i. bit r i && P i (k * 64 + b))

module _ {P : ℕ → ℕ → Bool} {r k : ℕ} where
  pub join-start : r < 2 ^ 64 → Joining P r k r 0
  join-start h = record { fits = h; small = omega arith; is = λ b l. ap (λ z. z || any_below 64 (λ i. bit r i && P i (k * 64 + b))) (bit-none b) }

  module _ {rest acc : ℕ} (s : Joining P r k rest acc) where
    pub join-low : (rest ≡ 0 → ⊥) → count_trailing_zeros 64 rest < 64
    join-low n = (lowest 64 rest (omega arith) s.fits n).0

    pub join-on : (rest ≡ 0 → ⊥) → {y : ℕ} → Answers (P (count_trailing_zeros 64 rest)) k y → Joining P r k (less rest) (bit_or acc y)
    join-on n {y} a = record {
      fits = (let x = s.fits in let z = less-lt rest n in omega arith);
      small = or_lt 64 acc y s.small a.small;
      is = λ b l.
          (let t : ℕ = k * 64 + b in
          ap (λ z. z || any_below 64 (λ i. bit (less rest) i && P i t)) (bit-or acc y b ∙ ap (λ z. bit acc b || z) (sym (a.each b l)))
          ∙ or_assoc (bit acc b) (P (count_trailing_zeros 64 rest) t) (any_below 64 (λ i. bit (less rest) i && P i t))
          ∙ ap (λ z. bit acc b || z) (sym (any-lowest (λ i. P i t) 64 rest (omega arith) s.fits s.fits n)) ∙ s.is b l);
    }

    pub join-end : rest ≡ 0 → Answers (λ t. any_below 64 (λ i. bit r i && P i t)) k acc
    join-end e = record {
      small = s.small;
      each = λ b l. sym (s.is b l)
          ∙ ap (λ z. bit acc b || z) (any-empty (λ i. P i (k * 64 + b)) 64 rest e)
          ∙ or-false (bit acc b);
    }

-- A set of places as a number: its places, its bound, and that they determine it. Assumes nothing.
use mathlib.Core.Path.{◌≡◌, refl, sym, ap, ap₂, ◌∙◌, subst}
use mathlib.Core.Bool.{Bool, true, false}
use mathlib.Core.List.{List, [], ◌∷◌, ◌++◌, map}
use Prim.Native.Nat.{ℕ, zero, suc, ◌+◌, ◌-◌, ◌*◌, ◌/◌, ◌%◌, ◌^◌, ◌≤◌, ◌<◌}
use native.Mathlib.Nat.{pow-succ', div-div-eq-div-mul, zero-div, mod-lt, mul_left_comm}
use native.Mathlib.Omega.{arith}
use lib.ListN.{length, get_or, length-map}
use lib.Pow.{pow_pos, shr-shr, field, mod-mod-pow}
use lib.Dec.{eqb}
use Rattle.ctl.specs.Lists.{count_from}
use Rattle.ctl.specs.Numbers.{has_bit, digit, number}
use Rattle.ctl.proofs.ListLaws.{get_d-count, length-count}

has_bit-zero : (b : Bool) (x : ℕ) → has_bit (digit b + 2 * x) 0 ≡ b
has_bit-zero true x = let e : (1 + 2 * x) / 2 ^ 0 % 2 ≡ 1 = omega arith in ap (λ v. eqb v 1) e
has_bit-zero false x = let e : (0 + 2 * x) / 2 ^ 0 % 2 ≡ 0 = omega arith in ap (λ v. eqb v 1) e

half-digit : (b : Bool) (x : ℕ) → (digit b + 2 * x) / 2 ≡ x
half-digit true x = omega arith
half-digit false x = omega arith

digit-le : (b : Bool) → digit b ≤ 1
digit-le true = omega arith
digit-le false = omega arith

-- place i + 1 of a set is place i of its half
pub has_bit-half : (t k : ℕ) → has_bit t (suc k) ≡ has_bit (t / 2) k
has_bit-half t k = ap (λ v. eqb (v % 2) 1) (ap (λ d. t / d) (pow-succ' 2 k) ∙ sym (div-div-eq-div-mul t 2 (2 ^ k)))

-- a list's places are its set's
pub number-place : (l : List Bool) (k : ℕ) → has_bit (number l) k ≡ get_or l k false
unfolding number
number-place [] k = ap (λ v. eqb (v % 2) 1) (zero-div (2 ^ k))
number-place (b ∷ l) zero = has_bit-zero b (number l)
number-place (b ∷ l) (suc k) = has_bit-half (digit b + 2 * number l) k ∙ ap (λ v. has_bit v k) (half-digit b (number l)) ∙ number-place l k

pub number_lt : (l : List Bool) → number l < 2 ^ length l
unfolding number
number_lt [] = omega arith
number_lt (b ∷ l) = let h = number_lt l in let k = digit-le b in omega (arith, pow-succ' 2 (length l))

low_digit : (t : ℕ) → digit (has_bit t 0) + 2 * (t / 2) ≡ t
low_digit t = go (t / 2 ^ 0 % 2) refl (omega arith)
  where
    go : (v : ℕ) → t / 2 ^ 0 % 2 ≡ v → v < 2 → digit (eqb v 1) + 2 * (t / 2) ≡ t
    go zero e h = omega arith
    go (suc zero) e h = omega arith
    go (suc (suc v)) e h = absurd (omega arith)

-- sets below 2 ^ n with the same n places are equal
pub same-places : (n s t : ℕ) → s < 2 ^ n → t < 2 ^ n → ((k : ℕ) → k < n → has_bit s k ≡ has_bit t k) → s ≡ t
same-places zero s t hs ht f = omega arith
same-places (suc n) s t hs ht f =
    sym (low_digit s)
    ∙ ap₂ (λ b x. digit b + 2 * x) (f 0 (omega arith))
    (same-places n (s / 2) (t / 2) (omega (arith, pow-succ' 2 n)) (omega (arith, pow-succ' 2 n)) (λ k h. sym (has_bit-half s k) ∙ f (suc k) (omega arith) ∙ has_bit-half t k))
    ∙ low_digit t

-- ---- the n places from a on of a set that is a test

unfoldable pub window : (ℕ → Bool) → ℕ → ℕ → ℕ
unfolding number
window f a n = number (map f (count_from a n))

pub window-place : (f : ℕ → Bool) (a n k : ℕ) → k < n → has_bit (window f a n) k ≡ f (a + k)
unfolding window
window-place f a n k h = number-place (map f (count_from a n)) k ∙ get_d-count f false a n k h

pub window-lt : (f : ℕ → Bool) (a n : ℕ) → window f a n < 2 ^ n
unfolding window
window-lt f a n = subst (λ k. window f a n < 2 ^ k) (length-map (count_from a n) f ∙ length-count a n) (number_lt (map f (count_from a n)))

-- a number below 2 ^ n is that window if it has those places
pub window-only : (f : ℕ → Bool) (a n x : ℕ) → x < 2 ^ n → ((k : ℕ) → k < n → has_bit x k ≡ f (a + k)) → x ≡ window f a n
window-only f a n x h g = same-places n x (window f a n) h (window-lt f a n) (λ k l. g k l ∙ sym (window-place f a n k l))

-- ---- the places of a set from a on

-- the first c places of a set, and those from c on
low_bit : (r c j : ℕ) → j < c → has_bit (r % 2 ^ c) j ≡ has_bit r j
low_bit r c j h =
    let d = c - j - 1 in
    let e : d + 1 + j ≡ c = omega arith in
    subst (λ x. has_bit (r % 2 ^ x) j ≡ has_bit r j) e (ap (λ y. eqb (y % 2) 1) (field r (d + 1) j) ∙ ap (λ y. eqb y 1) (mod-mod-pow (r / 2 ^ j) d 1))

high_bit : (r c j : ℕ) → has_bit (r / 2 ^ c) j ≡ has_bit r (c + j)
high_bit r c j = ap (λ y. eqb (y % 2) 1) (shr-shr r c j)

pub window-set : (t a n : ℕ) → window (has_bit t) a n ≡ t / 2 ^ a % 2 ^ n
window-set t a n = sym (window-only (has_bit t) a n (t / 2 ^ a % 2 ^ n) (mod-lt (t / 2 ^ a) (pow_pos n)) (λ k h. low_bit (t / 2 ^ a) n k h ∙ high_bit t a k))

pub number_append : (l m : List Bool) → number (l ++ m) ≡ number m * 2 ^ length l + number l
unfolding number
number_append [] m = omega arith
number_append (b ∷ l) m =
    let e : number m * 2 ^ suc (length l) ≡ 2 * (number m * 2 ^ length l) = ap (λ k. number m * k) (pow-succ' 2 (length l)) ∙ mul_left_comm (number m) 2 (2 ^ length l) in
    let h = number_append l m in
    omega arith

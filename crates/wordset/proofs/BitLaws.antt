-- The digits of a word after `&`, `|`, `!`, a power of two; words of equal digits are equal; the least set digit and the count of set digits.
-- Assumes nothing.
use mathlib.Core.Path.{◌≡◌, refl, sym, ap, ap₂, ◌∙◌, fun_ext}
use mathlib.Core.Bool.{Bool, true, false, ◌&&◌, ◌||◌, not, cond, true≢false, false≢true}
use mathlib.Core.Logic.{⊎_elim}
use Prim.Native.Nat.{ℕ, zero, suc, ◌+◌, ◌-◌, ◌*◌, ◌/◌, ◌%◌, ◌^◌, ◌≤◌, ◌<◌, min, max}
use native.Mathlib.Nat.{div-add-mod', div-one, zero-div, pow-suc, mod-lt, zero-lt-suc, le_of_suc-le-suc, not-suc-le-zero, add_comm}
use native.Mathlib.Numerals.{one-add}
use native.Mathlib.Omega.{arith}
use lib.Dec.{eqb, eqb-zero-suc, eqb-suc-zero, eqb-suc-suc}
use lib.Arith.{digits_mod, lt-one}
use lib.Pow.{shr-shr, shl_exact, pow_pos, pow_mono, high}
use lib.Bits.{block_half, block_odd, bit_and, bit_or, and_shr, or_shr, and_step, or_step, and_mask}
use lib.Count.{ones, ones_step, count_trailing_zeros, under}
use borrow.Author.Tests.{ne_eqb}
use Rattle.wordset.specs.Below.{one, any_below, count_below, least}
use Rattle.wordset.specs.Word.{digit, bit, word_of}
use Rattle.wordset.proofs.BelowLaws.{top, count-front, any_none, any_false, least_zero, least-suc}

two_pos : zero < 2
two_pos = zero-lt-suc 1

pub digit_lt : (n i : ℕ) → digit n i < 2
digit_lt n i = mod-lt (n / 2 ^ i) two_pos

pub digit-zero : (n : ℕ) → digit n 0 ≡ n % 2
digit-zero n = ap (λ (x : ℕ). x % 2) (div-one n)

pub digit-suc : (n i : ℕ) → digit n (suc i) ≡ digit (n / 2) i
digit-suc n i = sym (ap (λ (x : ℕ). x % 2) (shr-shr n 1 i ∙ ap (λ (x : ℕ). n / 2 ^ x) (one-add i)))

pub bit-zero : (n : ℕ) → bit n 0 ≡ eqb (n % 2) 1
unfolding bit
bit-zero n = ap (λ (x : ℕ). eqb x 1) (digit-zero n)

pub bit-suc : (n i : ℕ) → bit n (suc i) ≡ bit (n / 2) i
unfolding bit
bit-suc n i = ap (λ (x : ℕ). eqb x 1) (digit-suc n i)

-- tests on digits
and-test : (x y : ℕ) → x < 2 → y < 2 → eqb (min x y) 1 ≡ (eqb x 1 && eqb y 1)
and-test zero zero h k = refl
and-test zero (suc zero) h k = refl
and-test zero (suc (suc y)) h k = absurd (omega arith)
and-test (suc zero) zero h k = refl
and-test (suc zero) (suc zero) h k = refl
and-test (suc zero) (suc (suc y)) h k = absurd (omega arith)
and-test (suc (suc x)) y h k = absurd (omega arith)

or-test : (x y : ℕ) → x < 2 → y < 2 → eqb (max x y) 1 ≡ (eqb x 1 || eqb y 1)
or-test zero zero h k = refl
or-test zero (suc zero) h k = refl
or-test zero (suc (suc y)) h k = absurd (omega arith)
or-test (suc zero) zero h k = refl
or-test (suc zero) (suc zero) h k = refl
or-test (suc zero) (suc (suc y)) h k = absurd (omega arith)
or-test (suc (suc x)) y h k = absurd (omega arith)

not_test : (x : ℕ) → x < 2 → eqb (1 - x) 1 ≡ not (eqb x 1)
not_test zero h = refl
not_test (suc zero) h = refl
not_test (suc (suc x)) h = absurd (omega arith)

pub bit-and : (a b i : ℕ) → bit (bit_and a b) i ≡ (bit a i && bit b i)
unfolding bit
bit-and a b i =
    let p : ℕ = a / 2 ^ i in
    let q : ℕ = b / 2 ^ i in
    let low : bit_and p q % 2 ≡ min (p % 2) (q % 2) = ap (λ (x : ℕ). x % 2) (and_step p q) ∙ digits_mod (bit_and (p / 2) (q / 2)) (omega arith) in
    ap (λ (x : ℕ). eqb (x % 2) 1) (and_shr a b i) ∙ ap (λ (x : ℕ). eqb x 1) low ∙ and-test (p % 2) (q % 2) (omega arith) (omega arith)

pub bit-or : (a b i : ℕ) → bit (bit_or a b) i ≡ (bit a i || bit b i)
unfolding bit
bit-or a b i =
    let p : ℕ = a / 2 ^ i in
    let q : ℕ = b / 2 ^ i in
    let low : bit_or p q % 2 ≡ max (p % 2) (q % 2) = ap (λ (x : ℕ). x % 2) (or_step p q) ∙ digits_mod (bit_or (p / 2) (q / 2)) (omega arith) in
    ap (λ (x : ℕ). eqb (x % 2) 1) (or_shr a b i) ∙ ap (λ (x : ℕ). eqb x 1) low ∙ or-test (p % 2) (q % 2) (omega arith) (omega arith)

-- (x >> i) & 1 == 1
pub test_bit : (x i : ℕ) → eqb (bit_and (x / 2 ^ i) 1) 1 ≡ bit x i
unfolding bit
test_bit x i = ap (λ (d : ℕ). eqb d 1) (and_mask (x / 2 ^ i) 1)

-- the complement in k digits
digit_not : (k i x : ℕ) → x < 2 ^ k → i < k → digit ((2 ^ k - 1) - x) i ≡ 1 - digit x i
digit_not zero i x h l = absurd (not-suc-le-zero l)
digit_not (suc k) zero x h l =
    let e = pow-suc 2 k in
    digit-zero ((2 ^ suc k - 1) - x) ∙ (let g : ((2 ^ suc k - 1) - x) % 2 ≡ 1 - x % 2 = omega arith in g) ∙ ap (λ (d : ℕ). 1 - d) (sym (digit-zero x))
digit_not (suc k) (suc i) x h l =
    let e = pow-suc 2 k in
    let half : ((2 ^ suc k - 1) - x) / 2 ≡ (2 ^ k - 1) - x / 2 = omega arith in
    digit-suc ((2 ^ suc k - 1) - x) i ∙ ap (λ (n : ℕ). digit n i) half
    ∙ digit_not k i (x / 2) (omega arith) (le_of_suc-le-suc l) ∙ ap (λ (d : ℕ). 1 - d) (sym (digit-suc x i))

pub bit_not : (k i x : ℕ) → x < 2 ^ k → i < k → bit ((2 ^ k - 1) - x) i ≡ not (bit x i)
unfolding bit
bit_not k i x h l = ap (λ (d : ℕ). eqb d 1) (digit_not k i x h l) ∙ not_test (digit x i) (digit_lt x i)

-- a & !b
pub bit-minus : (k i a b : ℕ) → b < 2 ^ k → i < k → bit (bit_and a ((2 ^ k - 1) - b)) i ≡ (bit a i && not (bit b i))
bit-minus k i a b h l = bit-and a ((2 ^ k - 1) - b) i ∙ ap (λ (t : Bool). bit a i && t) (bit_not k i b h l)

-- no number is in 0
pub bit-none : (i : ℕ) → bit 0 i ≡ false
unfolding bit
bit-none i = ap (λ (n : ℕ). eqb (n % 2) 1) (zero-div (2 ^ i))

pub bit-shr : (x j c : ℕ) → bit (x / 2 ^ j) c ≡ bit x (j + c)
unfolding bit
bit-shr x j c = ap (λ (n : ℕ). eqb (n % 2) 1) (shr-shr x j c)

-- a number has no digits from k on if it is below 2 ^ k
pub bit_past : (k x : ℕ) → x < 2 ^ k → (c : ℕ) → k ≤ c → bit x c ≡ false
unfolding bit
bit_past k x h c l =
    let p : 2 ^ k ≤ 2 ^ c = pow_mono l in
    let z : x ≡ 0 * 2 ^ c + x = omega arith in
    ap (λ (n : ℕ). eqb (n % 2) 1) (ap (λ (n : ℕ). n / 2 ^ c) z ∙ high 0 c (omega arith))

-- 1 << b is the set of b alone
pub bit-pow : (b i : ℕ) → bit (2 ^ b) i ≡ eqb i b
bit-pow zero zero = bit-zero 1
bit-pow zero (suc i) = bit-suc 1 i ∙ bit-none i ∙ sym (eqb-suc-zero i)
bit-pow (suc b) zero =
    let e = pow-suc 2 b in
    let g : 2 ^ suc b % 2 ≡ 0 = omega arith in
    bit-zero (2 ^ suc b) ∙ ap (λ (n : ℕ). eqb n 1) g ∙ sym (eqb-zero-suc b)
bit-pow (suc b) (suc i) =
    let e = pow-suc 2 b in
    let g : 2 ^ suc b / 2 ≡ 2 ^ b = omega arith in
    bit-suc (2 ^ suc b) i ∙ ap (λ (n : ℕ). bit n i) g ∙ bit-pow b i ∙ sym (eqb-suc-suc i b)

pub shl_one : (b : ℕ) → b < 64 → (1 * 2 ^ b) % 2 ^ 64 ≡ 2 ^ b
shl_one b h = shl_exact 1 b 64 (omega arith) (omega arith) ∙ omega arith

-- words of k digits with the same set are equal
same-digit : (x y : ℕ) → x < 2 → y < 2 → eqb x 1 ≡ eqb y 1 → x ≡ y
same-digit zero zero h k e = refl
same-digit zero (suc zero) h k e = absurd (false≢true e)
same-digit zero (suc (suc y)) h k e = absurd (omega arith)
same-digit (suc zero) zero h k e = absurd (true≢false e)
same-digit (suc zero) (suc zero) h k e = refl
same-digit (suc zero) (suc (suc y)) h k e = absurd (omega arith)
same-digit (suc (suc x)) y h k e = absurd (omega arith)

pub bit-ext : (k a b : ℕ) → a < 2 ^ k → b < 2 ^ k → ((i : ℕ) → i < k → bit a i ≡ bit b i) → a ≡ b
bit-ext zero a b ha hb e = lt-one ha ∙ sym (lt-one hb)
bit-ext (suc k) a b ha hb e =
    let p = pow-suc 2 k in
    let low : a % 2 ≡ b % 2 = same-digit (a % 2) (b % 2) (omega arith) (omega arith) (sym (bit-zero a) ∙ e 0 (omega arith) ∙ bit-zero b) in
    let high : a / 2 ≡ b / 2 =
    bit-ext k (a / 2) (b / 2) (omega arith) (omega arith) (λ i h. sym (bit-suc a i) ∙ e (suc i) (omega arith) ∙ bit-suc b i) in
    omega arith

-- the word made of a test has the numbers that pass it
pub word_of-lt : (k : ℕ) (P : ℕ → Bool) → word_of k P < 2 ^ k
unfolding word_of
word_of-lt zero P = omega arith
word_of-lt (suc k) P = go (P k) (word_of-lt k P)
  where
    go : (t : Bool) → word_of k P < 2 ^ k → word_of k P + one t * 2 ^ k < 2 ^ suc k
    go true h = omega (arith, pow-suc 2 k)
    go false h = omega (arith, pow-suc 2 k)

-- the digits below k of a number are those of what is left of it by 2 ^ k
pub digit_low : (c a i k : ℕ) → i < k → digit (c * 2 ^ k + a) i ≡ digit a i
digit_low c a i zero h = absurd (not-suc-le-zero h)
digit_low c a zero (suc k) h = digit-zero (c * 2 ^ suc k + a) ∙ block_odd c k a ∙ sym (digit-zero a)
digit_low c a (suc i) (suc k) h =
    digit-suc (c * 2 ^ suc k + a) i ∙ ap (λ (n : ℕ). digit n i) (block_half c k a) ∙ digit_low c (a / 2) i k (le_of_suc-le-suc h) ∙ sym (digit-suc a i)

pub bit-low : (k x i : ℕ) → i < k → bit (x % 2 ^ k) i ≡ bit x i
unfolding bit
bit-low k x i h =
    ap (λ (d : ℕ). eqb d 1) (sym (digit_low (x / 2 ^ k) (x % 2 ^ k) i k h) ∙ ap (λ (n : ℕ). digit n i) (div-add-mod' x (2 ^ k)))

pub bit-word_of : (k : ℕ) (P : ℕ → Bool) (i : ℕ) → i < k → bit (word_of k P) i ≡ P i
unfolding word_of bit
bit-word_of zero P i h = absurd (not-suc-le-zero h)
bit-word_of (suc k) P i h =
    ap (λ (n : ℕ). eqb (digit n i) 1) (add_comm (word_of k P) (one (P k) * 2 ^ k))
    ∙ ⊎_elim
    (λ (e : i ≡ k).
    ap (λ (m : ℕ). eqb (digit (one (P k) * 2 ^ k + word_of k P) m) 1) e
    ∙ ap (λ (n : ℕ). eqb (n % 2) 1) (high (one (P k)) k (word_of-lt k P)) ∙ one-of (P k) ∙ ap P (sym e))
    (λ (l : i < k). ap (λ (d : ℕ). eqb d 1) (digit_low (one (P k)) (word_of k P) i k l) ∙ bit-word_of k P i l) (top i k h)
  where
    one-of : (t : Bool) → eqb (one t % 2) 1 ≡ t
    one-of true = refl
    one-of false = refl

-- the least number of a word is its count of trailing zeros
under-test : (x t : ℕ) → x < 2 → under x t ≡ cond (eqb x 1) 0 (suc t)
under-test zero t h = refl
under-test (suc zero) t h = refl
under-test (suc (suc x)) t h = absurd (omega arith)

pub trailing-least : (k n : ℕ) → count_trailing_zeros k n ≡ least k (bit n)
unfolding count_trailing_zeros
trailing-least zero n = sym (least_zero (bit n))
trailing-least (suc k) n =
    under-test (n % 2) (count_trailing_zeros k (n / 2)) (omega arith)
    ∙ ap₂ (λ (t : Bool) (r : ℕ). cond t 0 (suc r)) (sym (bit-zero n)) (trailing-least k (n / 2) ∙ ap (least k) (fun_ext (λ j. sym (bit-suc n j))))
    ∙ sym (least-suc k (bit n))

-- how many numbers a word holds is its count of set digits
one-digit : (x : ℕ) → x < 2 → one (eqb x 1) ≡ x
one-digit zero h = refl
one-digit (suc zero) h = refl
one-digit (suc (suc x)) h = absurd (omega arith)

pub ones-count : (k n : ℕ) → n < 2 ^ k → ones n ≡ count_below k (bit n)
unfolding count_below ones
ones-count zero n h = ap ones (lt-one h)
ones-count (suc k) n h =
    let p = pow-suc 2 k in
    ones_step n
    ∙ ap₂ (λ (x y : ℕ). x + y) (sym (one-digit (n % 2) (omega arith)) ∙ ap one (sym (bit-zero n)))
    (ones-count k (n / 2) (omega arith) ∙ ap (count_below k) (fun_ext (λ j. sym (bit-suc n j))))
    ∙ sym (count-front (bit n) k)

-- a word is 0 exactly if it holds no number
pub any-bit : (k n : ℕ) → n < 2 ^ k → any_below k (bit n) ≡ not (eqb n 0)
any-bit k n h = go n refl
  where
    go : (m : ℕ) → n ≡ m → any_below k (bit n) ≡ not (eqb n 0)
    go zero e = ap (λ (x : ℕ). any_below k (bit x)) e ∙ any_none (bit 0) k (λ i l. bit-none i) ∙ ap (λ (x : ℕ). not (eqb x 0)) (sym e)
    go (suc m) e = go' (any_below k (bit n)) refl ∙ ap not (sym (ne_eqb n 0 (omega arith)))
      where
        go' : (t : Bool) → any_below k (bit n) ≡ t → any_below k (bit n) ≡ true
        go' true q = q
        go' false q =
            let z : n ≡ 0 = bit-ext k n 0 h (pow_pos k) (λ i l. any_false (bit n) k q i l ∙ sym (bit-none i)) in
            absurd (omega arith)

-- ---- the word made of a test is the only one with these digits

pub word_of-is : (k : ℕ) (P : ℕ → Bool) (x : ℕ) → x < 2 ^ k → ((i : ℕ) → i < k → bit x i ≡ P i) → x ≡ word_of k P
word_of-is k P x h e = bit-ext k x (word_of k P) h (word_of-lt k P) (λ i l. e i l ∙ sym (bit-word_of k P i l))

pub word_of-ext : (k : ℕ) (P Q : ℕ → Bool) → ((i : ℕ) → i < k → P i ≡ Q i) → word_of k P ≡ word_of k Q
word_of-ext k P Q e = word_of-is k Q (word_of k P) (word_of-lt k P) (λ i l. bit-word_of k P i l ∙ e i l)

pub word_of-none : (k : ℕ) → 0 ≡ word_of k (λ j. false)
word_of-none k = word_of-is k (λ j. false) 0 (pow_pos k) (λ i l. bit-none i)

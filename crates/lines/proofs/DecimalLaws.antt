-- The kit's digits of a number are the digits of the definition. Assumes nothing.
use mathlib.Core.Path.{◌≡◌, sym, ap, ap₂, ◌∙◌, subst}
use mathlib.Core.Bool.{cond}
use mathlib.Core.List.{List, [], ◌∷◌, ◌++◌}
use Prim.Native.Nat.{ℕ, zero, suc, ◌+◌, ◌/◌, ◌%◌, ◌^◌, ◌-◌, ◌≤◌, ◌<◌}
use native.Mathlib.Decide.{dec_le}
use native.Mathlib.Nat.{one-le-pow, pow-le-pow_right, pow-suc}
use native.Mathlib.Numerals.{sub-one}
use native.Mathlib.Omega.{arith}
use lib.ListN.{length, take, length-take}
use borrow.Author.Tests.{lt-ltb, le-ltb}
use Rattle.io.specs.Digits.{IsDigitCount, hex_digit_ascii}
use Rattle.io.specs.Digits as Kit
use Rattle.lines.specs.Lines.{digits, decimal}
use Rattle.buffer.specs.Put.{Put}

digit : (n : ℕ) → hex_digit_ascii (n % 10) ≡ 48 + n % 10
digit n = ap (λ b. cond b (48 + n % 10) (87 + n % 10)) (lt-ltb (n % 10) 10 (omega arith))

-- a number below `most`, in the fewest digits
digits_are : (k most n : ℕ) → n < most → n < 10 ^ suc k → (1 ≤ k → 10 ^ k ≤ n) → digits most n ≡ Kit.last_digits 10 (suc k) n
unfolding digits
digits_are zero zero n h a b = elim h [ ]
digits_are (suc k) zero n h a b = elim h [ ]
digits_are zero (suc most) n h a b = ap₂ (λ t d. cond t [] (digits most (n / 10)) ++ (d ∷ [])) (lt-ltb n 10 a) (sym (digit n))
digits_are (suc k) (suc most) n h a b =
    let p = pow-suc 10 k in
    let q = pow-suc 10 (suc k) in
    let l = b (omega arith) in
    let o = one-le-pow k 10 (omega arith) in
    ap₂ (λ t d. cond t [] (digits most (n / 10)) ++ (d ∷ [])) (le-ltb n 10 (omega arith)) (sym (digit n))
    ∙ ap (λ l. l ++ (hex_digit_ascii (n % 10) ∷ [])) (digits_are k most (n / 10) (omega arith) (omega arith) (λ i. omega arith))

pub decimal-is : (n k : ℕ) → IsDigitCount 10 1 n k → decimal n ≡ Kit.last_digits 10 k n
unfolding decimal
decimal-is n zero f = absurd (omega arith)
decimal-is n (suc k) f = digits_are k (suc n) n (omega arith) f.1 (λ i. subst (λ j. 10 ^ j ≤ n) (sub-one (suc k)) (f.2 (omega arith)))

few-digits : (n k : ℕ) → n < 2 ^ 64 → IsDigitCount 10 1 n k → k ≤ 20
few-digits n k h f = go (dec_le k 20)
  where
    go : Dec (k ≤ 20) → k ≤ 20
    go (yes i) = i
    go (no i) =
        let j : 20 ≤ k - 1 = omega arith in
        let p : 10 ^ 20 ≤ 10 ^ (k - 1) = pow-le-pow_right (omega arith) j in
        let q = f.2 (omega arith) in
        absurd (omega arith)

-- what the kit spelled has room in 20 bytes, and put into a buffer it is the number
module _ {x k : ℕ} (h : x < 2 ^ 64) (f : IsDigitCount 10 1 x k) (spelled : List ℕ) where
  pub number_short : length (take k spelled) ≤ 20
  number_short = let m = few-digits x k h f in omega (arith, length-take k spelled)

  pub number_put : take k spelled ≡ Kit.last_digits 10 k x → {n r : ℕ} {out out' : List ℕ} → Put n (take k spelled) out out' r → Put n (decimal x) out out' r × (r ≤ n + 20)
  number_put e {n} {r} {out} {out'} p =
      let s = number_short in
      let u = p.used in
      (subst (λ t. Put n t out out' r) (e ∙ sym (decimal-is x k f)) p, omega arith)

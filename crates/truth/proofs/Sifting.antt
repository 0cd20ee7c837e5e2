-- The loop that goes through the numbers of a word, from the lowest on, and keeps those that pass a test. Assumes nothing.
use mathlib.Core.Path.{◌≡◌, refl, sym, ap, ap₂, ◌∙◌}
use mathlib.Core.Bool.{and-true, and-false, or-false, Bool, true, false, not, ◌&&◌, ◌||◌}
use Prim.Native.Nat.{ℕ, zero, suc, ◌-◌, ◌/◌, ◌%◌, ◌^◌, ◌≤◌, ◌<◌}
use native.Mathlib.Omega.{arith}
use native.Mathlib.Nat.{pow-suc}
use lib.Arith.{lt-one}
use lib.Bits.{bit_and, and_le_r}
use lib.Count.{count_trailing_zeros, under}
use lib.Dec.{eqb, eqb-suc-zero, eqb-suc-suc}
use borrow.Author.Tests.{eqb-true, eq-eqb, ne_eqb}
use Rattle.wordset.proofs.BelowLaws.{least-below, least-holds, least-is, least_lt}
use Rattle.wordset.proofs.BitLaws.{any-bit, bit-and, bit-minus, bit-none, bit-suc, bit-zero, trailing-least}
use Rattle.wordset.specs.Below.{least}
use Rattle.wordset.specs.Word.{bit}

-- ---- the lowest number of a word, and the word without it

pub lowest : (k x : ℕ) → k ≤ 64 → x < 2 ^ k → (x ≡ 0 → ⊥) → (count_trailing_zeros 64 x < k) × (bit x (count_trailing_zeros 64 x) ≡ true)
lowest k x g h n =
    let l = least_lt k (bit x) (any-bit k x h ∙ ap not (ne_eqb x 0 n)) in
    let e : count_trailing_zeros 64 x ≡ least k (bit x) = trailing-least 64 x ∙ least-is 64 (bit x) (least k (bit x)) (omega arith) (least-holds k (bit x) l) (least-below k (bit x)) in
    (omega arith, ap (bit x) e ∙ least-holds k (bit x) l)

-- x & (x - 1)
abbrev pub less : ℕ → ℕ
less x = bit_and x (x - 1)

pub less-lt : (x : ℕ) → (x ≡ 0 → ⊥) → less x < x
less-lt x n = let q = and_le_r x (x - 1) in omega arith

idem : (b : Bool) → (b && b) ≡ b
idem true = refl
idem false = refl

-- a digit of x and x - 1, by the last digit d of x
lower_by : (k x d : ℕ) → x % 2 ≡ d → (x ≡ 0 → ⊥)
    → ((x / 2 ≡ 0 → ⊥) → (c : ℕ) → (bit (x / 2) c && bit (x / 2 - 1) c) ≡ (bit (x / 2) c && not (eqb c (count_trailing_zeros k (x / 2)))))
    → (c : ℕ) → (bit x c && bit (x - 1) c) ≡ (bit x c && not (eqb c (under d (count_trailing_zeros k (x / 2)))))
lower_by k x zero e n f zero =
    let z : bit x 0 ≡ false = bit-zero x ∙ ap (λ (n : ℕ). eqb n 1) e in
    ap (λ b. b && bit (x - 1) 0) z ∙ sym (ap (λ b. b && not (eqb 0 (suc (count_trailing_zeros k (x / 2))))) z)
lower_by k x zero e n f (suc c) =
    let h : (x - 1) / 2 ≡ x / 2 - 1 = omega arith in
    ap₂ ◌&&◌ (bit-suc x c) (bit-suc (x - 1) c ∙ ap (λ (n : ℕ). bit n c) h) ∙ f (λ q. n (omega arith)) c
    ∙ sym (ap₂ (λ a b. a && not b) (bit-suc x c) (eqb-suc-suc c (count_trailing_zeros k (x / 2))))
lower_by k x (suc zero) e n f zero =
    let h : (x - 1) % 2 ≡ 0 = omega arith in
    ap (λ b. bit x 0 && b) (bit-zero (x - 1) ∙ ap (λ (n : ℕ). eqb n 1) h) ∙ sym (ap (λ b. bit x 0 && not b) (eq-eqb 0 0 refl))
lower_by k x (suc zero) e n f (suc c) =
    let h : (x - 1) / 2 ≡ x / 2 = omega arith in
    ap (λ b. bit x (suc c) && b) (bit-suc (x - 1) c ∙ ap (λ (n : ℕ). bit n c) h ∙ sym (bit-suc x c)) ∙ idem (bit x (suc c))
    ∙ sym (ap (λ b. bit x (suc c) && not b) (eqb-suc-zero c) ∙ and-true (bit x (suc c)))
lower_by k x (suc (suc d)) e n f c = absurd (omega arith)

lower : (k x : ℕ) → (x ≡ 0 → ⊥) → x < 2 ^ k → (c : ℕ) → (bit x c && bit (x - 1) c) ≡ (bit x c && not (eqb c (count_trailing_zeros k x)))
unfolding count_trailing_zeros
lower zero x n h c = absurd (n (lt-one h))
lower (suc k) x n h c = let p = pow-suc 2 k in lower_by k x (x % 2) refl n (λ m. lower k (x / 2) m (omega arith)) c

pub less-bit : (x : ℕ) → (x ≡ 0 → ⊥) → x < 2 ^ 64 → (c : ℕ) → bit (less x) c ≡ (bit x c && not (eqb c (count_trailing_zeros 64 x)))
less-bit x n h c = bit-and x (x - 1) c ∙ lower 64 x n h c

-- x & !(x & (x - 1)) has the lowest alone
abbrev pub least-word : ℕ → ℕ
least-word x = bit_and x ((2 ^ 64 - 1) - less x)

least-bit : (x : ℕ) → (x ≡ 0 → ⊥) → x < 2 ^ 64 → (c : ℕ) → c < 64 → bit (least-word x) c ≡ eqb c (count_trailing_zeros 64 x)
least-bit x n h c l =
    bit-minus 64 c x (less x) (let q = less-lt x n in omega arith) l ∙ ap (λ z. bit x c && not z) (less-bit x n h c)
    ∙ only (bit x c) (eqb c (count_trailing_zeros 64 x)) (λ e. ap (bit x) (eqb-true c (count_trailing_zeros 64 x) e) ∙ (lowest 64 x (omega arith) h n).1)
  where
    only : (b e : Bool) → (e ≡ true → b ≡ true) → (b && not (b && not e)) ≡ e
    only true true f = refl
    only true false f = refl
    only false true f = f refl
    only false false f = refl

-- ---- the loop

-- `rest` is still to come, and acc has those that passed Q: with those that are to come, all of the word x that pass
pub record Sifting (Q : ℕ → Bool) (x rest acc : ℕ) : Type 0 where
  pub small : acc < 2 ^ 64
  pub fits : rest < 2 ^ 64
  pub is : (c : ℕ) → c < 64 → (bit acc c || (bit rest c && Q c)) ≡ (bit x c && Q c)

turn : (v d q b x : Bool) → (x ≡ true → (d ≡ true) × (b ≡ q)) → ((v || (x && b)) || ((d && not x) && q)) ≡ (v || (d && q))
turn true d q b x f = refl
turn false d q b true f = ap (λ z. b || (z && q)) (and-false d) ∙ or-false b ∙ (f refl).1 ∙ sym (ap (λ z. z && q) (f refl).0)
turn false d q b false f = ap (λ z. z && q) (and-true d)

pub sift-start : {Q : ℕ → Bool} {x : ℕ} → x < 2 ^ 64 → Sifting Q x x 0
sift-start {Q} {x} h = record { small = omega arith; fits = h; is = λ c l. ap (λ z. z || (bit x c && Q c)) (bit-none c) }

module _ {Q : ℕ → Bool} {x rest acc : ℕ} (s : Sifting Q x rest acc) where
  -- the lowest is taken out of `rest`, and put into acc if it passes
  pub sift-next : (rest ≡ 0 → ⊥) → (on : Bool) (acc' : ℕ) → on ≡ Q (count_trailing_zeros 64 rest) → acc' < 2 ^ 64
      → ((c : ℕ) → bit acc' c ≡ (bit acc c || (bit (least-word rest) c && on))) → Sifting Q x (less rest) acc'
  sift-next n on acc' e k f = record {
    small = k;
    fits = (let a = s.fits in let b = less-lt rest n in omega arith);
    is = λ c l. ap₂ (λ p q. p || (q && Q c)) (f c ∙ ap (λ z. bit acc c || (z && on)) (least-bit rest n s.fits c l)) (less-bit rest n s.fits c)
        ∙ turn (bit acc c) (bit rest c) (Q c) on (eqb c (count_trailing_zeros 64 rest))
        (λ z. (let q : c ≡ count_trailing_zeros 64 rest = eqb-true c (count_trailing_zeros 64 rest) z in (ap (bit rest) q ∙ (lowest 64 rest (omega arith) s.fits n).1, e ∙ ap Q (sym q)))) ∙ s.is c l;
  }

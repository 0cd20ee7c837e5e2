-- The pass over a set that looks for a type which refuses less. Assumes nothing.
use mathlib.Core.Path.{◌≡◌, refl, sym, ap, ◌∙◌}
use mathlib.Core.Bool.{and-false, Bool, true, false, not, ◌&&◌, false≢true}
use mathlib.Core.List.{List}
use mathlib.Core.Logic.{⊎_elim}
use Prim.Native.Nat.{ℕ, ◌+◌, ◌*◌, ◌^◌, ◌≤◌, ◌<◌}
use native.Mathlib.Omega.{arith}
use borrow.Author.Tests.{not-true}
use lib.Bits.{bit_and, and_le_r, and_lt}
use lib.Count.{count_trailing_zeros}
use Rattle.ctl.proofs.BoolLaws.{and_both, and-make}
use Rattle.truth.proofs.Sifting.{lowest}
use Rattle.wordset.proofs.BelowLaws.{any_false, least-holds, least_lt, lt-or-le}
use Rattle.wordset.proofs.BitLaws.{bit-and, bit-ext}
use Rattle.wordset.specs.Answers.{Answers}
use Rattle.wordset.specs.Below.{any_below, least}
use Rattle.wordset.specs.Word.{bit}
use Rattle.wordset.specs.Words.{member}
use Rattle.truth.specs.Blocks.{has}
use Rattle.image.specs.Covering.{Refused, RefusedBy}
use Rattle.image.specs.Narrowing.{not_all}

-- ---- a word that is part of another

part-le : (a b : ℕ) → a < 2 ^ 64 → b < 2 ^ 64 → ((i : ℕ) → i < 64 → bit a i ≡ true → bit b i ≡ true) → a ≤ b
part-le a b ha hb f =
    let e : bit_and a b ≡ a = bit-ext 64 (bit_and a b) a (and_lt 64 a b ha hb) ha (λ i h. bit-and a b i ∙ both (bit a i) (bit b i) (f i h)) in
    let l = and_le_r a b in
    omega arith
  where
    both : (x y : Bool) → (x ≡ true → y ≡ true) → (x && y) ≡ x
    both true y k = k refl
    both false y k = refl

part-lt : (a b j : ℕ) → a < 2 ^ 64 → b < 2 ^ 64 → ((i : ℕ) → i < 64 → bit a i ≡ true → bit b i ≡ true) → bit a j ≡ false → bit b j ≡ true → a < b
part-lt a b j ha hb f x y =
    let l = part-le a b ha hb f in
    ⊎_elim (λ g. g) (λ g. absurd (let e : a ≡ b = omega arith in false≢true (sym x ∙ ap (λ (z : ℕ). bit z j) e ∙ y))) (lt-or-le a b)

-- ---- a type that refuses less

-- of the entries a, u is in some of r only
abbrev pub fewer : ℕ → List ℕ → ℕ → ℕ → ℕ → Bool
fewer w cw a r u = not_all w cw r u && not (any_below 64 (λ c. (bit a c && not (bit r c)) && has w cw c u))

module _ (w : ℕ) (cw : List ℕ) (a r u : ℕ) (f : fewer w cw a r u ≡ true) where
  -- what it refuses is in r
  fewer-within : (i : ℕ) → i < 64 → (bit a i && has w cw i u) ≡ true → bit r i ≡ true
  fewer-within i l e =
      let n = not-true _ (and_both (not_all w cw r u) _ f).1 in
      let b = and_both (bit a i) (has w cw i u) e in
      go (bit a i) (bit r i) (has w cw i u) b.0 b.1 (any_false (λ c. (bit a c && not (bit r c)) && has w cw c u) 64 n i l)
    where
      go : (x y z : Bool) → x ≡ true → z ≡ true → ((x && not y) && z) ≡ false → y ≡ true
      go x true z p q k = refl
      go x false z p q k = absurd (false≢true (sym k ∙ and-make (x && true) z (and-make x true p refl) q))

  -- one of r it is not in
  fewer-lack : (j : ℕ) × (j < 64) × (bit r j ≡ true) × (has w cw j u ≡ false)
  unfolding not_all
  fewer-lack =
      let l = least_lt 64 P (and_both (any_below 64 P) _ f).0 in
      let b = and_both (bit r (least 64 P)) (not (has w cw (least 64 P) u)) (least-holds 64 P l) in
      (least 64 P, l, b.0, not-true (has w cw (least 64 P) u) b.1)
    where
      P : ℕ → Bool
      P i = bit r i && not (has w cw i u)

-- ---- the loop: s is what a type of the set refuses

pub record Lessening (w : ℕ) (cw : List ℕ) (a : ℕ) (set : List ℕ) (s : ℕ) : Type 0 where
  pub fits : s < 2 ^ 64
  pub is : Refused w cw a set s

-- the lowest type of word k that refuses less
module _ {w : ℕ} {cw : List ℕ} {a : ℕ} {set : List ℕ} {k s x : ℕ} (p : Lessening w cw a set s) (h : k < w) (q : Answers (λ u. member set u && fewer w cw a s u) k x) (n : x ≡ 0 → ⊥) where
  less-at : count_trailing_zeros 64 x < 64
  less-at = (lowest 64 x (omega arith) q.small n).0

  less-is : (member set (k * 64 + count_trailing_zeros 64 x) ≡ true) × (fewer w cw a s (k * 64 + count_trailing_zeros 64 x) ≡ true)
  less-is = and_both (member set (k * 64 + count_trailing_zeros 64 x)) _ (q.each (count_trailing_zeros 64 x) less-at ∙ (lowest 64 x (omega arith) q.small n).1)

  pub less-on : {s' : ℕ} → s' < 2 ^ 64 → RefusedBy w cw a (k * 64 + count_trailing_zeros 64 x) s' → Lessening w cw a set s'
  less-on l e = record { fits = l; is = record { who = k * 64 + count_trailing_zeros 64 x; below = (let z = less-at in omega arith); inside = less-is.0; is = e } }

  pub less-falls : {s' : ℕ} → s' < 2 ^ 64 → RefusedBy w cw a (k * 64 + count_trailing_zeros 64 x) s' → s' < s
  less-falls {s'} l e =
      let j = fewer-lack w cw a s _ less-is.1 in
      part-lt s' s j.0 l p.fits (λ i m b. fewer-within w cw a s _ less-is.1 i m (sym (e i) ∙ b))
      (e j.0 ∙ ap (λ z. bit a j.0 && z) j.3 ∙ and-false (bit a j.0)) j.2

-- A set of modes as a list, from its lowest mode on too, and the bit of one mode. Assumes nothing.
use mathlib.Core.Path.{◌≡◌, refl, sym, ap, ◌∙◌, subst}
use mathlib.Core.List.{List, [], ◌∷◌}
use Prim.Native.Nat.{ℕ, zero, suc, ◌+◌, ◌-◌, ◌*◌, ◌/◌, ◌%◌, ◌^◌, ◌≤◌, ◌<◌}
use native.Mathlib.Omega.{arith}
use native.Mathlib.Nat.{pow-succ', one-mul, add-zero, div-one}
use native.Mathlib.Decide.{dec_le}
use lib.Dec.{eqb, lit<}
use lib.Pow.{shr-shr, shl_exact, pow-lt}
use lib.Count.{count_trailing_zeros, under}
use borrow.Author.Tests.{eq-eqb, ne_eqb}
use Rattle.ctl.specs.Lists.{put, keep, count_from}
use Rattle.ctl.specs.Modes.{has_mode, modes}
use Rattle.members.specs.ModeLists.{modes_at, modes_from}

modes-at : (A m k : ℕ) → keep (has_mode A) (count_from m k) ≡ modes_at k m (A / 2 ^ m)
modes-at A m zero = refl
modes-at A m (suc k) = ap (put (has_mode A m) m) (modes-at A (suc m) k ∙ ap (modes_at k (suc m)) (half A m))
  where
    half : (A m : ℕ) → A / 2 ^ suc m ≡ A / 2 ^ m / 2
    half A m = ap (λ k. A / 2 ^ k) (omega arith) ∙ sym (shr-shr A m 1)

pub modes-from : (A : ℕ) → modes A ≡ modes_from 0 A
unfolding modes modes_from
modes-from A = let e : A / 2 ^ 0 ≡ A = omega arith in modes-at A 0 16 ∙ ap (modes_at 16 0) e

step : (m r : ℕ) → m < 16 → modes_from m r ≡ put (eqb (r % 2) 1) m (modes_from (m + 1) (r / 2))
unfolding modes_from
step m r h = let e : 16 - m ≡ suc (16 - (m + 1)) = omega arith in let s : suc m ≡ m + 1 = omega arith in ap (λ k. modes_at k m r) e ∙ ap (λ n. put (eqb (r % 2) 1) m (modes_at (16 - (m + 1)) n (r / 2))) s

pub modes-skip : (m r : ℕ) → m < 16 → r % 2 ≡ 0 → modes_from m r ≡ modes_from (m + 1) (r / 2)
modes-skip m r h e = step m r h ∙ ap (λ b. put b m (modes_from (m + 1) (r / 2))) (ne_eqb (r % 2) 1 (λ i. omega arith))

pub modes-put : (m r : ℕ) → m < 16 → r % 2 ≡ 1 → modes_from m r ≡ m ∷ modes_from (m + 1) (r / 2)
modes-put m r h e = step m r h ∙ ap (λ b. put b m (modes_from (m + 1) (r / 2))) (eq-eqb (r % 2) 1 e)

none-at : (k m : ℕ) → modes_at k m 0 ≡ []
none-at zero m = refl
none-at (suc k) m = none-at k (suc m)

pub modes-none : (m r : ℕ) → r ≡ 0 → modes_from m r ≡ []
unfolding modes_from
modes-none m r e = ap (modes_at (16 - m) m) e ∙ none-at (16 - m) m

some_at : (k m r : ℕ) → 0 < r → r < 2 ^ k → (a : ℕ) × (l : List ℕ) × (modes_at k m r ≡ a ∷ l)
some_at zero m r h g = absurd (omega arith)
some_at (suc k) m r h g = go (r % 2) refl (λ i. some_at k (suc m) (r / 2) i (omega (arith, pow-succ' 2 k)))
  where
    go : (x : ℕ) → r % 2 ≡ x → (0 < r / 2 → (a : ℕ) × (l : List ℕ) × (modes_at k (suc m) (r / 2) ≡ a ∷ l)) → (a : ℕ) × (l : List ℕ) × (put (eqb (r % 2) 1) m (modes_at k (suc m) (r / 2)) ≡ a ∷ l)
    go zero e rec = let s = rec (omega arith) in (s.0, s.1, ap (λ b. put b m (modes_at k (suc m) (r / 2))) (ne_eqb (r % 2) 1 (λ i. omega arith)) ∙ s.2)
    go (suc x) e rec = (m, modes_at k (suc m) (r / 2), ap (λ b. put b m (modes_at k (suc m) (r / 2))) (eq-eqb (r % 2) 1 (omega arith)))

pub modes-some : (m r : ℕ) → 0 < r → r < 2 ^ (16 - m) → (a : ℕ) × (l : List ℕ) × (modes_from m r ≡ a ∷ l)
unfolding modes_from
modes-some m r h g = some_at (16 - m) m r h g

-- a number whose bits run out has a mode left
pub mode-below : (m r : ℕ) → m ≤ 16 → 0 < r → r < 2 ^ (16 - m) → m < 16
mode-below m r h g k = elim (dec_le 16 m) [ yes e ↦ absurd (let z : 16 - m ≡ 0 = omega arith in let k' : r < 2 ^ 0 = subst (λ x. r < 2 ^ x) z k in omega arith) | no e ↦ omega arith ]

pub half-below : (m r : ℕ) → m < 16 → r < 2 ^ (16 - m) → r / 2 < 2 ^ (16 - (m + 1))
half-below m r h k = let e : 16 - m ≡ suc (16 - (m + 1)) = omega arith in let k' : r < 2 ^ suc (16 - (m + 1)) = subst (λ x. r < 2 ^ x) e k in omega (arith, pow-succ' 2 (16 - (m + 1)))

pub one_bit : (m : ℕ) → m < 16 → ((1 * 2 ^ m) % 2 ^ 64 ≡ 2 ^ m) × ((1 * 2 ^ m) % 2 ^ 64 < 65536)
one_bit m h = let e : (1 * 2 ^ m) % 2 ^ 64 ≡ 2 ^ m = shl_exact 1 m 64 (lit< tt) (omega arith) ∙ one-mul (2 ^ m) in (e, subst (λ x. x < 65536) (sym e) (pow-lt h))

-- the modes of s from n on are those of r from m on, and n is the first
abbrev Same : (m r n s : ℕ) → Type 0
Same m r n s = ((n ≤ 16) × (s < 2 ^ (16 - n))) × ((s % 2 ≡ 1) × (modes_from n s ≡ modes_from m r))

pub modes-jump : (d m r : ℕ) → m ≤ 16 → 0 < r → r < 2 ^ (16 - m) → r < 2 ^ d → Same m r (m + count_trailing_zeros d r) (r / 2 ^ count_trailing_zeros d r)
unfolding count_trailing_zeros
modes-jump zero m r h g k b = absurd (omega arith)
modes-jump (suc d) m r h g k b = go (r % 2) refl (λ e. (let l = mode-below m r h g k in modes-jump d (m + 1) (r / 2) (omega arith) (omega arith) (half-below m r l k) (omega (arith, pow-succ' 2 d))))
  where
    go : (x : ℕ) → r % 2 ≡ x → (r % 2 ≡ 0 → Same (m + 1) (r / 2) (m + 1 + count_trailing_zeros d (r / 2)) (r / 2 / 2 ^ count_trailing_zeros d (r / 2)))
        → Same m r (m + under x (count_trailing_zeros d (r / 2))) (r / 2 ^ under x (count_trailing_zeros d (r / 2)))
    go zero e rec =
        let t = count_trailing_zeros d (r / 2) in
        let n : m + 1 + t ≡ m + suc t = omega arith in
        let s : r / 2 / 2 ^ t ≡ r / 2 ^ suc t = shr-shr r 1 t ∙ ap (λ k. r / 2 ^ k) (omega arith) in
        let q = rw (n, s) at (rec e) in
        (q.0, (q.1.0, q.1.1 ∙ sym (modes-skip m r (mode-below m r h g k) e)))
    go (suc x) e rec = rw (add-zero, div-one) ((h, k), (omega arith, refl))

-- Sets of modes: the mode of a set of one mode, and what holds of some mode, or of each, of a set; before it, of some number below a bound. Assumes nothing.
use mathlib.Core.Path.{◌≡◌, refl, sym, ap, ◌∙◌}
use mathlib.Core.Bool.{Bool, true, not, ◌&&◌}
use mathlib.Core.Logic.{◌⊎◌, inl, inr}
use Prim.Native.Nat.{ℕ, ◌^◌, ◌<◌}
use native.Mathlib.Omega.{arith}
use lib.Dec.{T, T_not, ltb, not_T}
use lib.Count.{count_trailing_zeros}
use borrow.Author.Tests.{eq-eqb, le-ltb, lt-ltb, ne_eqb}
use Rattle.ctl.specs.Lists as L
use Rattle.ctl.proofs.BoolLaws.{T_true, and_0, and-1, and_in, both_ways, false-T, not_absurd, true-T}
use Rattle.ctl.proofs.ModeLaws.{mode-lt, single-in, single-out, modes-has, modes-in}
use Rattle.ctl.specs.Modes.{single, has_mode, modes}
use Rattle.ctl.proofs.ListLaws.{all_in, all-out, any-in, any_out, below_in}
use Rattle.wordset.proofs.BelowLaws.{any-intro, least-holds, least-is, least_lt}
use Rattle.wordset.proofs.BitLaws.{bit-pow, trailing-least}
use Rattle.wordset.specs.Below.{any_below, least}
use Rattle.wordset.specs.Word.{bit}

pub mode-bit : (a j : ℕ) → has_mode a j ≡ bit a j
unfolding bit
mode-bit a j = refl

-- ---- the mode of a set of one mode

pub own-mode : (m : ℕ) → has_mode (2 ^ m) m ≡ true
own-mode m = mode-bit (2 ^ m) m ∙ bit-pow m m ∙ eq-eqb m m refl

pub trailing-pow : (k : ℕ) → k < 64 → count_trailing_zeros 64 (2 ^ k) ≡ k
trailing-pow k h =
    trailing-least 64 (2 ^ k)
    ∙ least-is 64 (bit (2 ^ k)) k h (bit-pow k k ∙ eq-eqb k k refl) (λ j l. bit-pow k j ∙ ne_eqb j k (omega arith))

pub power-same : (k m : ℕ) → k < 64 → m < 64 → 2 ^ k ≡ 2 ^ m → k ≡ m
power-same k m h l e = sym (trailing-pow k h) ∙ ap (count_trailing_zeros 64) e ∙ trailing-pow m l

-- a set is not of one mode if it is not that of its lowest bit
pub no-single : (a : ℕ) → (count_trailing_zeros 64 a < 16 → a ≡ 2 ^ count_trailing_zeros 64 a → ⊥) → single a ≡ true → ⊥
no-single a f e =
    let r = single-out a (T_true _ e) in
    let k = r.0 in
    let h : k < 16 = mode-lt r.1 in
    let q : count_trailing_zeros 64 a ≡ k = ap (count_trailing_zeros 64) r.2 ∙ trailing-pow k (omega arith) in
    f (omega arith) (r.2 ∙ ap (λ (j : ℕ). 2 ^ j) (sym q))

-- what the mode of a set tells
pub one-mode : {r a : ℕ} → ((r < 16) × (a ≡ 2 ^ r)) ⊎ ((r ≡ 16) × (single a ≡ true → ⊥)) → ltb r 16 ≡ single a
one-mode {r} (inl (h, e)) = lt-ltb r 16 h ∙ sym (ap single e ∙ true-T _ (single-in (below_in h)))
one-mode {r} (inr (e, f)) = le-ltb r 16 (omega arith) ∙ sym (false-T _ (λ t. f (true-T _ t)))

pub mode-one : {r a : ℕ} → ((r < 16) × (a ≡ 2 ^ r)) ⊎ ((r ≡ 16) × (single a ≡ true → ⊥)) → r < 16 → a ≡ 2 ^ r
mode-one (inl k) h = k.1
mode-one (inr k) h = absurd (let l = k.0 in omega arith)

-- ---- tests of the numbers below a bound

pub some_below : (n : ℕ) (P : ℕ → Bool) → T (any_below n P) → (j : ℕ) × (j < n) × T (P j)
some_below n P h = let l = least_lt n P (true-T _ h) in (least n P, l, T_true _ (least-holds n P l))

pub some_in : (n : ℕ) (P : ℕ → Bool) (j : ℕ) → j < n → T (P j) → T (any_below n P)
some_in n P j h t = T_true _ (any-intro P n j h (true-T _ t))

-- ---- several modes

pub some-any : (f : ℕ → Bool) (a : ℕ) → any_below 16 (λ m. has_mode a m && f m) ≡ L.any_of f (modes a)
some-any f a =
    both_ways _ _
    (λ h. (let w = some_below 16 (λ m. has_mode a m && f m) h in
    any-in f (modes-has a w.0 w.1 (and_0 (has_mode a w.0) (f w.0) w.2)) (and-1 (has_mode a w.0) (f w.0) w.2)))
    (λ h. (let w = any_out f (modes a) h in let k = modes-in a w.1 in
    some_in 16 (λ m. has_mode a m && f m) w.0 (mode-lt k.0) (and_in (has_mode a w.0) (f w.0) k.1 w.2)))

pub every-all : (f : ℕ → Bool) (a : ℕ) → not (any_below 16 (λ m. has_mode a m && not (f m))) ≡ L.all_of f (modes a)
every-all f a =
    both_ways _ _
    (λ h. all_in f (modes a) (λ m i. not_absurd (f m) (λ n. (let k = modes-in a i in T_not (any_below 16 (λ m. has_mode a m && not (f m))) h
    (some_in 16 (λ m. has_mode a m && not (f m)) m (mode-lt k.0) (and_in (has_mode a m) (not (f m)) k.1 n))))))
    (λ h. not_T (any_below 16 (λ m. has_mode a m && not (f m))) (λ g. (let w = some_below 16 (λ m. has_mode a m && not (f m)) g in
    T_not (f w.0) (and-1 (has_mode a w.0) (not (f w.0)) w.2)
    (all-out f h (modes-has a w.0 w.1 (and_0 (has_mode a w.0) (not (f w.0)) w.2))))))

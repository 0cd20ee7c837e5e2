-- Sets of modes and their modes. Assumes nothing.
use mathlib.Core.Path.{◌≡◌, refl, sym, ap, ◌∙◌, subst}
use mathlib.Core.Bool.{◌&&◌}
use mathlib.Core.List.Memᴰ
use mathlib.Core.List.{[], ◌∷◌}
use Prim.Native.Nat.{ℕ, ◌^◌, ◌<◌}
use lib.ListN.{length}
use lib.Dec.{T, eqb, eqb→eq, eqb_refl, ltb, ltb→lt}
use Rattle.ctl.specs.Lists.{◌∈◌, elem}
use Rattle.ctl.specs.Modes.{has_mode, all_modes, modes, single}
use Rattle.ctl.proofs.BoolLaws.{and_0, and-1}
use Rattle.ctl.proofs.ListLaws.{any-in, any_out, all-out, keep-in, keep_out, one_list, below_in, elem_out}

pub modes-in : (A : ℕ) {m : ℕ} → m ∈ modes A → (m ∈ all_modes) × T (has_mode A m)
unfolding modes
modes-in A k = keep_out (has_mode A) all_modes k

pub modes-has : (A m : ℕ) → m < 16 → T (has_mode A m) → m ∈ modes A
unfolding modes
modes-has A m l h = keep-in (has_mode A) {l = all_modes} (below_in l) h

pub mode-lt : {m : ℕ} → m ∈ all_modes → m < 16
mode-lt {m} k = ltb→lt m 16 (all-out (λ i. ltb i 16) {l = all_modes} tt k)

pub single-in : {m : ℕ} → m ∈ all_modes → T (single (2 ^ m))
unfolding single
single-in {m} k = any-in (λ i. eqb (2 ^ m) (2 ^ i)) k (eqb_refl (2 ^ m))

pub single-out : (A : ℕ) → T (single A) → (m : ℕ) × (m ∈ all_modes) × (A ≡ 2 ^ m)
unfolding single
single-out A h = let r = any_out (λ m. eqb A (2 ^ m)) all_modes h in (r.0, r.1, eqb→eq A (2 ^ r.0) r.2)

-- the modes of a set of one mode
pub modes-one : {m : ℕ} → m ∈ all_modes → modes (2 ^ m) ≡ m ∷ []
unfolding modes elem
modes-one {m} k =
    let h = all-out (λ i. eqb (length (modes (2 ^ i))) 1 && elem i (modes (2 ^ i))) {l = all_modes} tt k in
    one_list (modes (2 ^ m)) (eqb→eq (length (modes (2 ^ m))) 1 (and_0 (eqb (length (modes (2 ^ m))) 1) (elem m (modes (2 ^ m))) h)) (elem_out m (modes (2 ^ m)) (and-1 (eqb (length (modes (2 ^ m))) 1) (elem m (modes (2 ^ m))) h))

pub mode-only : (A m a : ℕ) → m < 16 → A ≡ 2 ^ m → a ∈ modes A → a ≡ m
mode-only A m a l e k = Memᴰ.eq_of_singleton (subst (λ s. a ∈ s) (ap modes e ∙ modes-one {m = m} (below_in l)) k)

pub mode-own : (A m : ℕ) → m < 16 → A ≡ 2 ^ m → m ∈ modes A
mode-own A m l e = subst (λ s. m ∈ s) (sym (ap modes e ∙ modes-one {m = m} (below_in l))) (Memᴰ.head refl)

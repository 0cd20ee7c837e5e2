-- A name's own type under a naming, computed: the sum is the name's set with the name's place put in. Assumes nothing.
use mathlib.Core.Path.{◌≡◌, ap, ap₂, ◌∙◌}
use Prim.Native.Nat.{ℕ, ◌+◌, ◌-◌, ◌*◌, ◌/◌, ◌%◌, ◌^◌, ◌≤◌, ◌<◌}
use native.Mathlib.Nat.{mod-lt, mod-eq_of_lt}
use native.Mathlib.Omega.{arith}
use lib.Pow.{pow_mono, pow_pos}
use Rattle.ctl.specs.Numbers.{digit_at, with_place}
use Rattle.ctl.proofs.NamedTypes.{with-lt}
use Rattle.wordset.proofs.BitLaws.{shl_one}
use Rattle.start.specs.Starts.{named_type}

mask_is : (n : ℕ) → n ≤ 31 → (1 * 2 ^ n) % 2 ^ 64 ≡ 2 ^ n
mask_is n h = shl_one n (omega arith)

module _ (v n r i : ℕ) (h : v < n) (g : n ≤ 31) where
  abbrev read : ℕ
  read = r / 2 ^ ((n - 1) * i) % ((1 * 2 ^ (n - 1)) % 2 ^ 64)

  read_is : read ≡ digit_at (n - 1) r i
  read_is = ap (λ m. r / 2 ^ ((n - 1) * i) % m) (mask_is (n - 1) (omega arith))

  digit_lt : digit_at (n - 1) r i < 2 ^ (n - 1)
  digit_lt = mod-lt (r / 2 ^ ((n - 1) * i)) (pow_pos (n - 1))

  pub type-lt : named_type v n r i < 2 ^ n
  type-lt = with-lt v n (digit_at (n - 1) r i) h digit_lt

  whole-lt : named_type v n r i < 2 ^ 64
  whole-lt = let a = type-lt in let b : 2 ^ n ≤ 2 ^ 31 = pow_mono g in omega arith

  pub sum_is : ((read / 2 ^ v * 2 + 1) * 2 ^ v) % 2 ^ 64 + read % ((1 * 2 ^ v) % 2 ^ 64) ≡ named_type v n r i
  unfolding with_place
  sum_is =
      ap₂ (λ d m. ((d / 2 ^ v * 2 + 1) * 2 ^ v) % 2 ^ 64 + d % m) read_is (mask_is v (omega arith))
      ∙ ap (λ x. x + digit_at (n - 1) r i % 2 ^ v) (mod-eq_of_lt (let a = whole-lt in omega arith))

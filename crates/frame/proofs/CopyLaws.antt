-- The number of namings as a shift. Assumes nothing.
use mathlib.Core.Path.{◌≡◌}
use Prim.Native.Nat.{ℕ, zero, suc, ◌-◌, ◌*◌, ◌%◌, ◌^◌, ◌≤◌}
use native.Mathlib.Omega.{arith}
use Rattle.wordset.proofs.BitLaws.{shl_one}

pub few_bits : (names width : ℕ) → names ≤ 2 → width ≤ 12 → (width - 1) * names ≤ 22
few_bits zero width h k = omega arith
few_bits (suc zero) width h k = omega arith
few_bits (suc (suc zero)) width h k = omega arith
few_bits (suc (suc (suc n))) width h k = absurd (omega arith)

pub shift_is : (n : ℕ) → n ≤ 22 → (1 * 2 ^ n) % 2 ^ 64 ≡ 2 ^ n
shift_is n h = shl_one n (omega arith)

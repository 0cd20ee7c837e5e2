-- How many words hold the types, by the width of the lean: enough, no more than that, and 64 at most up to 12 places. Assumes nothing.
use mathlib.Core.Path.{◌≡◌, ap, ◌∙◌}
use mathlib.Core.Logic.{◌⊎◌, inl, inr}
use Prim.Native.Nat.{ℕ, ◌+◌, ◌-◌, ◌*◌, ◌/◌, ◌%◌, ◌^◌, ◌≤◌, ◌<◌, max}
use native.Mathlib.Omega.{arith}
use lib.Pow.{pow-add, pow_mono}
use Rattle.wordset.proofs.BelowLaws.{lt-or-le}
use Rattle.wordset.proofs.BitLaws.{shl_one}
use Rattle.prepare.specs.Width.{words_for}

module _ (width : ℕ) where
  whole : 6 ≤ width → 2 ^ width ≡ 2 ^ (width - 6) * 64
  whole h = ap (λ n. 2 ^ n) (let e : width ≡ (width - 6) + 6 = omega arith in e) ∙ pow-add 2 (width - 6) 6

  pub words-enough : 2 ^ width ≤ words_for width * 64
  unfolding words_for
  words-enough = go (lt-or-le width 6)
    where
      go : (width < 6) ⊎ (6 ≤ width) → 2 ^ width ≤ max 1 (2 ^ width / 64) * 64
      go (inl h) = let p : 2 ^ width ≤ 2 ^ 6 = pow_mono (let m : width ≤ 6 = omega arith in m) in omega arith
      go (inr h) = let e = whole h in omega arith

  pub words-few : width ≤ 12 → words_for width ≤ 64
  unfolding words_for
  words-few h = let p : 2 ^ width ≤ 2 ^ 12 = pow_mono h in omega arith

  pub words-wider : {more : ℕ} → width ≤ more → words_for width ≤ words_for more
  unfolding words_for
  words-wider {more} h = let p : 2 ^ width ≤ 2 ^ more = pow_mono h in omega arith

  pub one_word : width < 7 → 1 ≡ words_for width
  unfolding words_for
  one_word h = let p : 2 ^ width ≤ 2 ^ 6 = pow_mono (let m : width ≤ 6 = omega arith in m) in omega arith

  pub more-words : 7 ≤ width → width ≤ 12 → (1 * 2 ^ (width - 6)) % 2 ^ 64 ≡ words_for width
  unfolding words_for
  more-words h k =
      let e = whole (omega arith) in
      let p : 2 ^ 1 ≤ 2 ^ (width - 6) = pow_mono (let m : 1 ≤ width - 6 = omega arith in m) in
      shl_one (width - 6) (omega arith) ∙ omega arith

-- A loop that meets one word for each number below n. Assumes nothing.
use mathlib.Core.Path.{◌≡◌, sym, ap}
use mathlib.Core.Bool.{Bool}
use Prim.Native.Nat.{ℕ, ◌+◌}
use native.Mathlib.Numerals.{add-one}
use lib.Bits.{bit_and}
use Rattle.wordset.specs.Below.{all_below}
use Rattle.wordset.specs.Answers.{Answers}
use Rattle.wordset.proofs.AnswersLaws.{and-answers}
use Rattle.truth.proofs.BlockLaws.{word-as, word-full}

-- word x has the numbers of word i that pass the first k tests
abbrev pub Met : (ℕ → ℕ → Bool) → ℕ → ℕ → ℕ → Type 0
Met P k i x = Answers (λ t. all_below k (λ j. P j t)) i x

module _ (P : ℕ → ℕ → Bool) {i : ℕ} where
  pub meet-start : Met P 0 i 18446744073709551615
  unfolding all_below
  meet-start = word-full

  pub meet-on : {k x y : ℕ} → Met P k i x → Answers (P k) i y → Met P (k + 1) i (bit_and x y)
  unfolding all_below
  meet-on {k} f p = word-as (λ t. ap (λ m. all_below m (λ j. P j t)) (sym (add-one k))) (and-answers f p)

  pub meet-end : {n k x : ℕ} → Met P k i x → k ≡ n → Met P n i x
  meet-end f e = word-as (λ t. ap (λ m. all_below m (λ j. P j t)) e) f

-- The words of the types that demand by a rule. Assumes nothing.
use mathlib.Core.Path.{◌≡◌, sym, ap}
use mathlib.Core.Bool.{Bool}
use mathlib.Core.List.{List}
use Prim.Native.Nat.{ℕ, ◌+◌, ◌-◌, ◌*◌, ◌^◌, ◌<◌}
use lib.Bits.{bit_and}
use lib.ListN.{get_or}
use Rattle.wordset.proofs.AnswersLaws.{minus-answers}
use Rattle.wordset.specs.Answers.{Answers}
use Rattle.truth.specs.Blocks.{has}
use Rattle.truth.proofs.BlockLaws.{block-word, word-as, word-not}
use Rattle.conditions.specs.Conditions.{selects}
use Rattle.conditions.specs.declared.Rule.{Rule}
use Rattle.conditions.specs.declared.Rule.TheVariants.{Forward, Backward, BothWays}

module _ (w : ℕ) (tw : List ℕ) (rule : Rule) (i p k : ℕ) where
  abbrev selects_at : Rule → ℕ → Bool
  selects_at r t = selects r (has w tw i t) (has w tw p t)

  pub selects-forward : rule ≡ Forward → get_or tw (i * w + k) 0 < 2 ^ 64 → Answers (selects_at rule) k (get_or tw (i * w + k) 0)
  unfolding selects
  selects-forward f h = word-as (λ t. sym (ap (λ r. selects_at r t) f)) (block-word w tw i k h)

  pub selects-backward : rule ≡ Backward → get_or tw (p * w + k) 0 < 2 ^ 64 → Answers (selects_at rule) k ((2 ^ 64 - 1) - get_or tw (p * w + k) 0)
  unfolding selects
  selects-backward f h = word-as (λ t. sym (ap (λ r. selects_at r t) f)) (word-not (block-word w tw p k h))

  pub selects-both : rule ≡ BothWays → get_or tw (i * w + k) 0 < 2 ^ 64 → get_or tw (p * w + k) 0 < 2 ^ 64 → Answers (selects_at rule) k (bit_and (get_or tw (i * w + k) 0) ((2 ^ 64 - 1) - get_or tw (p * w + k) 0))
  unfolding selects
  selects-both f h l = word-as (λ t. sym (ap (λ r. selects_at r t) f)) (minus-answers (block-word w tw i k h) (block-word w tw p k l))

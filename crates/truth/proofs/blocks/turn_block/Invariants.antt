-- `turn_block` meets its contract: the first words are turned. Assumes nothing.
use mathlib.Core.Bool.{Bool, not}
use Prim.Native.Nat.{ℕ}
use Rattle.wordset.specs.Answers.{Answers}
use Rattle.truth.proofs.Redoing.{Passed}
use Rattle.truth.proofs.blocks.turn_block.Given as goal

abbrev pub invariant-loop-x : goal.invariant-loop-x
invariant-loop-x l = Passed (λ k x y. (P : ℕ → Bool) → Answers P k x → Answers (λ t. not (P t)) k y) l.initial.x-items l.x-items l.x-index

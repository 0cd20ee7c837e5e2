-- `add_place` meets its contract: the first words are done. Assumes nothing.
use mathlib.Core.Bool.{Bool}
use Prim.Native.Nat.{ℕ}
use Rattle.ctl.specs.Types.{in_type}
use Rattle.wordset.specs.Answers.{Answers}
use Rattle.truth.specs.Blocks.{added}
use Rattle.truth.proofs.Redoing.{Passed}
use Rattle.truth.proofs.blocks.add_place.Given as goal

abbrev pub invariant-loop-k : goal.invariant-loop-k
invariant-loop-k l = Passed (λ j x y. (P : ℕ → Bool) → Answers P j x → Answers (λ t. added l.every (P t) (in_type t l.place)) j y) l.initial.x-items l.x-items l.k

-- `expand_block` meets its contract: the first k words are done, and the blocks of the operands end before block i. Assumes nothing.
use mathlib.Core.Bool.{Bool}
use Prim.Native.Nat.{ℕ, ◌+◌, ◌*◌, ◌≤◌}
use lib.ListN.{get_or}
use Rattle.wordset.specs.Answers.{Answers}
use Rattle.truth.specs.Blocks.{expanded}
use Rattle.truth.proofs.Redoing.{Redoing}
use Rattle.truth.proofs.blocks.expand_block.Given as goal

abbrev pub invariant-loop-k : goal.invariant-loop-k
invariant-loop-k l =
    Redoing (λ j x. (X P Q : ℕ → Bool) → Answers X j (get_or l.initial.tw (l.i * l.w + j) 0) → Answers P j (get_or l.initial.tw (l.l * l.w + j) 0) → Answers Q j (get_or l.initial.tw (l.r * l.w + j) 0)
    → Answers (λ t. expanded l.until (X t) (P t) (Q t)) j x) l.w l.i l.initial.tw l.tw l.k × (l.l * l.w + l.w ≤ l.i * l.w) × (l.r * l.w + l.w ≤ l.i * l.w)

-- `put_entry` meets its contract: the first k words are written, and `any` all of these. Assumes nothing.
use Rattle.truth.specs.Blocks.{has}
use Rattle.conditions.specs.Conditions.{selects}
use Rattle.conditions.proofs.EntryLaws.{Gathered}
use Rattle.conditions.proofs.put_entry.Given as goal

abbrev pub invariant-loop-k : goal.invariant-loop-k
invariant-loop-k l = Gathered (λ t. selects l.rule (has l.w l.tw l.i t) (has l.w l.tw l.p t)) l.w l.c l.initial.cw l.cw l.any l.k

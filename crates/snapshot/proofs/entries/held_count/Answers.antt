use Prim.Native.Nat.{◌≤◌}
use native.Mathlib.Omega.{arith}
use mathlib.Core.Path.{sym, ◌∙◌}
use Rattle.snapshot.proofs.EntryLaws.{node_holds, count_none, count-small, count_yes, count_no}
use Rattle.snapshot.proofs.entries.held_count.Goals.{then-holds, else-holds}
use Rattle.snapshot.proofs.entries.held_count.Goals as goal

pub loop-k-init : goal.loop-k-init
loop-k-init c = count_none _

pub overflow_add-c : goal.overflow_add-c
overflow_add-c c =
    let h : c.loop-k.c ≤ c.loop-k.k = count-small _ _ _ c.loop-k.invariant in omega arith

pub loop-k-preserved : goal.loop-k-preserved
loop-k-preserved c = elim c.if-holds.branch [
  | then-holds w ↦ count_yes (node_holds c.args.kinds.now c.args.out.now c.args.i) _ _ _ c.loop-k.invariant (sym c.holds.ensures ∙ w.if-holds.true) w.c-is
  | else-holds w ↦ count_no (node_holds c.args.kinds.now c.args.out.now c.args.i) _ _ _ c.loop-k.invariant (sym c.holds.ensures ∙ w.if-holds.false) w.c-is
]

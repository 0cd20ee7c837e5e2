use Prim.Native.Nat.{◌≤◌}
use native.Mathlib.Omega.{arith}
use borrow.Author.Tests.{eq-eqb, ne_eqb}
use Rattle.snapshot.proofs.EntryLaws.{count_none, count-small, count_yes, count_no}
use Rattle.snapshot.proofs.entries.on_count.Goals.{then-out-i-eq1, else-out-i-eq1}
use Rattle.snapshot.proofs.entries.on_count.Goals as goal

pub loop-i-init : goal.loop-i-init
loop-i-init c = count_none _

pub overflow_add-c : goal.overflow_add-c
overflow_add-c c =
    let h : c.loop-i.c ≤ c.loop-i.i = count-small _ _ _ c.loop-i.invariant in omega arith

pub loop-i-preserved : goal.loop-i-preserved
loop-i-preserved c = elim c.if-out-i-eq1.branch [
  | then-out-i-eq1 w ↦ count_yes _ _ _ _ c.loop-i.invariant (eq-eqb _ _ w.if-out-i-eq1.true) w.c-is
  | else-out-i-eq1 w ↦ count_no _ _ _ _ c.loop-i.invariant (ne_eqb _ _ w.if-out-i-eq1.false) w.c-is
]

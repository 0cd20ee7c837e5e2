use native.Mathlib.Omega.{arith}
use Prim.Native.Nat.{ℕ, ◌≤◌}
use lib.ListN.{get_or}
use Rattle.members.proofs.StepLaws.{Then, step_then}
use Rattle.closure.proofs.NodeLaws.{kind_n, reads-small, reads-kind, reads-arg, reads-later, reads-right, reads-earlier, reads-left}
use Rattle.closure.proofs.SignLaws.{at_unit, at-letter, at-neg, at-right-full, at_next, at-lone-full, at-lone, at-left-full, at_join, at-until, read-then}
use Rattle.closure.proofs.+positive.Goals.{In_ok-right, In_ok-left-in-6-to-9, In_default-kind, In_ok-left-in_default-kind, in_default-kind-via-then-kind-lt4, in_default-kind-via-else-kind-lt4+else-kind-lt6+else-kind-lt10}
use Rattle.closure.proofs.+positive.Goals as goal

-- the table after the right operand, after the constant of EF, AF, EG and AG, and after the left operand
right : {t : ℕ} (c : In_ok-right t) → Then c.positive-2.new.tab c.args.n c.in_ok-right.right.index c.in_ok-right.right.count
right c =
    read-then c.args.sign (reads-right c.requires.0 (omega arith)) c.requires.1 c.positive-2.ensures c.in_ok-right.was c.positive-2.auto.tab

lone : {t : ℕ} (c : In_ok-left-in-6-to-9 t) → Then c.unit-in-6-to-9.new.tab c.in_ok-right.right.count c.in_ok-left-in-6-to-9.left.index c.in_ok-left-in-6-to-9.left.count
lone c =
    let d = read-then c.args.sign (reads-right c.requires.0 (omega arith)) c.requires.1 c.positive-2.ensures c.in_ok-right.was c.positive-2.auto.tab in
    step_then d.ready c.unit-in-6-to-9.ensures c.in_ok-left-in-6-to-9.was c.unit-in-6-to-9.auto.tab

above : {t : ℕ} (c : In_default-kind t) → 10 ≤ kind_n (get_or c.args.nodes.now c.args.i 0)
above c = elim c.in_default-kind.branch [
  | in_default-kind-via-then-kind-lt4 w ↦ omega arith
  | in_default-kind-via-else-kind-lt4+else-kind-lt6+else-kind-lt10 w ↦ omega arith
]

left : {t : ℕ} (c : In_ok-left-in_default-kind t) → 10 ≤ kind_n (get_or c.args.nodes.now c.args.i 0)
    → Then c.positive-in_default-kind.new.tab c.in_ok-right.right.count c.in_ok-left-in_default-kind.left.index c.in_ok-left-in_default-kind.left.count
left c h =
    let d = read-then c.args.sign (reads-right c.requires.0 (omega arith)) c.requires.1 c.positive-2.ensures c.in_ok-right.was c.positive-2.auto.tab in
    read-then c.flipped-other.result (reads-left c.requires.0 h) d.ready c.positive-in_default-kind.ensures c.in_ok-left-in_default-kind.was c.positive-in_default-kind.auto.tab

pub returns-in-0 : goal.returns-in-0
returns-in-0 t c =
    at_unit _ _ _ _ _ (reads-small c.requires.0) (omega arith) _ c.flipped.ensures c.unit.ensures

pub letter-requires : goal.letter-requires
letter-requires t c = (c.requires.1, reads-arg c.requires.0)

pub returns-in-2 : goal.returns-in-2
returns-in-2 t c =
    at-letter _ _ _ _ _ (reads-small c.requires.0) c.in-2.is c.letter.ensures

pub overflow_sub-i : goal.overflow_sub-i
overflow_sub-i t c = reads-later c.requires.0 (omega arith)

pub positive-requires : goal.positive-requires
positive-requires t c =
    let h : 3 ≤ kind_n (get_or c.args.nodes.now c.args.i 0) = omega arith in
    let l = reads-later c.requires.0 h in
    (omega arith, (reads-right c.requires.0 h, c.requires.1))

pub returns-in-3 : goal.returns-in-3
returns-in-3 t c =
    at-neg _ _ _ _ _ (reads-small c.requires.0) c.in-3.is c.positive.ensures

pub overflow_sub-i-2 : goal.overflow_sub-i-2
overflow_sub-i-2 t c = reads-later c.requires.0 (omega arith)

pub positive-requires-2 : goal.positive-requires-2
positive-requires-2 t c =
    let h : 3 ≤ kind_n (get_or c.args.nodes.now c.args.i 0) = omega arith in
    let l = reads-later c.requires.0 h in
    (omega arith, (reads-right c.requires.0 h, c.requires.1))

pub returns-in_err-right : goal.returns-in_err-right
returns-in_err-right t c =
    rw c.from_residual.ensures (at-right-full _ _ _ _ _ (reads-small c.requires.0) (omega arith) c.positive-2.ensures c.in_err-right.was)

pub next-requires : goal.next-requires
next-requires t c =
    let d = right (goal.at.next-requires t c).In_ok-right in
    (d.ready, (reads-arg c.requires.0, d.below))

pub returns-in-4 : goal.returns-in-4
returns-in-4 t c =
    at_next _ _ _ _ _ (reads-small c.requires.0) c.requires.1 (omega arith) c.positive-2.ensures c.in_ok-right.was c.positive-2.auto.tab (omega arith) _ c.flipped-in-4.ensures c.next.ensures

pub unit-requires-in-6-to-9 : goal.unit-requires-in-6-to-9
unit-requires-in-6-to-9 t c = (right (goal.at.unit-requires-in-6-to-9 t c).In_ok-right).ready

pub returns-in_err-left-in-6-to-9 : goal.returns-in_err-left-in-6-to-9
returns-in_err-left-in-6-to-9 t c =
    rw c.from_residual-in_err-left-in-6-to-9.ensures (at-lone-full _ _ _ _ _ (reads-small c.requires.0) c.requires.1 (omega arith) c.positive-2.ensures c.in_ok-right.was c.positive-2.auto.tab (omega arith) (omega arith) _ c.lone_unit.ensures c.unit-in-6-to-9.ensures c.in_err-left-in-6-to-9.was)

pub until-requires : goal.until-requires
until-requires t c =
    let d = right (goal.at.until-requires t c).In_ok-right in
    let e = lone (goal.at.until-requires t c).In_ok-left-in-6-to-9 in
    (e.ready, (omega arith, (reads-arg c.requires.0, (e.below, omega (arith, d.below, e.up)))))

pub returns-in_ok-left-in-6-to-9 : goal.returns-in_ok-left-in-6-to-9
returns-in_ok-left-in-6-to-9 t c =
    at-lone _ _ _ _ _ (reads-small c.requires.0) c.requires.1 (omega arith) c.positive-2.ensures c.in_ok-right.was c.positive-2.auto.tab (omega arith) (omega arith) _ c.lone_unit.ensures c.unit-in-6-to-9.ensures c.in_ok-left-in-6-to-9.was c.unit-in-6-to-9.auto.tab c.until.ensures

pub positive-requires-in_default-kind : goal.positive-requires-in_default-kind
positive-requires-in_default-kind t c =
    let h = above (goal.at.positive-requires-in_default-kind t c).In_default-kind in
    let l = reads-earlier c.requires.0 h in
    (omega arith, (reads-left c.requires.0 h, (right (goal.at.positive-requires-in_default-kind t c).In_ok-right).ready))

pub returns-in_err-left-in_default-kind : goal.returns-in_err-left-in_default-kind
returns-in_err-left-in_default-kind t c =
    let h = above (goal.at.returns-in_err-left-in_default-kind t c).In_default-kind in
    rw c.from_residual-in_err-left-in_default-kind.ensures (at-left-full _ _ _ _ _ (reads-small c.requires.0) c.requires.1 (omega arith) c.positive-2.ensures c.in_ok-right.was c.positive-2.auto.tab h _ c.flipped-other.ensures c.positive-in_default-kind.ensures c.in_err-left-in_default-kind.was)

pub join-requires : goal.join-requires
join-requires t c =
    let d = right (goal.at.join-requires t c).In_ok-right in
    let e = left (goal.at.join-requires t c).In_ok-left-in_default-kind (omega arith) in
    (e.ready, (e.below, omega (arith, d.below, e.up)))

pub returns-in-10-to-12 : goal.returns-in-10-to-12
returns-in-10-to-12 t c =
    at_join _ _ _ _ _ (reads-small c.requires.0) c.requires.1 (omega arith) c.positive-2.ensures c.in_ok-right.was c.positive-2.auto.tab (omega arith) _ c.flipped-other.ensures c.positive-in_default-kind.ensures c.in_ok-left-in_default-kind.was c.positive-in_default-kind.auto.tab (omega arith) _ c.flipped-some.ensures c.join.ensures

pub until-requires-in_default-kind-2 : goal.until-requires-in_default-kind-2
until-requires-in_default-kind-2 t c =
    let h = above (goal.at.until-requires-in_default-kind-2 t c).In_default-kind in
    let k = reads-kind c.requires.0 in
    let d = right (goal.at.until-requires-in_default-kind-2 t c).In_ok-right in
    let e = left (goal.at.until-requires-in_default-kind-2 t c).In_ok-left-in_default-kind h in
    (e.ready, (omega arith, (reads-arg c.requires.0, (e.below, omega (arith, d.below, e.up)))))

pub returns-in_default-kind-2 : goal.returns-in_default-kind-2
returns-in_default-kind-2 t c =
    let h = above (goal.at.returns-in_default-kind-2 t c).In_default-kind in
    at-until _ _ _ _ _ (reads-small c.requires.0) c.requires.1 (omega arith) c.positive-2.ensures c.in_ok-right.was c.positive-2.auto.tab h _ c.flipped-other.ensures c.positive-in_default-kind.ensures c.in_ok-left-in_default-kind.was c.positive-in_default-kind.auto.tab (omega arith) c.until-in_default-kind-2.ensures

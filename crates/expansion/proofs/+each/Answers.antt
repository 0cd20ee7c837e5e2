use mathlib.Core.Path.{refl}
use native.Mathlib.Omega.{arith}
use Rattle.members.proofs.ModeListLaws.{mode-below, half-below}
use Rattle.members.proofs.StepLaws.{was-added, ready-then}
use Rattle.expansion.proofs.EachLaws.{each-skip, each_last, each-full, each-full-2, each-join}
use Rattle.expansion.proofs.+each.Goals as goal

pub each-requires : goal.each-requires
each-requires t c =
    let m = mode-below _ _ c.requires.1.1.0 c.requires.1.1.1.0 c.requires.1.1.1.1 in
    (omega (arith, c.decreases, c.requires.1.1.1.0), (c.requires.0, (c.requires.1.0, (omega arith, (omega (arith, c.if-rest-eq0.true, c.requires.1.1.1.0), half-below _ _ m c.requires.1.1.1.1)))))

pub returns-then-rest-eq0 : goal.returns-then-rest-eq0
returns-then-rest-eq0 t c =
    each-skip _ _ _ _ _ _ c.requires.1.1 c.if-rest-eq0.true c.each.ensures

pub returns-then-rest-eq1 : goal.returns-then-rest-eq1
returns-then-rest-eq1 t c =
    each_last _ _ _ _ _ _ _ c.requires.1.1 c.if-rest-eq1.true c.bit.ensures.0 c.next_one.ensures

pub each-requires-2 : goal.each-requires-2
each-requires-2 t c =
    let m = mode-below _ _ c.requires.1.1.0 c.requires.1.1.1.0 c.requires.1.1.1.1 in
    (omega (arith, c.decreases, c.requires.1.1.1.0), (c.requires.0, (c.requires.1.0, (omega arith, (omega (arith, c.if-rest-eq0.false, c.if-rest-eq1.false, c.requires.1.1.1.0), half-below _ _ m c.requires.1.1.1.1)))))

pub returns-in_err-later : goal.returns-in_err-later
returns-in_err-later t c =
    rw c.from_residual.ensures (each-full _ _ _ _ _ _ c.requires.1.1 c.if-rest-eq0.false c.if-rest-eq1.false c.each-2.ensures c.in_err-later.was)

pub next_one-requires-2 : goal.next_one-requires-2
next_one-requires-2 t c =
    let d = was-added c.each-2.ensures c.in_ok-later.was in
    (ready-then c.requires.0 d c.each-2.auto.tab, (c.bit-2.ensures.1, omega (arith, d.up, c.requires.1.0)))

pub returns-in_err-first : goal.returns-in_err-first
returns-in_err-first t c =
    rw c.from_residual-in_err-first.ensures (each-full-2 _ _ _ _ _ _ c.requires.1.1 c.if-rest-eq0.false c.if-rest-eq1.false c.requires.0 (was-added c.each-2.ensures c.in_ok-later.was) c.each-2.auto.tab _ _ c.bit-2.ensures.0 c.requires.1.0 refl c.next_one-2.ensures c.in_err-first.was)

pub join-requires : goal.join-requires
join-requires t c =
    let d = was-added c.each-2.ensures c.in_ok-later.was in
    let e = was-added c.next_one-2.ensures c.in_ok-first.was in
    (ready-then (ready-then c.requires.0 d c.each-2.auto.tab) e c.next_one-2.auto.tab, (e.below, omega (arith, d.below, e.up)))

pub returns : goal.returns
returns t c =
    each-join _ _ _ _ _ _ c.requires.1.1 c.if-rest-eq0.false c.if-rest-eq1.false c.requires.0 (was-added c.each-2.ensures c.in_ok-later.was) c.each-2.auto.tab _ _ c.bit-2.ensures.0 c.requires.1.0 refl (was-added c.next_one-2.ensures c.in_ok-first.was) c.next_one-2.auto.tab c.join.ensures

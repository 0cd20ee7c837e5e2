-- `put_condition` meets its contract. Assumes nothing.
use native.Mathlib.Omega.{arith}
use Rattle.conditions.proofs.Siding.{side-demanded, side-joins, side-none, side-refused}
use Rattle.conditions.proofs.put_condition.Goals as goal

pub returns-in_default : goal.returns-in_default
returns-in_default c = side-none c.requires.truths.1.1.1 c.condition_at.ensures c.in_default.is

pub returns-then-not-put_entry : goal.returns-then-not-put_entry
returns-then-not-put_entry c =
    side-refused c.requires.truths.1.1.1 c.in-Some.ensures c.requires.truths.0 c.reversed.ensures c.put_entry.ensures.put (c.put_entry.ensures.t_after c.if-not-put_entry.true)

pub returns-then-not-put_entry-2 : goal.returns-then-not-put_entry-2
returns-then-not-put_entry-2 c =
    side-demanded c.requires.truths.1.1.1 c.in-Some.ensures c.requires.truths.0 c.reversed.ensures c.put_entry.ensures.put c.put_entry-2.ensures.put (c.put_entry-2.ensures.t_after c.if-not-put_entry-2.true)

pub returns : goal.returns
returns c =
    let k = c.put_entry.auto.cw in
    let l = c.put_entry-2.auto.cw in
    side-joins c.requires.truths.1.1.1 c.in-Some.ensures c.requires.truths.0 c.reversed.ensures c.put_entry.ensures.put c.put_entry-2.ensures.put (let z = c.requires.truths.1.0 in omega arith)

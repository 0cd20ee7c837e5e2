use native.Mathlib.Omega.{arith}
use Rattle.layout.proofs.LineLaws.{starts_none, starts-goal, starts-not, starts-next, starts-end}
use mathlib.Core.Path.{sym, ◌∙◌}
use Rattle.layout.proofs.starts.starts_right.Goals as goal

pub returns-then-s-after : goal.returns-then-s-after
returns-then-s-after c =
    c.begins_with.ensures ∙ sym (starts-goal _ _ _ _ c.loop-e.invariant.1.0 c.end_of-after.ensures.0 (omega (arith, c.loop-e.invariant.0)) c.loop-e-test.true c.if-s-after.true) ∙ c.loop-e.invariant.1.1

pub returns-then-not-begins_with : goal.returns-then-not-begins_with
returns-then-not-begins_with c =
    sym (starts-not _ _ _ _ c.loop-e.invariant.1.0 c.end_of-after.ensures.0 (omega (arith, c.loop-e.invariant.0)) c.loop-e-test.true c.if-s-after.false (sym c.begins_with-in-loop-e.ensures ∙ c.if-not-begins_with.true)) ∙ c.loop-e.invariant.1.1

pub loop-e-preserved : goal.loop-e-preserved
loop-e-preserved c =
    (c.end_of-after.ensures.1, (c.end_of-after.ensures.0, starts-next _ _ _ _ c.loop-e.invariant.1.0 c.end_of-after.ensures.0 (omega (arith, c.loop-e.invariant.0)) c.loop-e-test.true c.if-s-after.false (sym c.begins_with-in-loop-e.ensures ∙ c.if-not-begins_with.false) ∙ c.loop-e.invariant.1.1))

pub returns : goal.returns
returns c =
    sym (starts_none _ _ _ c.loop-e.invariant.1.0 (omega (arith, c.loop-e.invariant.0)) c.loop-e-test.false) ∙ c.loop-e.invariant.1.1

pub returns-then-s-from : goal.returns-then-s-from
returns-then-s-from c = sym (starts-end _ _ c.if-s-from.true)

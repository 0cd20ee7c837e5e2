use native.Mathlib.Omega.{arith}
use Rattle.layout.proofs.ScanLaws.{long-last, long-here, long-next, long-end, long-none}
use mathlib.Core.Path.{sym, ◌∙◌}
use Rattle.layout.proofs.bytes.any_long.Goals as goal

pub returns-then-s-le200 : goal.returns-then-s-le200
returns-then-s-le200 c = sym (long-none 200 _ c.if-s-le200.true (omega arith))

pub returns-then-s-e : goal.returns-then-s-e
returns-then-s-e c =
    sym (long-last _ _ _ c.end_of-e.ensures.0 c.loop-at.invariant.0 c.end_of-e.ensures.1.1 c.if-s-e.true) ∙ c.loop-at.invariant.1

pub returns-then-e-at-gt200 : goal.returns-then-e-at-gt200
returns-then-e-at-gt200 c =
    sym (long-here _ _ _ c.end_of-e.ensures.0 c.loop-at.invariant.0 c.if-s-e.false (omega arith)) ∙ c.loop-at.invariant.1

pub loop-at-preserved : goal.loop-at-preserved
loop-at-preserved c =
    (omega arith, long-next _ _ _ c.end_of-e.ensures.0 c.loop-at.invariant.0 c.if-s-e.false (omega arith) ∙ c.loop-at.invariant.1)

pub returns : goal.returns
returns c =
    sym (long-end _ _ c.loop-at-test.false) ∙ c.loop-at.invariant.1

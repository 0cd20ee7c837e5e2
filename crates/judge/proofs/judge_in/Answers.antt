use native.Mathlib.Omega.{arith}
use mathlib.Core.Path.{sym, ◌∙◌}
use Rattle.naming.proofs.NextLaws.{in-hand, next-number, next-count}
use Rattle.judge.proofs.JudgeLaws.{judge-moved, judge-next, judge-open, judge-end}
use Rattle.judge.proofs.judge_in.Goals as goal

pub returns-in-Some : goal.returns-in-Some
returns-in-Some g c =
    judge-open c.loop-n.invariant.0 (in-hand c.loop-n.n c.loop-n.invariant.1 c.loop-n-test.true) (sym c.try_naming-found.ensures ∙ c.in-Some.is)

pub loop-n-preserved : goal.loop-n-preserved
loop-n-preserved g c =
    let now = c.loop-n in
    let next = c.advanced-n in
    let none = sym c.try_naming-found.ensures ∙ c.in_default.is in
    (judge-moved (judge-next now.invariant.0 (in-hand now.n now.invariant.1 c.loop-n-test.true) none) (next-number now.n next.result next.ensures c.loop-n-test.true), next-count now.n next.result next.ensures now.invariant.1)

pub returns : goal.returns
returns g c = judge-end c.loop-n.invariant.0 (omega arith)

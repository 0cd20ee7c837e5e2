use mathlib.Core.Path.{sym, ◌∙◌}
use native.Mathlib.Omega.{arith}
use Rattle.spelling.proofs.SpellingLaws.{run_more, run-stop, run_out}
use Rattle.spelling.proofs.run_end.Goals as goal

pub returns-then-not-is_lower : goal.returns-then-not-is_lower
returns-then-not-is_lower c =
    let e = run-stop c.args.s.now c.loop-i.i c.loop-i-test.true (sym c.is_lower.ensures ∙ c.if-not-is_lower.true) in
    (omega (arith, e, c.loop-i.invariant), (omega arith, omega arith))

pub loop-i-preserved : goal.loop-i-preserved
loop-i-preserved c =
    let e = run_more c.args.s.now c.loop-i.i c.loop-i-test.true (sym c.is_lower.ensures ∙ c.if-not-is_lower.false) in
    omega (arith, e, c.loop-i.invariant)

pub returns : goal.returns
returns c =
    let e = run_out c.args.s.now c.loop-i.i c.loop-i-test.false in
    (omega (arith, e, c.loop-i.invariant), (omega arith, omega arith))

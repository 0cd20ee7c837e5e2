use native.Mathlib.Omega.{arith}
use Rattle.layout.proofs.TextLaws.{end-here, end-next, end-end}
use lib.ListN.{length}
use mathlib.Core.Path.{◌≡◌, sym, ◌∙◌}
use Rattle.layout.proofs.text.end_of.Goals as goal

pub returns-then-s-i : goal.returns-then-s-i
returns-then-s-i c =
    (sym (end-here _ _ _ c.loop-i-test.true c.if-s-i.true) ∙ c.loop-i.invariant, (omega arith, omega arith))

pub loop-i-preserved : goal.loop-i-preserved
loop-i-preserved c = end-next _ _ _ c.loop-i-test.true c.if-s-i.false ∙ c.loop-i.invariant

pub returns : goal.returns
returns c =
    let e : length c.args.s.now ≡ c.loop-i.i = omega arith in
    (e ∙ sym (end-end _ _ _ c.loop-i-test.false) ∙ c.loop-i.invariant, (omega arith, omega arith))

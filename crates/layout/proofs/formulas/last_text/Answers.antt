use native.Mathlib.Omega.{arith}
use Rattle.layout.proofs.FormulaTexts.{later, behind-end, behind-none, last_end, last_none, last-next}
use mathlib.Core.Path.{refl, sym, ◌∙◌}
use Rattle.layout.proofs.formulas.last_text.Goals as goal

pub returns-then-s-e : goal.returns-then-s-e
returns-then-s-e c =
    record {
      order = c.loop-at.invariant.0;
      inside = c.loop-at.invariant.1.0;
      is = sym (last_none _ _ _ _ c.end_of-e.ensures.0 (omega arith) c.if-s-e.true) ∙ c.loop-at.invariant.1.1.0;
      closes = λ r h. behind-none _ _ _ _ c.end_of-e.ensures.0 (omega arith) c.if-s-e.true r;
    }

pub loop-at-preserved : goal.loop-at-preserved
loop-at-preserved c =
    (c.text_at-start.ensures.before, (omega arith, (last-next _ _ _ _ _ c.text_at-start.ensures ∙ c.loop-at.invariant.1.1.0, later refl (omega arith))))

pub returns : goal.returns
returns c =
    record {
      order = c.loop-at.invariant.0;
      inside = c.loop-at.invariant.1.0;
      is = sym (last_end _ _ _ c.loop-at-test.false) ∙ c.loop-at.invariant.1.1.0;
      closes = λ r h. behind-end c.loop-at.invariant.1.1.1 c.loop-at-test.false h;
    }

-- `formulas::text_at` meets its contract. Assumes nothing.
use Rattle.layout.proofs.FormulaTexts.{text-last, text-last-none, text-next, text-next-none}
use Rattle.layout.proofs.formulas.text_at.Goals as goal

pub returns-then-e-at-lt5 : goal.returns-then-e-at-lt5
returns-then-e-at-lt5 c =
    text-last-none _ _ _ _ c.requires.1.1 c.end_of-after.ensures.0 c.requires.0 c.requires.1.0 c.if-s-after.true c.if-e-at-lt5.true

pub returns-then-s-after : goal.returns-then-s-after
returns-then-s-after c =
    text-last _ _ _ _ c.requires.1.1 c.end_of-after.ensures.0 c.requires.0 c.requires.1.0 c.if-s-after.true c.if-e-at-lt5.false

pub returns-then-e-at-lt4 : goal.returns-then-e-at-lt4
returns-then-e-at-lt4 c =
    text-next-none _ _ _ _ c.requires.1.1 c.end_of-after.ensures.0 c.requires.0 c.requires.1.0 c.if-s-after.false c.if-e-at-lt4.true

pub returns : goal.returns
returns c =
    text-next _ _ _ _ c.requires.1.1 c.end_of-after.ensures.0 c.requires.0 c.requires.1.0 c.if-s-after.false c.if-e-at-lt4.false

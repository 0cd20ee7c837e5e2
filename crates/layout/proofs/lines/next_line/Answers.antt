-- `lines::next_line` meets its contract. Assumes nothing.
use Rattle.layout.proofs.LineLaws.{next_more, next-end}
use Rattle.layout.proofs.lines.next_line.Goals as goal

pub returns-then-e-s : goal.returns-then-e-s
returns-then-e-s c =
    next_more _ _ _ c.end_of-e.ensures.0 c.requires c.if-e-s.true

pub returns : goal.returns
returns c =
    next-end _ _ _ c.end_of-e.ensures.0 c.requires c.if-e-s.false c.end_of-e.ensures.1.1

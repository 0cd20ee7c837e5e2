-- `part` meets its contract. Assumes nothing.
use Rattle.outcomes.proofs.TableLaws.{part-even, part-odd}
use mathlib.Core.Path.{◌∙◌}
use Rattle.outcomes.proofs.parts.part.Goals as goal

pub returns-then-t-eq0 : goal.returns-then-t-eq0
returns-then-t-eq0 c = let p = part-even _ _ _ _ _ c.in-Ok.is c.if-t-eq0.true in record { result_value = c.front-then-t-eq0.ensures.0 ∙ p.0; ref_ptr_value = c.front-then-t-eq0.ensures.1 ∙ p.1 }

pub returns-else-t-eq0 : goal.returns-else-t-eq0
returns-else-t-eq0 c = let p = part-odd _ _ _ _ _ c.in-Ok.is c.if-t-eq0.false in record { result_value = c.front-else-t-eq0.ensures.0 ∙ p.0; ref_ptr_value = c.front-else-t-eq0.ensures.1 ∙ p.1 }

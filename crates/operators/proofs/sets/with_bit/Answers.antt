-- `sets::with_bit` meets its contract: a digit that is 0 can be added to the set.
-- Assumes nothing.
use Rattle.operators.proofs.ModeLaws.{marked-twice, marked-new}
use Rattle.operators.proofs.sets.with_bit.Goals as goal

pub returns-then-mask-b-ne0 : goal.returns-then-mask-b-ne0
returns-then-mask-b-ne0 c = marked-twice _ _ _ c.bit-b.ensures c.requires.0 c.if-mask-b-ne0.true

pub returns-else-mask-b-ne0 : goal.returns-else-mask-b-ne0
returns-else-mask-b-ne0 c = marked-new _ _ _ c.bit-b.ensures c.requires.0 c.requires.1 c.if-mask-b-ne0.false

-- `low_word` meets its contract: a constant in word 0, whole words for large n. Assumes nothing.
use Rattle.start.proofs.StartWords.{low_first, low-full, low-later, low-none}
use Rattle.start.proofs.low_word.Goals as goal

pub returns-then-k-eq0 : goal.returns-then-k-eq0
returns-then-k-eq0 c = low_first _ _ c.if-n-lt6.true c.if-k-eq0.true

pub returns-else-k-eq0 : goal.returns-else-k-eq0
returns-else-k-eq0 c = low-later _ _ c.if-n-lt6.true c.if-k-eq0.false

pub returns-then-k-n : goal.returns-then-k-n
returns-then-k-n c = low-full _ _ c.if-n-lt6.false c.requires c.if-k-n.true

pub returns-else-k-n : goal.returns-else-k-n
returns-else-k-n c = low-none _ _ c.if-n-lt6.false c.requires c.if-k-n.false

-- `words_for` meets its contract, by the width. Assumes nothing.
use Rattle.prepare.proofs.WidthLaws.{more-words, one_word}
use Rattle.prepare.proofs.words_for.Goals as goal

pub returns-then-width-lt7 : goal.returns-then-width-lt7
returns-then-width-lt7 c = one_word _ c.if-width-lt7.true

pub returns : goal.returns
returns c = more-words _ c.if-width-lt7.false c.requires

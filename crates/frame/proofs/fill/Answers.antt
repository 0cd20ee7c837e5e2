-- `fill` meets its contract: what filling asks follows from the set-up. Assumes nothing.
use Rattle.frame.proofs.Stores.{fill-asks}
use Rattle.frame.proofs.fill.Goals as goal

pub fill_words-requires-clause-w_bound : goal.fill_words-requires-clause-w_bound
fill_words-requires-clause-w_bound c = (fill-asks c.requires.by_index.1 c.requires.stores).1

-- `lockgraph_book` meets its contract: its limits are the usual ones. Assumes nothing.
use mathlib.Core.Path.{sym}
use Rattle.lockgraph_c.proofs.books.lockgraph_book.Goals as goal

pub returns : goal.returns
returns c = rw (sym c.usual_limits-l.ensures) c.lockgraph_book_within.ensures

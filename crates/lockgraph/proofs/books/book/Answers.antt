-- `book` meets its contract: its limits are the usual ones. Assumes nothing.
use mathlib.Core.Path.{sym}
use Rattle.lockgraph.proofs.books.book.Goals as goal

pub returns : goal.returns
returns c = rw (sym c.usual_limits.ensures) c.book_within.ensures

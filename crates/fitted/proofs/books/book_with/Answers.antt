-- `book_with` meets its contract: what is asked follows from the set-up. Assumes nothing.
use Rattle.fitted.proofs.AcceptedLaws.{book-of, book-room, few-of, placed-of}
use Rattle.fitted.proofs.books.book_with.Goals as goal

pub fill_book-requires-clause-places : goal.fill_book-requires-clause-places
fill_book-requires-clause-places g c =
    let a = c.requires.accepts in let f = c.sheet_in-tables.ensures in (placed-of a f, (few-of a f, book-room a f c.requires.words_in_bounds))

pub returns : goal.returns
returns g c = book-of c.requires.accepts c.sheet_in-tables.ensures c.args.store.now c.fill_book.ensures

-- `lockgraph_book_within` meets its contract. Assumes nothing.
use Rattle.lockgraph_c.proofs.ToldLaws.{book-done, book-refused}
use Rattle.lockgraph_c.proofs.books.lockgraph_book_within.Goals as goal

pub returns-in-Err : goal.returns-in-Err
returns-in-Err c =
    book-refused c.book_within.ensures c.in-Err.is c.number.ensures

pub returns-in-Ok : goal.returns-in-Ok
returns-in-Ok c =
    book-done c.book_within.ensures c.in-Ok.is

-- `book_within` meets its contract. Assumes nothing.
use mathlib.Core.Path.{sym}
use native.Mathlib.Omega.{arith}
use Rattle.std.proofs.Common.{rules}
use Rattle.outcomes.proofs.BookingLaws.{book-done, book-refused, book-short, needed-fits}
use Rattle.lockgraph.proofs.books.book_within.Goals as goal

pub returns-in_err-u : goal.returns-in_err-u
returns-in_err-u c = let is = book-refused c.args.l c.args.sheet.now c.args.store.now _ (sym c.in_err-u.ensures) in search rules

pub overflow_mul-needed : goal.overflow_mul-needed
overflow_mul-needed c = let h = needed-fits c.in_ok-u.ensures.1 in omega arith

pub returns-then-store-needed : goal.returns-then-store-needed
returns-then-store-needed c =
    book-short c.in_ok-u.ensures.1 _ c.in_ok-u.ensures.0 _ c.if-store-needed.true

pub returns : goal.returns
returns c =
    book-done c.in_ok-u.ensures.1 _ c.in_ok-u.ensures.0 c.args.store.now c.if-store-needed.false c.fitted_book.ensures

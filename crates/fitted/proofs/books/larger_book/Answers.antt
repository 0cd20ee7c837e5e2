-- `larger_book` meets its contract: the largest size is enough for any sheet. Assumes nothing.
use mathlib.Core.Path.{refl}
use Rattle.frame.proofs.Stores.{sized}
use Rattle.fitted.proofs.AcceptedLaws.{few-members, few_words}
use Rattle.fitted.proofs.books.larger_book.Goals as goal

pub book_with-requires-in_default-clause-sizes : goal.book_with-requires-in_default-clause-sizes
book_with-requires-in_default-clause-sizes c = sized 136 64 (few-members c.requires.accepts) (few_words c.requires.accepts) refl refl refl refl

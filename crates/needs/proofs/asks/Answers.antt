-- `asks` meets its contract: an EX over one mode asks if that is a backward one. Assumes nothing.
use mathlib.Core.Path.{sym, ◌∙◌}
use borrow.Author.Tests.{lt-leb}
use Rattle.needs.proofs.OwnNeeds.{asks-field, asks-mode}
use Rattle.needs.proofs.asks.Goals as goal

pub returns-then-m-ge8 : goal.returns-then-m-ge8
returns-then-m-ge8 c = asks-mode _ (sym c.tag.ensures ∙ c.in-6.is) c.arg.ensures c.mode_of-m.ensures c.if-m-ge8.true

pub returns-else-m-ge8 : goal.returns-else-m-ge8
returns-else-m-ge8 c = rw (lt-leb 8 _ c.if-m-ge8.false) (asks-field _ (sym c.tag.ensures ∙ c.in-6.is) c.arg.ensures c.mode_of-m.ensures c.if-m-ge8.false)

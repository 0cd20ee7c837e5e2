-- `names::name_right` meets its contract: the tests are those of `word_right`. Assumes nothing.
use native.Mathlib.Omega.{arith}
use Rattle.spelling.proofs.SpellingLaws.{spelled_is}
use Rattle.head.specs.Head.{word_right}
use borrow.Author.Tests.{lt-ltb, le-ltb}
use mathlib.Core.Bool.{not}
use mathlib.Core.Path.{sym, ap, ◌∙◌}
use Rattle.layout.specs.Text.{has}
use Rattle.layout.proofs.ScanLaws.{has-any}
use Rattle.head.proofs.names.name_right.Goals as goal

pub returns-then-not-is_spelling : goal.returns-then-not-is_spelling
unfolding word_right
returns-then-not-is_spelling c = rw (sym c.is_spelling.ensures ∙ c.if-not-is_spelling.true)

pub returns-then-seen-ge8 : goal.returns-then-seen-ge8
unfolding word_right
returns-then-seen-ge8 c =
    rw (sym c.is_spelling.ensures ∙ c.if-not-is_spelling.false, le-ltb _ _ c.if-seen-ge8.true)

pub word_from-x-requires : goal.word_from-x-requires
word_from-x-requires c =
    (omega arith, (spelled_is _ (sym c.is_spelling.ensures ∙ c.if-not-is_spelling.false)).short)

pub returns : goal.returns
unfolding word_right
returns c =
    rw (sym c.is_spelling.ensures ∙ c.if-not-is_spelling.false, lt-ltb _ _ c.if-seen-ge8.false) (ap not (c.contains.ensures.value ∙ has-any _ _ ∙ ap (λ x. has x c.args.seen.now) c.word_from-x.ensures.0))

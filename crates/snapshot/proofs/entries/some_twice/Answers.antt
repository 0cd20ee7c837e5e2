use mathlib.Core.Path.{sym, ◌∙◌}
use borrow.Author.Count.{below_more}
use Rattle.snapshot.proofs.EntryLaws.{name_twice, twice-yes, twice-no}
use Rattle.snapshot.proofs.entries.some_twice.Goals as goal

pub returns-then-name_twice : goal.returns-then-name_twice
unfolding name_twice
returns-then-name_twice c =
    twice-yes _ _ _ _ c.loop-k-test.true (sym c.name_twice.ensures ∙ c.if-name_twice.true)

pub loop-k-preserved : goal.loop-k-preserved
unfolding name_twice
loop-k-preserved c =
    below_more _ _ c.loop-k.invariant (sym c.name_twice.ensures ∙ c.if-name_twice.false)

pub returns : goal.returns
returns c =
    twice-no _ _ _ _ c.loop-k-test.false c.loop-k.invariant

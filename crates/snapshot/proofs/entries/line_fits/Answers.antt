use borrow.Author.Count.{below_more}
use Rattle.snapshot.proofs.EntryLaws.{entry-not, entry-fits, line-fits}
use Rattle.snapshot.proofs.entries.line_fits.Goals as goal

pub returns-then-bound-from : goal.returns-then-bound-from
returns-then-bound-from c =
    entry-not _ _ _ _ _ _ _ c.bound.ensures c.from.ensures c.loop-k-test.true c.if-bound-from.true

pub loop-k-preserved : goal.loop-k-preserved
loop-k-preserved c =
    below_more _ _ c.loop-k.invariant (entry-fits _ _ _ _ _ _ _ c.bound.ensures c.from.ensures c.if-bound-from.false)

pub returns : goal.returns
returns c =
    line-fits _ _ _ _ _ c.loop-k-test.false c.loop-k.invariant

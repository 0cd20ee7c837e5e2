-- `entry` meets its contract: the entry for a symbol below 8, else 0. Assumes nothing.
use mathlib.Core.Path.{◌∙◌}
use borrow.Author.Tests.{lt-ltb, le-ltb}
use Rattle.snapshot_text.specs.Store.{entry_at}
use Rattle.edges.proofs.entry.Goals as goal

pub returns-then-k-lt8 : goal.returns-then-k-lt8
unfolding entry_at
returns-then-k-lt8 c =
    c.from.ensures ∙ simp (lt-ltb _ _ c.if-k-lt8.true)

pub returns-else-k-lt8 : goal.returns-else-k-lt8
unfolding entry_at
returns-else-k-lt8 c =
    simp (le-ltb _ _ c.if-k-lt8.false)

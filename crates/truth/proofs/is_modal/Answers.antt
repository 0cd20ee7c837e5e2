-- `is_modal` meets its contract: it compares the three parts of the word. Assumes nothing.
use Rattle.std.proofs.Common.{rules}
use Rattle.truth.specs.Truths.{modal}
use Rattle.truth.proofs.is_modal.Goals as goal

pub returns-then-arg-a : goal.returns-then-arg-a
unfolding modal
returns-then-arg-a c = search rules

pub returns-else-arg-a : goal.returns-else-arg-a
unfolding modal
returns-else-arg-a c = search rules

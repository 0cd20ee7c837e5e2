-- `kinds::read_kinds` meets its contract. The invariant: the words read are those stored, and with the rest they give all of the line. Assumes nothing.
use mathlib.Core.Path.{◌≡◌}
use lib.ListN.{length}
use Rattle.layout.specs.Text.{split}
use Rattle.head.proofs.WordLaws.{Collecting, kind_fits}
use Rattle.head.specs.Head.{space, kind_of, kinds_of}
use Rattle.head.proofs.kinds.read_kinds.Given as goal

abbrev pub invariant-loop-word : goal.invariant-loop-word
invariant-loop-word l =
    (goal.iterator-loop-word).can_next l.word-iterator ×
    (goal.iterator-loop-word).is_finite l.word-iterator ×
    (l.count ≡ length l.yielded) × Collecting kind_fits kind_of (split space l.line) (kinds_of l.line) l.kinds l.count

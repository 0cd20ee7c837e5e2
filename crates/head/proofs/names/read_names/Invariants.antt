-- `names::read_names` meets its contract. The invariant: the words read are those stored, and with the rest they give all of the line. Assumes nothing.
use mathlib.Core.List.{map}
use mathlib.Core.Path.{◌≡◌}
use lib.ListN.{length}
use Rattle.spelling.specs.Spelling.{word}
use Rattle.layout.specs.Text.{split}
use Rattle.head.proofs.WordLaws.{Collecting}
use Rattle.head.specs.Head.{space, names_of, word_right}
use Rattle.head.proofs.names.read_names.Given as goal

abbrev pub invariant-loop-word : goal.invariant-loop-word
invariant-loop-word l =
    (goal.iterator-loop-word).can_next l.word-iterator ×
    (goal.iterator-loop-word).is_finite l.word-iterator ×
    (l.count ≡ length l.yielded) × Collecting word_right word (split space l.line) (map word (names_of l.line)) l.words l.count

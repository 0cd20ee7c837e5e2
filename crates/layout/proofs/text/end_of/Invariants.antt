-- `text::end_of` meets its contract: no byte from `at` up to i is a b. Assumes nothing.
use mathlib.Core.Path.{◌≡◌}
use Rattle.layout.specs.Text.{end_of}
use Rattle.layout.proofs.text.end_of.Given as goal

abbrev pub invariant-loop-i : goal.invariant-loop-i
invariant-loop-i l = end_of l.b l.s l.i ≡ end_of l.b l.s l.at

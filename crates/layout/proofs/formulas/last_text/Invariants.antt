-- `formulas::last_text` meets its contract. Assumes nothing.
use Rattle.layout.proofs.FormulaTexts.{Behind}
use Rattle.layout.specs.Layout.{lines_from, texts_of, last_of}
use Rattle.layout.specs.Text.{part}
use lib.ListN.{length}
use Prim.Native.Nat.{◌≤◌, ◌-◌}
use mathlib.Core.List.{[]}
use mathlib.Core.Path.{◌≡◌}
use Rattle.layout.proofs.formulas.last_text.Given as goal

abbrev pub invariant-loop-at : goal.invariant-loop-at
invariant-loop-at l = (l.start ≤ l.end) × ((l.end ≤ length l.s) × ((last_of (part l.s l.start l.end) (texts_of (lines_from l.s l.at)) ≡ last_of [] (texts_of (lines_from l.s l.from))) × Behind l.s l.from l.at l.end))

abbrev pub decreases-loop-at : goal.decreases-loop-at
decreases-loop-at l = length l.s - l.at

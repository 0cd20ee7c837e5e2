-- `starts::starts_right` meets its contract: before each turn e is the end of the line at hand. Assumes nothing.
use Rattle.layout.specs.Layout.{newline, starts_right, lines_from}
use Rattle.layout.specs.Text.{end_of}
use lib.ListN.{length}
use Prim.Native.Nat.{◌-◌, ◌≤◌}
use mathlib.Core.Path.{◌≡◌}
use Rattle.layout.proofs.starts.starts_right.Given as goal

abbrev pub invariant-loop-e : goal.invariant-loop-e
invariant-loop-e l = ((l.at ≤ l.e) × (l.e ≤ length l.s)) × ((l.e ≡ end_of newline l.s l.at) × (starts_right (lines_from l.s l.at) ≡ starts_right (lines_from l.s l.from)))

abbrev pub decreases-loop-e : goal.decreases-loop-e
decreases-loop-e l = length l.s - l.at

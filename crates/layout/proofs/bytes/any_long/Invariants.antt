-- `bytes::any_long` meets its contract. Assumes nothing.
use Rattle.layout.specs.Layout.{any_long, newline}
use Rattle.layout.specs.Text.{split}
use lib.ListN.{length, drop}
use Prim.Native.Nat.{◌≤◌, ◌-◌}
use mathlib.Core.Path.{◌≡◌}
use Rattle.layout.proofs.bytes.any_long.Given as goal

abbrev pub invariant-loop-at : goal.invariant-loop-at
invariant-loop-at l = (l.at ≤ length l.s) × (any_long (split newline (drop l.at l.s)) ≡ any_long (split newline l.s))

abbrev pub decreases-loop-at : goal.decreases-loop-at
decreases-loop-at l = length l.s - l.at

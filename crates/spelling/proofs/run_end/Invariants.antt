-- `spelling::run_end` meets its contract. The invariant: where the run from i on ends, the run from `at` on ends. Assumes nothing.
use Prim.Native.Nat.{◌+◌}
use mathlib.Core.Path.{◌≡◌}
use lib.ListN.{drop}
use Rattle.spelling.specs.Spelling.{run}
use Rattle.spelling.proofs.run_end.Given as goal

abbrev pub invariant-loop-i : goal.invariant-loop-i
invariant-loop-i l = l.i + run (drop l.i l.s) ≡ l.at + run (drop l.at l.s)

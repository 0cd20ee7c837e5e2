-- `declarations::declare` meets its contract. The invariant: the symbols from i on, declared in the table as it is, give the declarations. Assumes nothing.
use Rattle.head.specs.Head.{declare as declareFrom, declared}
use mathlib.Core.Path.{◌≡◌}
use lib.ListN.{length, drop}
use Rattle.head.proofs.declarations.declare.Given as goal

abbrev pub invariant-loop-i : goal.invariant-loop-i
invariant-loop-i l = (length l.tab ≡ 16) × (declareFrom l.i (drop l.i l.words) (drop l.i l.kinds) l.tab ≡ declared l.words l.kinds)

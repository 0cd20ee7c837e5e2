-- `four` meets its contract: each of the four words has the types that pass for an entry of r that was gone through. Assumes nothing.
use mathlib.Core.Bool.{not}
use lib.Dec.{eqb}
use Rattle.image.proofs.Fours.{Joins, turned_has}
use Rattle.image.proofs.narrowing.four.Given as goal

abbrev pub invariant-loop-rest : goal.invariant-loop-rest
invariant-loop-rest g l = Joins (turned_has l.w l.cw (not (eqb g.row.LACK 0))) l.r l.k l.rest l.a l.b l.c l.d

abbrev pub decreases-loop-rest : goal.decreases-loop-rest
decreases-loop-rest g l = l.rest

-- `narrow` meets its contract: up to word k those that stay are held, and `any` tells whether there are any. Assumes nothing.
use mathlib.Core.Bool.{not}
use lib.Dec.{eqb}
use Rattle.image.specs.Narrowing.{passing}
use Rattle.image.proofs.Fours.{Tailing}
use Rattle.image.proofs.narrowing.narrow.Given as goal

abbrev pub invariant-loop-k : goal.invariant-loop-k
invariant-loop-k g l = Tailing (passing l.w l.cw l.r (not (eqb g.row.LACK 0))) l.w l.initial.dst l.fours l.dst l.any l.k

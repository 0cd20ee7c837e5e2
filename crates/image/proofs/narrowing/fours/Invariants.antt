-- `fours` meets its contract: after j turns 4 * j words of dst hold those that stay, and `any` tells whether there are any. Assumes nothing.
use Prim.Native.Nat.{◌*◌}
use mathlib.Core.Bool.{not}
use lib.Dec.{eqb}
use Rattle.image.specs.Narrowing.{passing}
use Rattle.image.proofs.Fours.{Narrowing}
use Rattle.image.proofs.narrowing.fours.Given as goal

abbrev pub invariant-loop-j : goal.invariant-loop-j
invariant-loop-j g l = Narrowing (passing l.w l.cw l.r (not (eqb g.row.LACK 0))) l.initial.dst l.w l.dst l.any (l.j * 4)

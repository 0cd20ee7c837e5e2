-- `subtract` meets its contract: after i turns the first i words of dst hold the numbers that are in dst and not in src, and `any` tells whether src has one of them. Assumes nothing.
use mathlib.Core.Bool.{◌&&◌, not}
use Rattle.wordset.specs.Words.{member}
use Rattle.wordset.proofs.Packing.{Packing}
use Rattle.wordset.proofs.subtract.Given as goal

abbrev pub invariant-loop-i : goal.invariant-loop-i
invariant-loop-i l = Packing (λ j. member l.initial.dst j && not (member l.src j)) (member l.src) l.initial.dst l.w l.dst l.any l.i

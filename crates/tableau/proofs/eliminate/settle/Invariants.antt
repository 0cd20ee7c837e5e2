-- `settle` meets its contract: before a turn the first store holds family n, and the families before it all differ. Assumes nothing.
use Prim.Native.Nat.{◌*◌}
use Rattle.wordset.specs.Below.{count_below}
use Rattle.wordset.specs.Words.{member}
use Rattle.tableau.proofs.Settling.{Settles}
use Rattle.tableau.proofs.eliminate.settle.Given as goal

abbrev pub invariant-loop-n : goal.invariant-loop-n
invariant-loop-n l = Settles l.words.w l.words.tw.now l.words.cw.now l.words.ns.now l.initial.first l.initial.second l.initial.copy l.initial.todo l.initial.v l.initial.rest l.first l.second l.copy l.todo l.v l.rest l.n

abbrev pub decreases-loop-n : goal.decreases-loop-n
decreases-loop-n l = count_below (l.words.w * 64) (member l.first)

-- `search` meets its contract: the ranked types are of those that are looked for, among them all where the search begins. Assumes nothing.
use Prim.Native.Nat.{◌*◌}
use Rattle.wordset.specs.Below.{count_below}
use Rattle.wordset.specs.Words.{member}
use Rattle.tableau.proofs.Ranking.{Searching}
use Rattle.tableau.proofs.search.search.Given as goal

abbrev pub invariant-loop-x : goal.invariant-loop-x
invariant-loop-x l = Searching l.words.w l.words.tw.now l.words.cw.now l.words.ns.now l.x l.src l.initial.copy l.initial.todo l.initial.v l.initial.rest l.copy l.todo l.v l.rest

abbrev pub decreases-loop-x : goal.decreases-loop-x
decreases-loop-x l = count_below (l.words.w * 64) (member l.copy)

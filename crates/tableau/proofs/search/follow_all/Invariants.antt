-- `follow_all` meets its contract: after some turns dst has those that pass for the needs of those turns. Assumes nothing.
use lib.ListN.{length, get_or}
use Rattle.ctl.specs.Lists.{imp}
use Rattle.wordset.specs.Words.{member}
use Rattle.tableau.specs.Families.{ex_along, has_next, ranked}
use Rattle.tableau.proofs.NeedFits.{Followed}
use Rattle.tableau.proofs.search.follow_all.Given as goal

abbrev pub invariant-loop-x : goal.invariant-loop-x
invariant-loop-x l = Followed (λ k t. imp (ex_along l.a (get_or l.words.ns.now k 0)) (has_next l.words.w l.words.tw.now l.words.cw.now (member (ranked l.words.w l.src l.copy)) (get_or l.words.ns.now k 0) t)) l.words.w (length l.words.ns.now) l.initial.dst l.initial.v l.initial.rest l.dst l.v l.rest l.x-index

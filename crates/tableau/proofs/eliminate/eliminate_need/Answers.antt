-- `eliminate_need` meets its contract, two returns for an EX and two for an EU or an AU. Assumes nothing.
use mathlib.Core.Path.{sym, ◌∙◌}
use native.Mathlib.Omega.{arith}
use Rattle.wordset.specs.Words.{member}
use Rattle.truth.proofs.ListWords.{pick-member}
use Rattle.tableau.proofs.NeedFits.{among-blocks, among-mode, need-of, next-kept, next-none, until-of, until-whole}
use Rattle.tableau.proofs.Rounding.{ex-stays, kept-all, kept-as, until-leave, until-stay}
use borrow.Author.Rules.{rules}
use Rattle.tableau.proofs.eliminate.eliminate_need.Goals as goal

pub pick-requires : goal.pick-requires
pick-requires c =
    (c.requires.w_in_bounds.4, c.requires.w_in_bounds.1, rw c.whole.ensures (among-blocks c.requires.among.1.2 c.requires.among.0).0)

pub pick-requires-then-pick : goal.pick-requires-then-pick
pick-requires-then-pick c =
    (c.requires.w_in_bounds.5, c.requires.w_in_bounds.0, rw c.left.ensures (among-blocks c.requires.among.1.2 c.requires.among.0).1)

pub confine_linked-requires : goal.confine_linked-requires
confine_linked-requires c =
    let r = c.requires.among.1.2 in let m = among-mode r c.requires.among.0 (sym c.tag.ensures ∙ c.if-tag-eq6.true) in record { w_in_bounds = (r.links.room, r.small, rw c.mode.ensures m); by_index = rw c.mode.ensures (r.links.refuse _ m); w_in_bounds_2 = (c.requires.w_in_bounds.1, (let k = c.pick.auto.dst in let h = c.requires.w_in_bounds.4 in omega arith), (let k = c.pick-then-pick.auto.dst in let h = c.requires.w_in_bounds.5 in omega arith)) }

pub returns-then-pick : goal.returns-then-pick
returns-then-pick c =
    λ ms ln r. kept-as ms ln _ c.args.words.now.tw.now _ c.args.src.now _ c.args.x _ _ c.confine_linked.ensures
    (λ t l. ex-stays ms ln _ c.args.words.now.tw.now _ c.args.src.now _ c.args.x _ c.tag.ensures c.if-tag-eq6.true t (next-kept _ c.args.words.now.tw.now _ (member c.args.src.now) _ c.args.x c.whole.ensures c.left.ensures c.mode.ensures _ _ (pick-member _ _ _ _ _ _ c.requires.w_in_bounds.4 c.pick.ensures.dst_after) (pick-member _ _ _ _ _ _ c.requires.w_in_bounds.5 c.pick-then-pick.ensures.dst_after) t l))

pub returns-else-pick : goal.returns-else-pick
returns-else-pick c =
    λ ms ln r. kept-all ms ln _ c.args.words.now.tw.now c.args.words.now.cw.now c.args.src.now _ c.args.x (λ k h. search rules)
    (λ t l. ex-stays ms ln _ c.args.words.now.tw.now c.args.words.now.cw.now c.args.src.now _ c.args.x _ c.tag.ensures c.if-tag-eq6.true t (next-none _ _ c.args.words.now.cw.now (member c.args.src.now) _ c.args.x c.whole.ensures (sym c.pick.ensures.value ∙ c.if-pick.false) t l))

pub search-requires : goal.search-requires
search-requires c = record { among = (c.requires.among.0, ((λ e. c.if-tag-eq6.false (c.tag.ensures ∙ e)), c.requires.among.1)); w_in_bounds = c.requires.w_in_bounds; within = c.requires.within }

pub returns-then-search : goal.returns-then-search
returns-then-search c =
    λ ms ln r. (let k = until-of r (need-of r c.requires.among.0) (λ e. c.if-tag-eq6.false (c.tag.ensures ∙ e)) in
    kept-all ms ln _ c.args.words.now.tw.now c.args.words.now.cw.now c.args.src.now _ c.args.x (λ k h. search rules)
    (until-stay ms ln _ c.args.words.now.tw.now c.args.words.now.cw.now c.args.src.now _ c.args.x _ k.0 c.tag.ensures c.if-tag-eq6.false (until-whole r k.1) c.requires.w_in_bounds.0 c.requires.within _ (c.search.ensures.by_index ms ln k.0 r k.1) (c.search.ensures.t_after c.if-search.true)))

pub pick-requires-2 : goal.pick-requires-2
pick-requires-2 c =
    ((let k = c.search.auto.v in let h = c.requires.w_in_bounds.4 in omega arith), (let k = c.search.auto.copy in let h = c.requires.w_in_bounds.2 in omega arith), rw c.whole-2.ensures (among-blocks c.requires.among.1.2 c.requires.among.0).0)

pub subtract-requires : goal.subtract-requires
subtract-requires c =
    (c.requires.w_in_bounds.1, (let j = c.pick-2.auto.dst in let k = c.search.auto.v in let h = c.requires.w_in_bounds.4 in omega arith))

pub returns : goal.returns
returns c =
    λ ms ln r. (let k = until-of r (need-of r c.requires.among.0) (λ e. c.if-tag-eq6.false (c.tag.ensures ∙ e)) in
    kept-as ms ln _ c.args.words.now.tw.now c.args.words.now.cw.now c.args.src.now _ c.args.x _ _ c.subtract.ensures.dst_after
    (until-leave ms ln _ c.args.words.now.tw.now c.args.words.now.cw.now c.args.src.now _ c.args.x _ k.0 c.tag.ensures c.if-tag-eq6.false (until-whole r k.1) c.requires.w_in_bounds.0 c.requires.within _ (c.search.ensures.by_index ms ln k.0 r k.1) c.whole-2.ensures _ (pick-member _ _ _ _ _ _ (let k = c.search.auto.v in let h = c.requires.w_in_bounds.4 in omega arith) c.pick-2.ensures.dst_after)))

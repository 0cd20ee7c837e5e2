-- `rank_next` meets its contract, two returns for an EU and two for an AU. Assumes nothing.
use mathlib.Core.Path.{sym, ◌∙◌}
use native.Mathlib.Omega.{arith}
use borrow.Author.Rules.{rules}
use Rattle.truth.proofs.ListWords.{pick-member}
use Rattle.tableau.proofs.Leaving.{au-leave, eu-leave, none-leave}
use Rattle.tableau.proofs.NeedFits.{among-blocks}
use Rattle.tableau.proofs.search.rank_next.Goals as goal

pub pick-requires : goal.pick-requires
pick-requires c =
    (c.requires.w_in_bounds.3, c.requires.w_in_bounds.1, rw c.left-p.ensures (among-blocks c.requires.among.1.2 c.requires.among.0).1)

pub returns-then-not-pick : goal.returns-then-not-pick
returns-then-not-pick c = let p = none-leave _ _ c.args.words.now.cw.now c.args.words.now.ns.now c.args.src.now _ c.args.x c.left-p.ensures (sym c.pick.ensures.value ∙ c.if-not-pick.true) in record { by_index = p.0; value = p.1 }

pub drop_linked-requires : goal.drop_linked-requires
drop_linked-requires c =
    let r = c.requires.among.1.2 in record { w_in_bounds = (r.links.room, r.small, search rules); by_index = (λ m t h l. r.links.refuse m h t l); w_in_bounds_2 = ((let k = c.pick.auto.dst in let h = c.requires.w_in_bounds.3 in omega arith), c.requires.w_in_bounds.4, c.requires.w_in_bounds.0, c.requires.w_in_bounds.1) }

pub release-requires : goal.release-requires
release-requires c =
    (c.requires.w_in_bounds.1, (let j = c.drop_linked.auto.v in let k = c.pick.auto.dst in let h = c.requires.w_in_bounds.3 in omega arith), rw c.left-p.ensures (among-blocks c.requires.among.1.2 c.requires.among.0).1)

pub returns-then-tag-eq8 : goal.returns-then-tag-eq8
returns-then-tag-eq8 c = let p = eu-leave _ _ _ c.args.words.now.ns.now c.args.src.now _ c.args.x c.left-p.ensures c.tag.ensures c.arg.ensures c.requires.w_in_bounds.1 c.if-tag-eq8.true _ _ _ _ (pick-member _ _ _ _ _ _ c.requires.w_in_bounds.3 c.pick.ensures.dst_after) c.drop_linked.ensures c.release.ensures.dst_after c.release.ensures.value in record { by_index = p.0; value = p.1 }

pub pick-requires-2 : goal.pick-requires-2
pick-requires-2 c =
    (c.requires.w_in_bounds.2, c.requires.w_in_bounds.1, rw c.left-p.ensures (among-blocks c.requires.among.1.2 c.requires.among.0).1)

pub returns-then-not-pick-2 : goal.returns-then-not-pick-2
returns-then-not-pick-2 c = let p = none-leave _ _ c.args.words.now.cw.now c.args.words.now.ns.now c.args.src.now _ c.args.x c.left-p.ensures (sym c.pick-2.ensures.value ∙ c.if-not-pick-2.true) in record { by_index = p.0; value = p.1 }

pub follow_all-requires : goal.follow_all-requires
follow_all-requires c = record { made = c.requires.among.1; w_in_bounds = (c.requires.w_in_bounds.0, c.requires.w_in_bounds.1, (let k = c.pick-2.auto.dst in let h = c.requires.w_in_bounds.2 in omega arith), c.requires.w_in_bounds.3, c.requires.w_in_bounds.4) }

pub subtract-requires : goal.subtract-requires
subtract-requires c =
    (c.requires.w_in_bounds.1, (let j = c.follow_all.auto.dst in let k = c.pick-2.auto.dst in let h = c.requires.w_in_bounds.2 in omega arith))

pub returns : goal.returns
returns c = let p = au-leave _ _ _ _ c.args.src.now _ c.args.x c.left-p.ensures c.tag.ensures c.arg-2.ensures c.requires.w_in_bounds.1 c.if-tag-eq8.false _ _ _ _ (pick-member _ _ _ _ _ _ c.requires.w_in_bounds.2 c.pick-2.ensures.dst_after) c.follow_all.ensures c.subtract.ensures.dst_after c.subtract.ensures.value in record { by_index = p.0; value = p.1 }

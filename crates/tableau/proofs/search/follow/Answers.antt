-- `follow` meets its contract: nothing to ask, none that has the need, or what is linked stays. Assumes nothing.
use mathlib.Core.Path.{sym, ap, ◌∙◌}
use mathlib.Core.Bool.{◌&&◌}
use native.Mathlib.Omega.{arith}
use Rattle.wordset.specs.Words.{member}
use Rattle.truth.proofs.ListWords.{pick-member}
use Rattle.tableau.specs.Families.{ranked}
use Rattle.tableau.proofs.NeedFits.{along-mode, among-blocks, among-mode, follow-off, follow-on, next-held, next-none, pick-ranked}
use Rattle.tableau.proofs.search.follow.Goals as goal

pub along-requires : goal.along-requires
along-requires c =
    among-mode c.requires.among.1.2 c.requires.among.0

pub returns-then-not-along : goal.returns-then-not-along
returns-then-not-along c =
    λ t l. follow-off c.args.a c.args.x _ c.along.ensures c.if-not-along.true _ _

pub pick-requires : goal.pick-requires
pick-requires c =
    (c.requires.w_in_bounds.3, c.requires.w_in_bounds.2, rw c.whole.ensures (among-blocks c.requires.among.1.2 c.requires.among.0).0)

pub pick_less-requires : goal.pick_less-requires
pick_less-requires c =
    (c.requires.w_in_bounds.4, c.requires.w_in_bounds.0, c.requires.w_in_bounds.1, rw c.left.ensures (among-blocks c.requires.among.1.2 c.requires.among.0).1)

pub confine_linked-requires : goal.confine_linked-requires
confine_linked-requires c =
    let r = c.requires.among.1.2 in let m = along-mode c.args.a c.args.x _ c.along.ensures c.if-not-along.false (among-mode r c.requires.among.0) in record { w_in_bounds = (r.links.room, r.small, rw c.mode.ensures m); by_index = rw c.mode.ensures (r.links.refuse _ m); w_in_bounds_2 = (c.requires.w_in_bounds.2, (let k = c.pick.auto.dst in let h = c.requires.w_in_bounds.3 in omega arith), (let k = c.pick_less.auto.dst in let h = c.requires.w_in_bounds.4 in omega arith)) }

pub returns-then-pick : goal.returns-then-pick
returns-then-pick c =
    λ t l. next-held _ c.args.words.now.tw.now _ (member (ranked _ c.args.src.now c.args.copy.now)) _ c.args.x c.whole.ensures c.left.ensures c.mode.ensures _ _ (pick-member _ _ _ _ _ _ c.requires.w_in_bounds.3 c.pick.ensures.dst_after) (pick-ranked _ _ c.args.copy.now _ _ _ _ c.requires.w_in_bounds.0 c.requires.w_in_bounds.4 c.pick_less.ensures) _ c.requires.w_in_bounds.2 c.confine_linked.ensures t l
    ∙ ap (λ b. member c.args.dst.now t && b) (follow-on c.args.a c.args.x _ c.along.ensures c.if-not-along.false _)

pub returns-else-pick : goal.returns-else-pick
returns-else-pick c =
    λ t l. next-none _ _ _ (member (ranked _ c.args.src.now c.args.copy.now)) _ c.args.x c.whole.ensures (sym c.pick.ensures.value ∙ c.if-pick.false) t l ∙ ap (λ b. member c.args.dst.now t && b) (follow-on c.args.a c.args.x _ c.along.ensures c.if-not-along.false _)

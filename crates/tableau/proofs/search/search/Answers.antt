use mathlib.Core.Path.{refl, sym, ◌∙◌}
use mathlib.Core.Bool.{true≢false}
use Prim.Native.Nat.{◌+◌, ◌*◌, ◌≤◌}
use native.Mathlib.Omega.{arith}
use lib.ListN.{length}
use Rattle.truth.proofs.ListWords.{held}
use Rattle.tableau.proofs.NeedFits.{among-blocks, need-of, right-block, until-of, until-whole}
use Rattle.tableau.proofs.Ranking.{copy-fewer, none_left, search-found, search-last, search-on, search-start}
use Rattle.tableau.proofs.search.search.Goals as goal

pub omit-requires : goal.omit-requires
omit-requires c =
    let h = c.requires.w_in_bounds in let r = c.requires.among.1.1.2 in let k = until-of r (need-of r c.requires.among.0) c.requires.among.1.0 in let room : c.right.result * c.args.words.now.w + c.args.words.now.w ≤ length c.args.words.now.tw.now = rw c.right.ensures (right-block r k.1) in
    ((let c = h.2 in omega arith), (let s = h.0 in let d = h.1 in omega arith), omega arith)

pub loop-x-init : goal.loop-x-init
loop-x-init c =
    record { long = refl; long_todo = refl; long_v = refl; long_rest = refl; is = λ ms ln i r k. search-start r k c.args.src.now c.requires.w_in_bounds.0 _ c.right.ensures (held _ _ _ _ c.requires.w_in_bounds.2 c.omit.ensures) }

pub meet-requires : goal.meet-requires
meet-requires c =
    (c.requires.w_in_bounds.1, (let l = c.loop-x.invariant.long in let h = c.requires.w_in_bounds.2 in let k = c.omit.auto.dst in omega arith), rw c.whole-i.ensures (among-blocks c.requires.among.1.1.2 c.requires.among.0).0)

pub returns-then-not-meet : goal.returns-then-not-meet
returns-then-not-meet c = let e = sym c.meet.ensures ∙ c.if-not-meet.true in record { by_index = (λ ms ln i r k. search-found r k c.args.src.now c.requires.w_in_bounds.0 c.loop-x.copy (c.loop-x.invariant.is ms ln i r k) _ c.requires.within (none_left _ _ _ _ (c.whole-i.ensures ∙ until-whole r k) e)); t_after = λ b. none_left _ _ _ _ c.whole-i.ensures e }

pub rank_next-requires : goal.rank_next-requires
rank_next-requires c = record { among = (c.requires.among.0, c.requires.among.1.1); w_in_bounds = (c.requires.w_in_bounds.0, (let l = c.loop-x.invariant.long in let h = c.requires.w_in_bounds.2 in let k = c.omit.auto.dst in omega arith), (let l = c.loop-x.invariant.long_todo in let h = c.requires.w_in_bounds.3 in omega arith), (let l = c.loop-x.invariant.long_v in let h = c.requires.w_in_bounds.4 in omega arith), (let l = c.loop-x.invariant.long_rest in let h = c.requires.w_in_bounds.5 in omega arith)) }

pub returns-then-not-rank_next : goal.returns-then-not-rank_next
returns-then-not-rank_next c = record { by_index = (λ ms ln i r k. search-last r k c.args.src.now c.requires.w_in_bounds.0 c.loop-x.copy (c.loop-x.invariant.is ms ln i r k) _ c.rank_next.ensures.by_index _ (sym c.rank_next.ensures.value ∙ c.if-not-rank_next.true)); t_after = λ b. absurd (true≢false (sym b)) }

pub loop-x-smaller : goal.loop-x-smaller
loop-x-smaller c =
    copy-fewer _ _ _ _ c.rank_next.ensures.by_index (sym c.rank_next.ensures.value ∙ c.if-not-rank_next.false)

pub loop-x-preserved : goal.loop-x-preserved
loop-x-preserved c =
    record { long = c.rank_next.auto.copy ∙ c.loop-x.invariant.long; long_todo = c.rank_next.auto.todo ∙ c.loop-x.invariant.long_todo; long_v = c.rank_next.auto.v ∙ c.loop-x.invariant.long_v; long_rest = c.rank_next.auto.rest ∙ c.loop-x.invariant.long_rest; is = λ ms ln i r k. search-on r k c.args.src.now c.requires.w_in_bounds.0 c.loop-x.copy (c.loop-x.invariant.is ms ln i r k) _ c.rank_next.ensures.by_index }

use mathlib.Core.Path.{refl}
use native.Mathlib.Omega.{arith}
use Rattle.tableau.proofs.Rounding.{round-end, round-on, round-start, round-within}
use Rattle.tableau.proofs.eliminate.round.Goals as goal

pub loop-x-init : goal.loop-x-init
loop-x-init c =
    round-start c.args.dst.now c.requires.w_in_bounds.1 c.copy.ensures

pub eliminate_need-requires : goal.eliminate_need-requires
eliminate_need-requires c = record { among = ((_, c.loop-x-test.true, refl), c.requires.made); w_in_bounds = (c.requires.w_in_bounds.0, (let l = c.loop-x.invariant.long in let h = c.requires.w_in_bounds.1 in let k = c.copy.auto.dst in omega arith), (let l = c.loop-x.invariant.long_copy in let h = c.requires.w_in_bounds.2 in omega arith), (let l = c.loop-x.invariant.long_todo in let h = c.requires.w_in_bounds.3 in omega arith), (let l = c.loop-x.invariant.long_v in let h = c.requires.w_in_bounds.4 in omega arith), (let l = c.loop-x.invariant.long_rest in let h = c.requires.w_in_bounds.5 in omega arith)); within = round-within c.loop-x.invariant (let k = c.copy.auto.dst in let h = c.requires.w_in_bounds.1 in omega arith) c.requires.made.2 }

pub loop-x-preserved : goal.loop-x-preserved
loop-x-preserved c =
    round-on c.loop-x.invariant (let k = c.copy.auto.dst in let h = c.requires.w_in_bounds.1 in omega arith) _ _ _ _ _ c.loop-x-test.true c.eliminate_need.auto.dst c.eliminate_need.auto.copy c.eliminate_need.auto.todo c.eliminate_need.auto.v c.eliminate_need.auto.rest c.eliminate_need.ensures

pub returns : goal.returns
returns c = record { by_index = (λ ms ln r. round-end r c.args.src.now c.args.dst.now c.loop-x.invariant c.loop-x-test.false c.requires.w_in_bounds.1 c.copy.ensures); value = c.equal.ensures }

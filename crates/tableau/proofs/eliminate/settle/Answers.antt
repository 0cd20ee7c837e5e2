use mathlib.Core.Path.{refl, ◌∙◌}
use native.Mathlib.Omega.{arith}
use borrow.Author.Rules.{rules}
use Rattle.tableau.proofs.Settling.{before-start, count-now, fewer, settled, turned}
use Rattle.tableau.proofs.eliminate.settle.Goals as goal

pub loop-n-init : goal.loop-n-init
loop-n-init c =
    record { long = refl; long_second = refl; long_copy = refl; long_todo = refl; long_v = refl; long_rest = refl; is = λ ms ln r. before-start c.requires.w_in_bounds.0 c.requires.w_in_bounds.1 (λ k l. (c.type_inv.first k).fits) }

pub round-requires : goal.round-requires
round-requires c =
    let r = c.requires.made.2 in
    let ms = c.requires.made.0 in
    let ln = c.requires.made.1 in
    let b = c.loop-n.invariant.is ms ln r in
    record { made = c.requires.made; w_in_bounds = ((let l = b.long in let h = c.requires.w_in_bounds.0 in omega arith), (let l = b.long' in let h = c.requires.w_in_bounds.1 in omega arith), (let l = c.loop-n.invariant.long_copy in let h = c.requires.w_in_bounds.2 in omega arith), (let l = c.loop-n.invariant.long_todo in let h = c.requires.w_in_bounds.3 in omega arith), (let l = c.loop-n.invariant.long_v in let h = c.requires.w_in_bounds.4 in omega arith), (let l = c.loop-n.invariant.long_rest in let h = c.requires.w_in_bounds.5 in omega arith)) }

pub returns-then-round : goal.returns-then-round
returns-then-round c = record { by_index = (λ ms ln r. (settled (c.loop-n.invariant.is ms ln r) _ (c.round.ensures.by_index ms ln r) _ c.round.ensures.value c.if-round.true).0); by_index_2 = (λ ms ln r. (settled (c.loop-n.invariant.is ms ln r) _ (c.round.ensures.by_index ms ln r) _ c.round.ensures.value c.if-round.true).1); by_index_3 = (λ ms ln r. (settled (c.loop-n.invariant.is ms ln r) _ (c.round.ensures.by_index ms ln r) _ c.round.ensures.value c.if-round.true).2) }

pub overflow_add-n : goal.overflow_add-n
overflow_add-n c =
    (let r = c.requires.made.2 in let ms = c.requires.made.0 in let ln = c.requires.made.1 in let b = c.loop-n.invariant.is ms ln r in let h = b.bound in let f = fewer b _ (c.round.ensures.by_index ms ln r) _ c.round.ensures.value c.if-round.false in let s = r.small in omega arith)

pub round-requires-in-loop-n : goal.round-requires-in-loop-n
round-requires-in-loop-n c =
    let r = c.requires.made.2 in
    let ms = c.requires.made.0 in
    let ln = c.requires.made.1 in
    let b = c.loop-n.invariant.is ms ln r in
    record { made = c.requires.made; w_in_bounds = ((let l = b.long' in let h = c.requires.w_in_bounds.1 in let k = c.round.auto.dst in omega arith), (let l = b.long in let h = c.requires.w_in_bounds.0 in omega arith), (let l = c.loop-n.invariant.long_copy in let h = c.requires.w_in_bounds.2 in let k = c.round.auto.copy in omega arith), (let l = c.loop-n.invariant.long_todo in let h = c.requires.w_in_bounds.3 in let k = c.round.auto.todo in omega arith), (let l = c.loop-n.invariant.long_v in let h = c.requires.w_in_bounds.4 in let k = c.round.auto.v in omega arith), (let l = c.loop-n.invariant.long_rest in let h = c.requires.w_in_bounds.5 in let k = c.round.auto.rest in omega arith)) }

pub shape_of-first-then-round-2 : goal.shape_of-first-then-round-2
shape_of-first-then-round-2 c =
    c.round-in-loop-n.auto.dst ∙ (c.loop-n.invariant.is _ _ c.requires.made.2).long

pub shape_of-second-then-round-2 : goal.shape_of-second-then-round-2
shape_of-second-then-round-2 c =
    c.round.auto.dst ∙ (c.loop-n.invariant.is _ _ c.requires.made.2).long'

pub shape_of-copy-then-round-2 : goal.shape_of-copy-then-round-2
shape_of-copy-then-round-2 c =
    c.round-in-loop-n.auto.copy ∙ c.round.auto.copy ∙ c.loop-n.invariant.long_copy

pub shape_of-todo-then-round-2 : goal.shape_of-todo-then-round-2
shape_of-todo-then-round-2 c =
    c.round-in-loop-n.auto.todo ∙ c.round.auto.todo ∙ c.loop-n.invariant.long_todo

pub shape_of-v-then-round-2 : goal.shape_of-v-then-round-2
shape_of-v-then-round-2 c =
    c.round-in-loop-n.auto.v ∙ c.round.auto.v ∙ c.loop-n.invariant.long_v

pub shape_of-rest-then-round-2 : goal.shape_of-rest-then-round-2
shape_of-rest-then-round-2 c =
    c.round-in-loop-n.auto.rest ∙ c.round.auto.rest ∙ c.loop-n.invariant.long_rest

pub returns-then-round-2 : goal.returns-then-round-2
returns-then-round-2 c = record { by_index = (λ ms ln r. (settled (turned (c.loop-n.invariant.is ms ln r) _ (c.round.ensures.by_index ms ln r) _ c.round.ensures.value c.if-round.false) _ (c.round-in-loop-n.ensures.by_index ms ln r) _ c.round-in-loop-n.ensures.value c.if-round-2.true).0); by_index_2 = (λ ms ln r. (settled (turned (c.loop-n.invariant.is ms ln r) _ (c.round.ensures.by_index ms ln r) _ c.round.ensures.value c.if-round.false) _ (c.round-in-loop-n.ensures.by_index ms ln r) _ c.round-in-loop-n.ensures.value c.if-round-2.true).2); by_index_3 = (λ ms ln r. (settled (turned (c.loop-n.invariant.is ms ln r) _ (c.round.ensures.by_index ms ln r) _ c.round.ensures.value c.if-round.false) _ (c.round-in-loop-n.ensures.by_index ms ln r) _ c.round-in-loop-n.ensures.value c.if-round-2.true).1) }

pub overflow_add-n-in-loop-n : goal.overflow_add-n-in-loop-n
overflow_add-n-in-loop-n c =
    (let r = c.requires.made.2 in let ms = c.requires.made.0 in let ln = c.requires.made.1 in let b = (turned (c.loop-n.invariant.is ms ln r) _ (c.round.ensures.by_index ms ln r) _ c.round.ensures.value c.if-round.false) in let h = b.bound in let f = fewer b _ (c.round-in-loop-n.ensures.by_index ms ln r) _ c.round-in-loop-n.ensures.value c.if-round-2.false in let s = r.small in omega arith)

pub loop-n-smaller : goal.loop-n-smaller
loop-n-smaller c =
    (let r = c.requires.made.2 in let ms = c.requires.made.0 in let ln = c.requires.made.1 in let a = c.loop-n.invariant.is ms ln r in let b = (turned a _ (c.round.ensures.by_index ms ln r) _ c.round.ensures.value c.if-round.false) in let f = fewer a _ (c.round.ensures.by_index ms ln r) _ c.round.ensures.value c.if-round.false in let g = fewer b _ (c.round-in-loop-n.ensures.by_index ms ln r) _ c.round-in-loop-n.ensures.value c.if-round-2.false in let x = count-now a in let y = count-now (turned b _ (c.round-in-loop-n.ensures.by_index ms ln r) _ c.round-in-loop-n.ensures.value c.if-round-2.false) in omega arith)

pub loop-n-preserved : goal.loop-n-preserved
loop-n-preserved c =
    record { long = search rules; long_second = search rules; long_copy = search rules; long_todo = search rules; long_v = search rules; long_rest = search rules; is = λ ms ln r. turned (turned (c.loop-n.invariant.is ms ln r) _ (c.round.ensures.by_index ms ln r) _ c.round.ensures.value c.if-round.false) _ (c.round-in-loop-n.ensures.by_index ms ln r) _ c.round-in-loop-n.ensures.value c.if-round-2.false }

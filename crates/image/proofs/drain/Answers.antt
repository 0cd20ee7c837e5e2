use mathlib.Core.Path.{refl, sym, ◌∙◌}
use mathlib.Core.Bool.{true≢false}
use native.Mathlib.Omega.{arith}
use Rattle.wordset.proofs.BelowLaws.{any_false}
use Rattle.image.proofs.Draining.{drain-empty, drain-less, drain-none, drain-on, drain_rest, drain-start, first-lt, first-own, first_some}
use Rattle.image.proofs.drain.Goals as goal

pub first-q-requires : goal.first-q-requires
first-q-requires c =
    (c.requires.3, (let g = c.requires.1 in omega arith))

pub overflow_mul-w : goal.overflow_mul-w
overflow_mul-w c =
    (let g = c.requires.1 in omega arith)

pub refusal_set-r-requires : goal.refusal_set-r-requires
refusal_set-r-requires c =
    (let l = first-lt _ _ c.first-q.ensures c.if-q-w.false in (c.requires.0, omega arith, omega arith))

pub loop-a-init : goal.loop-a-init
loop-a-init c =
    drain-start (first-own c.first-q.ensures (first-lt _ _ c.first-q.ensures c.if-q-w.false) c.refusal_set-r.ensures)

pub keep_some-requires : goal.keep_some-requires
keep_some-requires c =
    (c.requires.0, c.requires.1, (let l = c.loop-a.invariant.long in let h = c.requires.2 in omega arith))

pub shape_of-dst-then-not-keep_some : goal.shape_of-dst-then-not-keep_some
shape_of-dst-then-not-keep_some c =
    c.keep_some.auto.dst ∙ c.loop-a.invariant.long

pub shape_of-rest-then-not-keep_some : goal.shape_of-rest-then-not-keep_some
shape_of-rest-then-not-keep_some c =
    c.loop-a.invariant.long_rest

pub returns-then-not-keep_some : goal.returns-then-not-keep_some
returns-then-not-keep_some c =
    let e = sym c.keep_some.ensures.some ∙ c.if-not-keep_some.true in
    record { by_index = drain-empty c.loop-a.invariant _ c.partners.ensures _ c.keep_some.ensures.is e; t_after = λ f. any_false _ _ e }

pub keep_lacking-requires : goal.keep_lacking-requires
keep_lacking-requires c =
    (c.requires.0, c.requires.1, (let l = c.loop-a.invariant.long_rest in let h = c.requires.3 in omega arith))

pub shape_of-dst-then-not-keep_lacking : goal.shape_of-dst-then-not-keep_lacking
shape_of-dst-then-not-keep_lacking c =
    c.keep_some.auto.dst ∙ c.loop-a.invariant.long

pub shape_of-rest-then-not-keep_lacking : goal.shape_of-rest-then-not-keep_lacking
shape_of-rest-then-not-keep_lacking c =
    c.keep_lacking.auto.dst ∙ c.loop-a.invariant.long_rest

pub returns-then-not-keep_lacking : goal.returns-then-not-keep_lacking
returns-then-not-keep_lacking c = record { by_index = drain_rest c.loop-a.invariant _ c.partners.ensures _ c.keep_some.ensures.is _ c.keep_lacking.ensures.is (sym c.keep_lacking.ensures.some ∙ c.if-not-keep_lacking.true); t_after = λ e. absurd (true≢false e) }

pub first-p-requires : goal.first-p-requires
first-p-requires c =
    ((let m = c.keep_lacking.auto.dst in let l = c.loop-a.invariant.long_rest in let h = c.requires.3 in omega arith), (let g = c.requires.1 in omega arith))

pub refusal_set-requires : goal.refusal_set-requires
refusal_set-requires c =
    (let l = first_some _ _ c.first-p.ensures (sym c.keep_lacking.ensures.some ∙ c.if-not-keep_lacking.false) in (c.requires.0, omega arith, omega arith))

pub smaller-r-requires : goal.smaller-r-requires
smaller-r-requires c = record { w_in_bounds = (c.requires.0, c.requires.1, (let m = c.keep_lacking.auto.dst in let l = c.loop-a.invariant.long_rest in let h = c.requires.3 in omega arith)); refused = first-own c.first-p.ensures (first_some _ _ c.first-p.ensures (sym c.keep_lacking.ensures.some ∙ c.if-not-keep_lacking.false)) c.refusal_set.ensures }

pub loop-a-smaller : goal.loop-a-smaller
loop-a-smaller c =
    drain-less c.loop-a.invariant.own _ c.keep_lacking.ensures.is

pub loop-a-preserved : goal.loop-a-preserved
loop-a-preserved c =
    drain-on c.loop-a.invariant _ c.partners.ensures _ c.keep_some.ensures.is _ c.keep_lacking.ensures.is c.keep_some.auto.dst c.keep_lacking.auto.dst c.smaller-r.ensures

pub shape_of-rest-then-q-w : goal.shape_of-rest-then-q-w
shape_of-rest-then-q-w c = refl

pub returns-then-q-w : goal.returns-then-q-w
returns-then-q-w c = record { by_index = drain-none _ _ _ _ _ c.first-q.ensures c.if-q-w.true; t_after = λ e. absurd (true≢false e) }

pub partners-requires : goal.partners-requires
partners-requires c = tt

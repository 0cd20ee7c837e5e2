use Rattle.std.proofs.Common.{rules}
use Rattle.std.proofs.iter.Serving.{serving}
use borrow.Author.Tests.{tests}
use native.Mathlib.Omega.{arith}
use lib.Dec.{eqb}
use lib.ListN.{length, get_or, take}
use Prim.Native.Nat.{◌<◌}
use mathlib.Core.Path.{◌≡◌, refl, sym, ◌∙◌}
use Rattle.std.proofs.lemmas.List.{length_push}
use Rattle.std.proofs.lemmas.Iterator.Splits.{YieldsList-from_slice_split}
use Rattle.std.proofs.lemmas.Iterator.Consumers.{YieldsList-turn, YieldsList-end}
use Rattle.layout.specs.Text.{split}
use Rattle.head.specs.Head.{space}
use Rattle.head.proofs.WordLaws.{word-turn, word-end, collect-wrong, collect-room, collect-next, collect-end, kind_fits, kind-few, kinds-collected}
use Rattle.head.proofs.kinds.read_kinds.Goals as goal
use Rattle.head.proofs.kinds.read_kinds.Goals.{After-kind_right}

-- the word at hand is that at `count`
turn : (c : After-kind_right) → (c.loop-word.count < length (split space c.args.line.now)) × (c.in-Some.word.now ≡ get_or (split space c.args.line.now) c.loop-word.count c.in-Some.word.now)
turn c =
    word-turn space c.args.line.now _ _ _ c.loop-word.invariant.2
    (YieldsList-turn (YieldsList-from_slice_split _ (λ b. eqb b 32) c.args.line.now (cc) (cc) c.split-word-items.ensures.closure (λ x b q k. search (rules, tests))) c.loop-word.yielded _ c.loop-word.yielded_by _ _ c.in-Some.word c.in-Some.is c.next.ensures.steps)

fits : (c : After-kind_right) → c.kind_right.result ≡ kind_fits (take c.loop-word.count c.loop-word.kinds) c.in-Some.word.now
fits c = rw (c.kind_right.ensures, c.kind_of-k.ensures) refl

pub loop-word-init : goal.loop-word-init
loop-word-init c = (grind serving, search rules, refl, record { few = omega arith; room = refl; are = kinds-collected _ })

pub returns-then-not-kind_right : goal.returns-then-not-kind_right
returns-then-not-kind_right c =
    let p = (goal.at.returns-then-not-kind_right c).After-kind_right in
    collect-wrong c.loop-word.invariant.3 _ (turn p).0 (turn p).1 (sym (fits p) ∙ c.if-not-kind_right.true)

pub bounds-kinds-count : goal.bounds-kinds-count
bounds-kinds-count c =
    let p = (goal.at.bounds-kinds-count c).After-kind_right in
    collect-room c.loop-word.invariant.3 _ (turn p).0 (turn p).1 kind-few (sym (fits p) ∙ c.if-not-kind_right.false)

pub loop-word-preserved : goal.loop-word-preserved
loop-word-preserved c =
    let p = (goal.at.loop-word-preserved c).After-kind_right in
    let q = length_push c.loop-word.yielded c.in-Some.word in
    (grind serving, search rules, omega (arith, c.loop-word.invariant.2), collect-next c.loop-word.invariant.3 _ (turn p).0 (turn p).1 kind-few (sym (fits p) ∙ c.if-not-kind_right.false) c.kind_of-k.ensures)

pub returns : goal.returns
returns c =
    let g = c.loop-word.invariant.3 in
    let t = YieldsList-end (YieldsList-from_slice_split _ (λ b. eqb b 32) c.args.line.now (cc) (cc) c.split-word-items.ensures.closure (λ x b q k. search (rules, tests))) c.loop-word.yielded _ c.loop-word.yielded_by _ _ c.in-None.is c.next.ensures.steps in
    let e = word-end space c.args.line.now _ _ c.loop-word.invariant.2 t.1 in
    record { some = e.0; few = g.few; room = g.room; are = collect-end g e.1 }

use Rattle.std.proofs.Common.{rules}
use Rattle.std.proofs.iter.Serving.{serving}
use borrow.Author.Tests.{tests}
use native.Mathlib.Omega.{arith}
use lib.Dec.{eqb}
use lib.ListN.{length, get_or}
use Prim.Native.Nat.{◌<◌}
use mathlib.Core.Path.{◌≡◌, refl, sym, ◌∙◌}
use Rattle.std.proofs.lemmas.List.{length_push}
use Rattle.std.proofs.lemmas.Iterator.Splits.{YieldsList-from_slice_split}
use Rattle.std.proofs.lemmas.Iterator.Consumers.{YieldsList-turn, YieldsList-end}
use Rattle.layout.specs.Text.{split}
use Rattle.head.specs.Head.{space}
use Rattle.head.proofs.WordLaws.{none-of, word-turn, word-end, collect-wrong, collect-room, collect-next, collect-end, word-few, word-spelled}
use Rattle.head.proofs.Spellings.{names-packed}
use Rattle.head.proofs.names.read_names.Goals as goal
use Rattle.head.proofs.names.read_names.Goals.{After-name_right}

-- the word at hand is that at `count`
turn : (c : After-name_right) → (c.loop-word.count < length (split space c.args.line.now)) × (c.in-Some.word.now ≡ get_or (split space c.args.line.now) c.loop-word.count c.in-Some.word.now)
turn c =
    word-turn space c.args.line.now _ _ _ c.loop-word.invariant.2
    (YieldsList-turn (YieldsList-from_slice_split _ (λ b. eqb b 32) c.args.line.now (cc) (cc) c.split-word-items.ensures.closure (λ x b q k. search (rules, tests))) c.loop-word.yielded _ c.loop-word.yielded_by _ _ c.in-Some.word c.in-Some.is c.next.ensures.steps)

pub loop-word-init : goal.loop-word-init
loop-word-init c = (grind serving, search rules, refl, record { few = omega arith; room = refl; are = names-packed _ })

pub returns-then-not-name_right : goal.returns-then-not-name_right
returns-then-not-name_right c =
    let p = (goal.at.returns-then-not-name_right c).After-name_right in
    none-of _ (collect-wrong c.loop-word.invariant.3 _ (turn p).0 (turn p).1 (sym c.name_right.ensures ∙ c.if-not-name_right.true))

pub word_from-requires : goal.word_from-requires
word_from-requires c =
    (omega arith, (word-spelled _ _ (sym c.name_right.ensures ∙ c.if-not-name_right.false)).short)

pub bounds-words-count : goal.bounds-words-count
bounds-words-count c =
    let p = (goal.at.bounds-words-count c).After-name_right in
    collect-room c.loop-word.invariant.3 _ (turn p).0 (turn p).1 word-few (sym c.name_right.ensures ∙ c.if-not-name_right.false)

pub offset_bounds-words-count : goal.offset_bounds-words-count
offset_bounds-words-count c =
    let p = (goal.at.offset_bounds-words-count c).After-name_right in
    omega (arith, collect-room c.loop-word.invariant.3 _ (turn p).0 (turn p).1 word-few (sym c.name_right.ensures ∙ c.if-not-name_right.false))

pub loop-word-preserved : goal.loop-word-preserved
loop-word-preserved c =
    let p = (goal.at.loop-word-preserved c).After-name_right in
    let q = length_push c.loop-word.yielded c.in-Some.word in
    (grind serving, search rules, omega (arith, c.loop-word.invariant.2), collect-next c.loop-word.invariant.3 _ (turn p).0 (turn p).1 word-few (sym c.name_right.ensures ∙ c.if-not-name_right.false) c.word_from.ensures.0)

pub returns : goal.returns
returns c =
    let g = c.loop-word.invariant.3 in
    let t = YieldsList-end (YieldsList-from_slice_split _ (λ b. eqb b 32) c.args.line.now (cc) (cc) c.split-word-items.ensures.closure (λ x b q k. search (rules, tests))) c.loop-word.yielded _ c.loop-word.yielded_by _ _ c.in-None.is c.next.ensures.steps in
    let e = word-end space c.args.line.now _ _ c.loop-word.invariant.2 t.1 in
    record { some = e.0; few = g.few; room = g.room; are = collect-end g e.1 }

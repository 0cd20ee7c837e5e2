use Rattle.std.proofs.Common.{rules}
use mathlib.Core.Path.{◌≡◌, sym, ◌∙◌}
use native.Mathlib.Omega.{arith}
use lib.Dec.{eqb}
use lib.ListN.{take}
use borrow.Author.Tests.{tests}
use Rattle.std.specs.List.{position}
use Rattle.std.proofs.lemmas.Iterator.{YieldsList-from_slice, YieldsList-from_take}
use Rattle.std.proofs.lemmas.Iterator.Search.{position_from_yields_List}
use Rattle.spelling.proofs.EntryLaws.{no-entry, entry-place}
use Rattle.spelling.proofs.entry.Goals as goal
use Rattle.spelling.proofs.entry.Goals.{After-position}

-- where the library finds the word
found : (c : After-position) → c.position.result ≡ position (λ y. eqb y c.args.x) (take 16 c.args.decl.now)
found c = position_from_yields_List (λ y. eqb y c.args.x) _ _ c.position.result c.position.ensures.ran (YieldsList-from_take 16 (YieldsList-from_slice c.args.decl.now cc) (cc)) (λ x b q k. search (rules, tests))

pub returns-then-x-eq0 : goal.returns-then-x-eq0
returns-then-x-eq0 c = sym (no-entry _ _ c.if-x-eq0.true)

pub returns-in-Some : goal.returns-in-Some
returns-in-Some c =
    let p = (goal.at.returns-in-Some c).After-position in
    omega (arith, entry-place c.args.decl.now c.args.x _ c.if-x-eq0.false (sym c.in-Some.is ∙ found p))

pub returns-in-None : goal.returns-in-None
returns-in-None c =
    let p = (goal.at.returns-in-None c).After-position in
    sym (entry-place c.args.decl.now c.args.x _ c.if-x-eq0.false (sym c.in-None.is ∙ found p))

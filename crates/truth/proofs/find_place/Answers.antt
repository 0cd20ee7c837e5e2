-- `find_place` meets its contract. Assumes nothing.
use mathlib.Core.Path.{◌∙◌}
use Rattle.std.proofs.Common.{ℕ, get_or, arith, rules}
use Rattle.std.proofs.lemmas.Iterator.{YieldsList-from_slice}
use Rattle.std.proofs.lemmas.Iterator.Adapters.{serves_from_places}
use Rattle.std.proofs.lemmas.Iterator.Search.{position_from_yields_List}
use Rattle.std.proofs.lemmas.List.{get_or_default}
use Rattle.truth.specs.Truths.{modal, place_of}
use Rattle.truth.proofs.Positions.{first-or}
use Rattle.truth.proofs.find_place.Goals as goal

pub position-requires-clause-callable : goal.position-requires-clause-callable
position-requires-clause-callable c =
    serves_from_places (YieldsList-from_slice c.args.ln.now (search rules)) (λ x q r. search rules) (λ x k h e. (let b = c.requires.inside k h in let q = get_or_default c.args.ln.now k x.now 0 h in search (rules, arith)))

pub returns : goal.returns
unfolding place_of
returns c =
    let s = c.args in
    let p = λ (i : ℕ). modal (get_or s.ms.now i 0) s.g s.a s.b in
    c.unwrap_or.ensures ∙ first-or p s.ln.now c.position.result
    (position_from_yields_List p _ _ _ c.position.ensures.ran (YieldsList-from_slice s.ln.now (search rules)) (λ x b q e. search rules))

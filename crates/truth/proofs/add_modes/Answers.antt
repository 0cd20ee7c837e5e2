use mathlib.Core.Path.{ap, ap₂, ◌∙◌}
use native.Mathlib.Omega.{arith}
use Rattle.ctl.specs.Types.{in_type}
use Rattle.wordset.proofs.BitLaws.{shl_one}
use Rattle.truth.specs.Truths.{nexts, place_of}
use Rattle.truth.proofs.Adding.{adding-end, adding-low, adding-on, adding-start}
use Rattle.truth.proofs.TruthLaws.{place-small}
use Rattle.truth.proofs.add_modes.Goals as goal

pub add_place-requires : goal.add_place-requires
add_place-requires c =
    (omega arith, place-small c.requires.leans _ _ _ c.find_place.ensures)

pub loop-rest-preserved : goal.loop-rest-preserved
loop-rest-preserved c =
    let a = c.args in
    let s = c.loop-rest.invariant in
    let n = c.loop-rest-test.true in
    let l = adding-low s n in
    adding-on s n c.find_place.result (λ t. ap (in_type t) (c.find_place.ensures ∙ ap₂ (λ g m. place_of a.ms.now a.ln.now g m a.b) c.next_tag-g.ensures (shl_one _ (omega arith))))
    c.add_place.auto.tw c.add_place.ensures

pub returns : goal.returns
unfolding nexts
returns c = adding-end c.loop-rest.invariant c.loop-rest-test.false

pub loop-rest-init : goal.loop-rest-init
loop-rest-init c = adding-start c.arg-rest.ensures (omega arith)

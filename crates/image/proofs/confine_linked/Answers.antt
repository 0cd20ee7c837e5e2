-- `confine_linked` meets its contract: v comes to hold those that leave, unless there are none. Assumes nothing.
use mathlib.Core.Path.{sym, ap, ◌∙◌}
use mathlib.Core.Bool.{not, ◌&&◌, and-false}
use Rattle.wordset.specs.Words.{member}
use Rattle.truth.specs.Blocks.{has}
use Rattle.conditions.specs.Entries.{linked_to, refusing, side}
use Rattle.image.proofs.Confining.{free-linked, none-leave, these-leave}
use Rattle.image.proofs.confine_linked.Goals as goal

pub returns-then-exceeds : goal.returns-then-exceeds
returns-then-exceeds c =
    let g = c.args in
    none-leave _ _ (λ t. member g.v.now t && not (linked_to g.w g.cw.now (side g.w g.cw.now g.m) (member g.rest.now) t)) (λ k h. (c.type_inv.dst k).fits)
    (λ t l. ap (λ z. member g.v.now t && not z) (free-linked _ _ _ (member g.rest.now) (has g.w g.cw.now (refusing g.m)) c.requires.by_index (sym c.exceeds.ensures ∙ c.if-exceeds.true) t) ∙ and-false (member g.v.now t))

pub returns-then-drain : goal.returns-then-drain
returns-then-drain c = these-leave _ _ _ _ _ c.drain.ensures.by_index c.subtract.ensures.dst_after

pub returns-else-drain : goal.returns-else-drain
returns-else-drain c =
    none-leave _ _ _ (λ k h. (c.type_inv.dst k).fits) (λ t l. sym (c.drain.ensures.by_index t l) ∙ c.drain.ensures.t_after c.if-drain.false t l)

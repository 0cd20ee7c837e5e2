-- `step_block` meets its contract, an arm for each kind of member. Assumes nothing.
use mathlib.Core.Path.{sym, ◌∙◌}
use native.Mathlib.Omega.{arith}
use Rattle.truth.proofs.MemberBlocks.{step-au, step-er}
use Rattle.truth.proofs.TruthLaws.{truth-11, truth-8}
use Rattle.truth.proofs.step_block.Goals as goal

pub returns-in-8 : goal.returns-in-8
returns-in-8 c =
    record { test = _; redone = c.next_block.ensures; is = λ u. truth-8 c.requires.table c.requires.leans _ c.requires.i_in_bounds.0 u (sym c.tag.ensures ∙ c.in-8.is) }

pub returns-in-9 : goal.returns-in-9
returns-in-9 c =
    step-au c.requires.table c.requires.leans c.requires.i_in_bounds.0 (sym c.tag.ensures ∙ c.in-9.is) c.find_plain.ensures c.next_block-in-9.ensures c.add_modes.ensures

pub returns-in-11 : goal.returns-in-11
returns-in-11 c =
    record { test = _; redone = c.next_block-in-11.ensures; is = λ u. truth-11 c.requires.table c.requires.leans _ c.requires.i_in_bounds.0 u (sym c.tag.ensures ∙ c.in-11.is) }

pub returns-in_default : goal.returns-in_default
returns-in_default c =
    let t = c.requires.table.tags _ c.requires.i_in_bounds.0 in
    step-er c.requires.table c.requires.leans c.requires.i_in_bounds.0 (omega arith) c.find_plain-in_default.ensures c.next_block-in_default.ensures c.add_modes-in_default.ensures

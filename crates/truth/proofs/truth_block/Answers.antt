-- `truth_block` meets its contract, an arm for each kind of member. Assumes nothing.
use native.Mathlib.Omega.{arith}
use Rattle.truth.proofs.MemberBlocks.{next-pair, step-expand, step-pair}
use Rattle.truth.proofs.truth_block.Goals as goal

pub returns-in-4 : goal.returns-in-4
returns-in-4 c =
    let h = c.requires.i_in_bounds.0 in
    step-expand c.requires.table c.requires.leans h (step-pair c.requires.table c.requires.leans h _ c.tag-g.ensures (omega arith) (omega arith) c.fill_block.ensures) c.requires.by_index (omega arith) c.left.ensures c.right.ensures c.expand_block.ensures

pub returns-in-6 : goal.returns-in-6
returns-in-6 c =
    next-pair c.requires.table c.requires.leans c.requires.i_in_bounds.0 _ c.tag-g.ensures (omega arith) (omega arith) c.left-in-6.ensures c.next_block.ensures

pub returns-in_default : goal.returns-in_default
returns-in_default c =
    step-expand c.requires.table c.requires.leans c.requires.i_in_bounds.0 c.step_block-until.ensures c.requires.by_index (omega arith) c.left-in_default.ensures c.right-in_default.ensures c.expand_block-in_default.ensures

-- `leaf_block` meets its contract, by the kind of the member. Assumes nothing.
use native.Mathlib.Omega.{arith}
use Rattle.truth.proofs.MemberBlocks.{leaf-lit, leaf-nlit, leaf-whole}
use Rattle.truth.proofs.TruthLaws.{place-small}
use Rattle.truth.proofs.leaf_block.Goals as goal
use Rattle.truth.proofs.leaf_block.Goals.{then-g-ge2, else-g-ge2}

pub add_place-requires : goal.add_place-requires
add_place-requires c = (omega arith, place-small c.requires.leans _ _ _ c.find_place.ensures)

pub returns-then-g-eq3 : goal.returns-then-g-eq3
returns-then-g-eq3 c = elim c.if-g-ge2.branch [
  | then-g-ge2 w ↦ leaf-nlit c.requires.table c.requires.leans c.requires.i_in_bounds.0 c.tag-g.ensures w.if-g-ge2.true w.arg.ensures c.fill_block.ensures w.find_place.ensures (rw w.tw-is w.add_place.ensures) c.if-g-eq3.true c.turn_block.ensures
  | else-g-ge2 w ↦ absurd (omega (arith, w.if-g-ge2.false, c.if-g-eq3.true))
]

pub returns-else-g-eq3 : goal.returns-else-g-eq3
returns-else-g-eq3 c =
    let f = c.requires.i_in_bounds.2 in
    elim c.if-g-ge2.branch [
      | then-g-ge2 w ↦ leaf-lit c.requires.table c.requires.leans c.requires.i_in_bounds.0 c.tag-g.ensures w.if-g-ge2.true w.arg.ensures c.fill_block.ensures w.find_place.ensures (rw w.tw-is w.add_place.ensures) (omega (arith, w.if-g-ge2.true))
      | else-g-ge2 w ↦ rw w.tw-is (leaf-whole c.requires.table c.requires.leans c.requires.i_in_bounds.0 _ c.tag-g.ensures w.if-g-ge2.false c.fill_block.ensures)
    ]

-- `condition_words` meets its contract. Assumes nothing.
use native.Mathlib.Omega.{arith}
use Rattle.conditions.proofs.LinkLaws.{sides-low, words-done}
use Rattle.conditions.proofs.condition_words.Goals as goal

pub put_sums-requires : goal.put_sums-requires
put_sums-requires c =
    let k = c.put_conditions.auto.cw in
    let l = c.turn_sides.auto.cw in record { w_in_bounds = ((let h = c.requires.truths.1.0 in omega arith), c.requires.truths.1.1); by_index = sides-low c.requires.table.1.1.1 c.put_conditions.ensures c.turn_sides.ensures }

pub returns : goal.returns
returns c =
    let k = c.put_conditions.auto.cw in
    let l = c.turn_sides.auto.cw in
    let n = c.put_sums.auto.cw in
    words-done c.requires.table.1.1.1 c.put_conditions.ensures c.turn_sides.ensures c.put_sums.ensures c.requires.table.0 c.requires.table.1.0 c.requires.table.1.1.0 (let h = c.requires.truths.1.0 in omega arith)

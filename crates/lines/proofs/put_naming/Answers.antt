-- `put_naming` meets its contract. Assumes nothing.
use Rattle.lines.proofs.LineLaws.{naming-put}
use Rattle.lines.proofs.put_naming.Goals as goal

pub returns : goal.returns
returns c =
    let s = c.args in
    let number = c.put_spaced-n.ensures in
    let start = c.put_spaced-n-2.ensures in
    let left = c.put_spaced-n-3.ensures in
    let rounds = c.put_number-n.ensures in
    let p = naming-put c.requires s.r s.c.start s.c.left s.c.rounds
    (number.put, number.upper_bound) (start.put, start.upper_bound) (left.put, left.upper_bound)
    (rounds.put, rounds.upper_bound) c.put.ensures in
    record { put = p.0; upper_bound = p.1 }

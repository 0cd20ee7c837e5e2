-- `put_verdict` meets its contract. Assumes nothing.
use Rattle.lines.proofs.LineLaws.{open-put, unsatisfiable-put}
use Rattle.lines.proofs.put_verdict.Goals as goal

pub returns-in-Open : goal.returns-in-Open
returns-in-Open c =
    let naming = c.put_spaced-n.ensures in
    let least = c.put_number-n.ensures in
    let p = open-put c.requires c.put-n.ensures c.put-n-2.ensures _ _ c.in-Open.is c.put-n-in-Open.ensures
    (naming.put, naming.upper_bound) (least.put, least.upper_bound) c.put.ensures in
    record { put = p.0; upper_bound = p.1 }

pub returns : goal.returns
returns c =
    let p = unsatisfiable-put c.requires c.put-n.ensures c.put-n-2.ensures c.in_default.is c.put-n-3.ensures c.put-2.ensures in
    record { put = p.0; upper_bound = p.1 }

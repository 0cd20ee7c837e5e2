-- `put_refused` meets its contract. Assumes nothing.
use Rattle.lines.proofs.LineLaws.{refused-put}
use Rattle.lines.proofs.put_refused.Goals as goal

pub returns : goal.returns
returns c =
    let number = c.put_number-n.ensures in
    let p = refused-put c.requires c.args.k c.put-n.ensures (number.put, number.upper_bound) c.put.ensures in
    record { put = p.0; upper_bound = p.1 }

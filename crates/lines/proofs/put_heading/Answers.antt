-- `put_heading` meets its contract. Assumes nothing.
use Rattle.lines.proofs.LineLaws.{heading-put}
use Rattle.lines.proofs.put_heading.Goals as goal

pub returns : goal.returns
returns c = let p = heading-put c.requires c.put-n.ensures c.put.ensures in record { put = p.0; upper_bound = p.1 }

-- `put_spaced` meets its contract. Assumes nothing.
use Rattle.lines.proofs.LineLaws.{spaced-put}
use Rattle.lines.proofs.put_spaced.Goals as goal

pub returns : goal.returns
returns c = let p = spaced-put c.args.x c.requires c.put_number-at.ensures.put c.put_number-at.ensures.upper_bound c.put_number-at.auto.out in record { put = p.0; upper_bound = p.1 }

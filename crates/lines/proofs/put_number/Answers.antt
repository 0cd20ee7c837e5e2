-- `put_number` meets its contract. Assumes nothing.
use native.Mathlib.Omega.{arith}
use Rattle.lines.proofs.DecimalLaws.{number_put, number_short}
use Rattle.lines.proofs.put_number.Goals as goal

pub put-requires : goal.put-requires
put-requires c =
    let s = number_short c.ranges.x.fits c.decimal-k.ensures.len c.decimal-k.new.out in
    omega (arith, c.requires)

pub returns : goal.returns
returns c = let p = number_put c.ranges.x.fits c.decimal-k.ensures.len c.decimal-k.new.out c.decimal-k.ensures.digits c.put.ensures in record { put = p.0; upper_bound = p.1 }

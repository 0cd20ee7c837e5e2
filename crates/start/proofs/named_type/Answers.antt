-- `named_type` meets its contract: the sum is the set with the name's place put in. Assumes nothing.
use Rattle.start.proofs.NamedNumbers.{sum_is}
use Rattle.start.proofs.named_type.Goals as goal

pub returns : goal.returns
returns c = sum_is c.args.v c.args.n c.args.r c.args.i c.requires.0 c.requires.1.0

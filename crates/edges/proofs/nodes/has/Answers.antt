-- `has` meets its contract: it computes digit i of the set. Assumes nothing.
use Rattle.wordset.proofs.BitLaws.{test_bit}
use Rattle.edges.proofs.nodes.has.Goals as goal

pub returns : goal.returns
returns c =
    test_bit c.args.x c.args.i

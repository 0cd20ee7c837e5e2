-- `contains` meets its contract: it computes the digit of j in the word of j. Assumes nothing.
use Prim.Native.Nat.{◌/◌, ◌%◌}
use lib.ListN.{get_or}
use Rattle.wordset.specs.Words.{member}
use Rattle.wordset.proofs.BitLaws.{test_bit}
use Rattle.wordset.proofs.contains.Goals as goal

pub returns : goal.returns
unfolding member
returns c = test_bit (get_or c.args.ws.now (c.args.j / 64) 0) (c.args.j % 64)

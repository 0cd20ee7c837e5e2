-- `join_block` meets its contract: the first k words are joined. Assumes nothing.
use Rattle.needs.proofs.BlockSteps.{Joining}
use Rattle.needs.proofs.join_block.Given as goal

abbrev pub invariant-loop-k : goal.invariant-loop-k
invariant-loop-k l = Joining l.w l.e l.i l.initial.tw l.tw l.k

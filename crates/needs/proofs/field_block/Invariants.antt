-- `field_block` meets its contract: the block has the first i members. Assumes nothing.
use Rattle.needs.proofs.BlockSteps.{MembersJoined}
use Rattle.needs.proofs.field_block.Given as goal

abbrev pub invariant-loop-i : goal.invariant-loop-i
invariant-loop-i l = MembersJoined l.ms l.ln l.w l.f l.initial.tw l.tw l.i

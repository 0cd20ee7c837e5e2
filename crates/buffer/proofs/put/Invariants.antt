-- `put` meets its contract. Assumes nothing.
use Rattle.buffer.proofs.PutLaws.{Copying}
use Rattle.buffer.proofs.put.Given as goal

abbrev pub invariant-loop-i : goal.invariant-loop-i
invariant-loop-i l = Copying l.n l.text l.initial.out l.out l.i l.at

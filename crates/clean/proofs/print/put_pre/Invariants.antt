-- `print::put_pre` meets its contract: the loop is that of buffer's `put`. Assumes nothing.
use Prim.Native.Nat.{◌+◌}
use Rattle.prints.specs.Prints.{pre_by}
use Rattle.buffer.proofs.PutLaws.{Copying}
use Rattle.clean.proofs.print.put_pre.Given as goal

abbrev pub invariant-loop-k : goal.invariant-loop-k
invariant-loop-k l = Copying l.n (pre_by l.words l.t l.a) l.initial.out l.out l.k (l.n + l.k)

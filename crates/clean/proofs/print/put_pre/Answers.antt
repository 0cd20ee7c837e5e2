use Rattle.std.proofs.Common.{arith, ◌≡◌, ◌+◌}
use Rattle.buffer.proofs.PutLaws.{copying-byte}
use Rattle.clean.proofs.print.put_pre.Goals as goal

pub loop-k-preserved : goal.loop-k-preserved
loop-k-preserved c =
    let e : c.args.n + (c.loop-k.k + 1) ≡ c.args.n + c.loop-k.k + 1 = omega arith in
    rw e (copying-byte c.requires.1.1 c.loop-k.invariant (omega arith) c.pre_byte.ensures)

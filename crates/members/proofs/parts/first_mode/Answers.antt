-- `first_mode` meets its contract: there are no modes below the lowest bit. Assumes nothing.
use native.Mathlib.Nat.{zero-add}
use native.Mathlib.Omega.{arith}
use Rattle.members.proofs.ModeListLaws.{modes-jump}
use Rattle.members.proofs.parts.first_mode.Goals as goal

pub returns : goal.returns
returns c =
    let j = rw zero-add at (modes-jump 64 0 c.args.a (omega arith) (omega (arith, c.if-a-eq0.false)) c.requires (omega (arith, c.requires))) in
    rw c.from.ensures (j.0, (λ h. j.1.0, j.1.1))

-- `refusal_set` meets its contract: the lowest entry that is still to come is tested, and taken out. Assumes nothing.
use Prim.Native.Nat.{◌+◌, ◌*◌}
use Rattle.truth.specs.Blocks.{has}
use Rattle.truth.proofs.Sifting.{Sifting}
use Rattle.image.proofs.refusal_set.Given as goal

abbrev pub invariant-loop-rest : goal.invariant-loop-rest
invariant-loop-rest l = Sifting (λ c. has l.w l.cw c (l.k * 64 + l.b)) l.a l.rest l.acc

abbrev pub decreases-loop-rest : goal.decreases-loop-rest
decreases-loop-rest l = l.rest

-- `full` meets its contract: 2 ^ n - 1 has every node. Assumes nothing.
use Prim.Native.Nat.{ℕ, ◌-◌}
use mathlib.Core.Path.{ap, ◌∙◌}
use native.Mathlib.Omega.{arith}
use Rattle.wordset.proofs.BitLaws.{shl_one}
use Rattle.edges.proofs.NodeLaws.{full_is}
use Rattle.edges.proofs.nodes.full.Goals as goal

pub returns : goal.returns
returns c =
    ap (λ (y : ℕ). y - 1) (let h = c.requires in shl_one c.args.n (omega arith)) ∙ full_is c.args.n

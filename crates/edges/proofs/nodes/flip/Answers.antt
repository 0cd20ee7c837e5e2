-- `flip` meets its contract: all nodes less those of x. Assumes nothing.
use Prim.Native.Nat.{ℕ, ◌-◌, ◌^◌}
use mathlib.Core.Path.{ap, ◌∙◌}
use lib.Bits.{bit_and}
use Rattle.edges.proofs.NodeLaws.{flip_is}
use borrow.Author.Rules.{rules}
use Rattle.edges.proofs.nodes.flip.Goals as goal

pub returns : goal.returns
returns c =
    ap (λ (y : ℕ). bit_and y ((2 ^ 64 - 1) - c.args.x)) c.full.ensures ∙ flip_is c.args.n c.args.x c.requires (search rules)

-- `bit_at` meets its contract, by that of `wordset::contains`. Assumes nothing.
use mathlib.Core.Path.{◌∙◌, ap}
use Prim.Native.Nat.{◌*◌}
use Rattle.wordset.specs.Words.{member}
use Rattle.truth.specs.Blocks.{has}
use Rattle.truth.proofs.BlockLaws.{tail}
use Rattle.truth.proofs.bit_at.Goals as goal

pub returns : goal.returns
unfolding has
returns c =
    c.contains.ensures ∙ ap (λ l. member l c.args.t) (tail (c.args.i * c.args.w) c.args.ws.now)

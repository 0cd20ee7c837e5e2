-- `equal` meets its contract. Assumes nothing.
use mathlib.Core.Path.{◌∙◌}
use Rattle.wordset.proofs.Scanning.{sets-same}
use Rattle.wordset.proofs.equal.Goals as goal

pub returns : goal.returns
returns c = c.eq.ensures ∙ sets-same c.args.a.now c.args.b.now c.args.w c.requires.0 c.requires.1 (λ i. (c.type_inv.a i).fits) (λ i. (c.type_inv.b i).fits)

-- `partners` meets its contract: the halves of the word change places. Assumes nothing.
use mathlib.Core.Path.{ap, ◌∙◌}
use Rattle.wordset.specs.Word.{bit}
use Rattle.image.proofs.WordLaws.{bit-half}
use Rattle.image.proofs.partners.Goals as goal

pub returns : goal.returns
returns c = λ i h. ap (λ x. bit x i) c.rotate_right.ensures ∙ bit-half c.args.r c.ranges.r.fits i h

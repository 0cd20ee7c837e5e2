use mathlib.Core.Path.{◌∙◌}
use Rattle.layout.proofs.ScanLaws.{has-any}
use Rattle.layout.proofs.text.has_byte.Goals as goal

pub returns : goal.returns
returns c = c.contains.ensures.value ∙ has-any _ _

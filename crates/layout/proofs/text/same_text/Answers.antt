use mathlib.Core.Path.{◌∙◌}
use Rattle.layout.proofs.ScanLaws.{same-is}
use Rattle.layout.proofs.text.same_text.Goals as goal

pub returns : goal.returns
returns c = c.eq.ensures ∙ same-is _ _

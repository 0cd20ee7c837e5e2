use mathlib.Core.Path.{◌∙◌}
use Rattle.layout.proofs.ScanLaws.{begins-is}
use Rattle.layout.proofs.text.begins_with.Goals as goal

pub returns : goal.returns
returns c = c.starts_with.ensures.value ∙ begins-is _ _

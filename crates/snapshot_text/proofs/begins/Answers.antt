use native.Mathlib.Omega.{arith}
use mathlib.Core.Path.{refl, ◌∙◌}
use Rattle.snapshot_text.proofs.ReadLaws.{begins-not, begins-so, newline-at}
use Rattle.snapshot_text.proofs.begins.Goals as goal

pub returns-then-starts_with : goal.returns-then-starts_with
returns-then-starts_with c =
    c.eq.ensures ∙ newline-at c.get.result _ _ (c.get.ensures.lookup.4 (omega arith) 0) refl ∙ begins-so _ _ _ c.starts_with.ensures.value c.if-starts_with.true

pub returns-else-starts_with : goal.returns-else-starts_with
returns-else-starts_with c =
    begins-not _ _ _ c.starts_with.ensures.value c.if-starts_with.false

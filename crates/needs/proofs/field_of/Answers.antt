-- `field_of` meets its contract: a field, or another set of modes or another kind. Assumes nothing.
use mathlib.Core.Path.{sym, ◌∙◌}
use Rattle.needs.proofs.FieldLaws.{field-none, field_off, field-on}
use Rattle.needs.proofs.field_of.Goals as goal
use Rattle.needs.proofs.field_of.Goals.{else-tag-eq6-via-then-tag-eq6+else-mode_of-lt8, else-tag-eq6-via-else-tag-eq6}

pub returns-then-mode_of-lt8 : goal.returns-then-mode_of-lt8
returns-then-mode_of-lt8 c = field-on _ (sym c.tag.ensures ∙ c.if-tag-eq6.true) c.arg-a.ensures c.mode_of.ensures c.if-mode_of-lt8.true

pub returns-else-tag-eq6 : goal.returns-else-tag-eq6
returns-else-tag-eq6 c = elim c.else-tag-eq6.branch [
  | else-tag-eq6-via-then-tag-eq6+else-mode_of-lt8 w ↦ field-none _ (sym c.tag.ensures ∙ w.if-tag-eq6.true) c.arg-a.ensures w.mode_of.ensures w.if-mode_of-lt8.false
  | else-tag-eq6-via-else-tag-eq6 w ↦ field_off _ (λ e. w.if-tag-eq6.false (c.tag.ensures ∙ e))
]

-- `kinds::kind_of` meets its contract. Assumes nothing.
use Rattle.head.proofs.KindLaws.{kind-mark, kind-name, kind-field, kind-value, kind-none}
use mathlib.Core.Path.{sym, ◌∙◌}
use Rattle.head.proofs.kinds.kind_of.Goals as goal

pub returns-then-same_text : goal.returns-then-same_text
returns-then-same_text c =
    sym (kind-mark _ (sym c.same_text.ensures ∙ c.if-same_text.true))

pub returns-then-same_text-2 : goal.returns-then-same_text-2
returns-then-same_text-2 c =
    sym (kind-name _ (sym c.same_text.ensures ∙ c.if-same_text.false) (sym c.same_text-2.ensures ∙ c.if-same_text-2.true))

pub returns-then-same_text-3 : goal.returns-then-same_text-3
returns-then-same_text-3 c =
    sym (kind-field _ (sym c.same_text.ensures ∙ c.if-same_text.false) (sym c.same_text-2.ensures ∙ c.if-same_text-2.false) (sym c.same_text-3.ensures ∙ c.if-same_text-3.true))

pub returns-then-same_text-4 : goal.returns-then-same_text-4
returns-then-same_text-4 c =
    sym (kind-value _ (sym c.same_text.ensures ∙ c.if-same_text.false) (sym c.same_text-2.ensures ∙ c.if-same_text-2.false) (sym c.same_text-3.ensures ∙ c.if-same_text-3.false) (sym c.same_text-4.ensures ∙ c.if-same_text-4.true))

pub returns : goal.returns
returns c =
    sym (kind-none _ (sym c.same_text.ensures ∙ c.if-same_text.false) (sym c.same_text-2.ensures ∙ c.if-same_text-2.false) (sym c.same_text-3.ensures ∙ c.if-same_text-3.false) (sym c.same_text-4.ensures ∙ c.if-same_text-4.false))

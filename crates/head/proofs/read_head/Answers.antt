-- `head::read_head` meets its contract. Assumes nothing.
use Rattle.head.proofs.HeadLaws.{head-1, head-2, head-3, head-4, head-5-none, head-5, accepted}
use mathlib.Core.Path.{sym, ◌∙◌}
use Rattle.head.proofs.read_head.Goals as goal

pub returns-then-length_wrong : goal.returns-then-length_wrong
returns-then-length_wrong c = head-1 _ (sym c.length_wrong.ensures ∙ c.if-length_wrong.true)

pub returns-then-byte_wrong : goal.returns-then-byte_wrong
returns-then-byte_wrong c = head-2 _ (sym c.length_wrong.ensures ∙ c.if-length_wrong.false) (sym c.byte_wrong.ensures ∙ c.if-byte_wrong.true)

pub returns-then-not-layout_right : goal.returns-then-not-layout_right
returns-then-not-layout_right c =
    head-3 _ (sym c.length_wrong.ensures ∙ c.if-length_wrong.false) (sym c.byte_wrong.ensures ∙ c.if-byte_wrong.false) (sym c.layout_right.ensures ∙ c.if-not-layout_right.true)

pub returns-in_default : goal.returns-in_default
returns-in_default c =
    head-4 _ (sym c.length_wrong.ensures ∙ c.if-length_wrong.false) (sym c.byte_wrong.ensures ∙ c.if-byte_wrong.false) (sym c.layout_right.ensures ∙ c.if-not-layout_right.false) c.in_default.ensures

pub returns-in_default-line_two : goal.returns-in_default-line_two
returns-in_default-line_two c =
    head-5-none _ (sym c.length_wrong.ensures ∙ c.if-length_wrong.false) (sym c.byte_wrong.ensures ∙ c.if-byte_wrong.false) (sym c.layout_right.ensures ∙ c.if-not-layout_right.false) _ c.in-Some.ensures c.in_default-line_two.ensures

pub returns-then-kinds-count : goal.returns-then-kinds-count
returns-then-kinds-count c =
    head-5 _ (sym c.length_wrong.ensures ∙ c.if-length_wrong.false) (sym c.byte_wrong.ensures ∙ c.if-byte_wrong.false) (sym c.layout_right.ensures ∙ c.if-not-layout_right.false) _ c.in-Some.ensures _ c.in-Some-line_two.ensures c.if-kinds-count.true

pub returns : goal.returns
returns c =
    accepted _ (sym c.length_wrong.ensures ∙ c.if-length_wrong.false) (sym c.byte_wrong.ensures ∙ c.if-byte_wrong.false) (sym c.layout_right.ensures ∙ c.if-not-layout_right.false) _ c.in-Some.ensures _ c.in-Some-line_two.ensures _ _ c.if-kinds-count.false c.declare-decl.ensures c.third_line.ensures

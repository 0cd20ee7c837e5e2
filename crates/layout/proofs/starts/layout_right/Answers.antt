-- `starts::layout_right` meets its contract. Assumes nothing.
use Rattle.layout.proofs.LayoutLaws.{layout-unended, layout-few, layout-many, layout-starts}
use Rattle.layout.proofs.ScanLaws.{ends-is}
use mathlib.Core.Path.{sym, ◌∙◌}
use native.Mathlib.Omega.{arith}
use Rattle.layout.proofs.starts.layout_right.Goals as goal

pub returns-then-not-ends_with : goal.returns-then-not-ends_with
returns-then-not-ends_with c = sym (layout-unended _ (sym (c.ends_with.ensures.value ∙ ends-is _) ∙ c.if-not-ends_with.true))

pub returns-then-k-lt3 : goal.returns-then-k-lt3
returns-then-k-lt3 c =
    sym (layout-few _ _ (sym (c.ends_with.ensures.value ∙ ends-is _) ∙ c.if-not-ends_with.false) c.count_lines-k.ensures (omega arith))

pub returns-then-k-gt7 : goal.returns-then-k-gt7
returns-then-k-gt7 c =
    sym (layout-many _ _ (sym (c.ends_with.ensures.value ∙ ends-is _) ∙ c.if-not-ends_with.false) c.count_lines-k.ensures (omega arith) (omega arith))

pub returns : goal.returns
returns c =
    c.starts_right.ensures ∙ sym (layout-starts _ _ (sym (c.ends_with.ensures.value ∙ ends-is _) ∙ c.if-not-ends_with.false) c.count_lines-k.ensures _ c.third_line.ensures.1 (omega arith) (omega arith))

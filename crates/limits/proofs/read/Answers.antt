-- `read` meets its contract: limits out of range are refused, and all others are those of `read_within`. Assumes nothing.
use mathlib.Core.Path.{sym, ◌∙◌}
use Rattle.limits.proofs.LimitLaws.{read_right, read-wrong, right-limits}
use Rattle.limits.proofs.read.Goals as goal

pub returns-then-wrong : goal.returns-then-wrong
returns-then-wrong c =
    read-wrong _ _ (sym c.wrong.ensures ∙ c.if-wrong.true)

pub read_within-requires : goal.read_within-requires
read_within-requires c =
    let h = right-limits _ (sym c.wrong.ensures ∙ c.if-wrong.false) in
    (h.closure-most, h.lean-most)

pub returns : goal.returns
returns c =
    read_right _ _ c.read_within.result (sym c.wrong.ensures ∙ c.if-wrong.false) c.read_within.ensures

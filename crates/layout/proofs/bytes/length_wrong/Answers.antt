-- `bytes::length_wrong` meets its contract. Assumes nothing.
use Rattle.layout.proofs.LayoutLaws.{length-empty, length_over, length-lines}
use mathlib.Core.Path.{sym, ◌∙◌}
use native.Mathlib.Omega.{arith}
use Rattle.layout.proofs.bytes.length_wrong.Goals as goal

pub returns-then-n-eq0 : goal.returns-then-n-eq0
returns-then-n-eq0 c = sym (length-empty _ c.if-n-eq0.true)

pub returns-then-n-gt1024 : goal.returns-then-n-gt1024
returns-then-n-gt1024 c =
    sym (length_over _ c.if-n-eq0.false (omega arith))

pub returns : goal.returns
returns c =
    c.any_long.ensures ∙ sym (length-lines _ c.if-n-eq0.false (omega arith))

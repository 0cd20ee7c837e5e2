-- `kinds::kind_right` meets its contract. Assumes nothing.
use Rattle.head.proofs.KindLaws.{kind-zero, kind-many, kind-third, kind-other}
use mathlib.Core.Path.{sym}
use Rattle.head.proofs.kinds.kind_right.Goals as goal

pub returns-then-k-eq0 : goal.returns-then-k-eq0
returns-then-k-eq0 c = sym (kind-zero _ _ c.if-k-eq0.true)

pub returns-then-seen-ge8 : goal.returns-then-seen-ge8
returns-then-seen-ge8 c =
    sym (kind-many _ _ c.if-k-eq0.false c.if-seen-ge8.true)

pub returns-then-k-eq2 : goal.returns-then-k-eq2
returns-then-k-eq2 c =
    rw c.name_count.ensures (sym (kind-third _ _ c.if-k-eq0.false c.if-seen-ge8.false c.if-k-eq2.true))

pub returns : goal.returns
returns c =
    sym (kind-other _ _ c.if-k-eq0.false c.if-seen-ge8.false c.if-k-eq2.false)

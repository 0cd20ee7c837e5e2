use mathlib.Core.Path.{sym, ◌∙◌}
use native.Mathlib.Omega.{arith}
use Rattle.snapshot.proofs.EntryLaws.{no_value, not-one-yes, not-one-no}
use Rattle.snapshot.proofs.entries.some_not_one.Goals as goal

pub returns-then-not-some_value : goal.returns-then-not-some_value
returns-then-not-some_value c =
    no_value _ _ _ (sym c.some_value.ensures ∙ c.if-not-some_value.true)

pub returns-then-held_count-ne1 : goal.returns-then-held_count-ne1
returns-then-held_count-ne1 c =
    not-one-yes _ _ _ (sym c.some_value.ensures ∙ c.if-not-some_value.false) _ c.loop-i-test.true (λ e. let g = c.held_count.ensures in omega arith)

pub returns : goal.returns
returns c =
    not-one-no _ _ _ (sym c.some_value.ensures ∙ c.if-not-some_value.false) _ c.loop-i-test.false c.loop-i.invariant

use mathlib.Core.Path.{sym, ◌∙◌}
use Rattle.token.proofs.Spaces.{skip-here, skip-space, skip-through}
use Rattle.token.proofs.skip_spaces.Goals as goal

pub returns-then-s-i-ne32 : goal.returns-then-s-i-ne32
returns-then-s-i-ne32 c = sym (skip-here _ _ c.loop-i-test.true c.if-s-i-ne32.true) ∙ c.loop-i.invariant

pub loop-i-preserved : goal.loop-i-preserved
loop-i-preserved c = skip-space _ _ c.loop-i-test.true c.if-s-i-ne32.false ∙ c.loop-i.invariant

pub returns : goal.returns
returns c = c.max.ensures ∙ skip-through _ _ _ c.loop-i-test.false c.loop-i.auto.i-end c.loop-i.invariant

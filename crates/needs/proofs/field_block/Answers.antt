use mathlib.Core.Path.{sym, ◌∙◌}
use native.Mathlib.Omega.{arith}
use Rattle.needs.proofs.BlockSteps.{field-empty, members-end, members-on, members-start}
use Rattle.needs.proofs.field_block.Goals as goal

pub returns-then-not-has_mode : goal.returns-then-not-has_mode
returns-then-not-has_mode c =
    field-empty c.args.ln.now c.requires.truths.1 c.requires.f_bound.0 (sym c.has_mode.ensures ∙ c.if-not-has_mode.true) c.fill_block.ensures

pub loop-i-init : goal.loop-i-init
loop-i-init c = members-start c.requires.truths.0 c.fill_block.ensures

pub loop-i-preserved : goal.loop-i-preserved
loop-i-preserved c = members-on c.loop-i.invariant c.loop-i-test.true c.join_member.ensures

pub returns : goal.returns
returns c = members-end c.fill_block.ensures c.loop-i.invariant (omega arith)

use mathlib.Core.Path.{sym, ◌∙◌}
use native.Mathlib.Omega.{arith}
use Rattle.start.proofs.StartWords.{counted-on, counted_start, one_none, one-of}
use Rattle.start.proofs.one_word.Goals as goal

pub returns-then-is_empty : goal.returns-then-is_empty
returns-then-is_empty c = one_none _ (sym c.is_empty.ensures ∙ c.if-is_empty.true)

pub loop-v-init : goal.loop-v-init
loop-v-init c = counted_start

pub loop-v-preserved : goal.loop-v-preserved
loop-v-preserved c = counted-on c.loop-v.invariant c.place_word-p.ensures

pub returns : goal.returns
returns c = one-of _ (sym c.is_empty.ensures ∙ c.if-is_empty.false) c.loop-v.invariant (omega arith)

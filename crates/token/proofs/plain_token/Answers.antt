-- `token::plain_token` meets its contract, by the laws of Fronts. Assumes nothing.
use mathlib.Core.Path.{sym, ◌∙◌}
use Rattle.token.proofs.Fronts.{plain-run, plain-sign}
use Rattle.token.proofs.plain_token.Goals as goal

pub returns-then-is_lower : goal.returns-then-is_lower
returns-then-is_lower c = plain-run c.args.s.now c.args.i c.requires (sym c.is_lower.ensures ∙ c.if-is_lower.true) c.letter_run.ensures

pub returns : goal.returns
returns c = plain-sign c.args.s.now c.args.i _ (sym c.is_lower.ensures ∙ c.if-is_lower.false) c.sign.ensures

-- `token::token_at` meets its contract: what stands at the first byte that is no space, by the laws of Tokens. Assumes nothing.
use mathlib.Core.Path.{sym, ◌∙◌}
use Rattle.token.specs.Token.{alone_front, token_at}
use Rattle.token.proofs.Tokens.{past_end, from-capital, from-plain}
use Rattle.token.proofs.token_at.Goals as goal

pub returns-then-s-i : goal.returns-then-s-i
unfolding token_at
returns-then-s-i c = past_end alone_front c.args.s.now c.args.at _ c.skip_spaces-i.ensures c.if-s-i.true

pub returns-then-is_ascii_uppercase : goal.returns-then-is_ascii_uppercase
unfolding token_at
returns-then-is_ascii_uppercase c = from-capital alone_front c.args.s.now c.args.at _ c.skip_spaces-i.ensures c.if-s-i.false (sym c.is_ascii_uppercase.ensures.value ∙ c.if-is_ascii_uppercase.true) c.lone_capital.ensures

pub returns : goal.returns
unfolding token_at
returns c = from-plain alone_front c.args.s.now c.args.at _ c.skip_spaces-i.ensures c.if-s-i.false (sym c.is_ascii_uppercase.ensures.value ∙ c.if-is_ascii_uppercase.false) c.plain_token.ensures

-- `token::inner_at` meets its contract: what stands at the first byte that is no space, by the laws of Tokens. Assumes nothing.
use mathlib.Core.Path.{sym, ◌∙◌}
use Rattle.token.specs.Token.{head_front, inner_at}
use Rattle.token.proofs.Tokens.{from-capital, inner-plain, inner-past}
use Rattle.token.proofs.inner_at.Goals.{else-i-s-via-then-i-s+else-is_ascii_uppercase, else-i-s-via-else-i-s}
use Rattle.token.proofs.inner_at.Goals as goal

pub returns-then-is_ascii_uppercase : goal.returns-then-is_ascii_uppercase
unfolding inner_at
returns-then-is_ascii_uppercase c = from-capital head_front c.args.s.now c.args.at _ c.skip_spaces-i.ensures c.if-i-s.true (sym c.is_ascii_uppercase.ensures.value ∙ c.if-is_ascii_uppercase.true) c.head_capital.ensures

pub returns : goal.returns
returns c =
    elim c.else-i-s.branch [
      | else-i-s-via-then-i-s+else-is_ascii_uppercase w ↦ inner-plain c.args.s.now c.args.at _ c.skip_spaces-i.ensures w.if-i-s.true (sym w.is_ascii_uppercase.ensures.value ∙ w.if-is_ascii_uppercase.false) c.token_at.ensures
      | else-i-s-via-else-i-s w ↦ inner-past c.args.s.now c.args.at _ c.skip_spaces-i.ensures w.if-i-s.false c.token_at.ensures
    ]

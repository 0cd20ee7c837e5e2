-- `braced::braces` meets its contract, by the laws of `ModeLaws`. Assumes nothing.
use Rattle.operators.proofs.ModeLaws.{braces-none, braces-empty, braces-modes}
use Rattle.operators.proofs.braced.braces.Goals as goal

pub returns-in_default : goal.returns-in_default
returns-in_default c = braces-none _ _ _ c.next_token-t.ensures c.in_default.not-OpenBrace

pub returns-in-CloseBrace : goal.returns-in-CloseBrace
returns-in-CloseBrace c = braces-empty _ _ _ c.next_token-t.ensures c.in-OpenBrace.is c.next_token-u.ensures c.in-CloseBrace.is

pub returns : goal.returns
returns c = braces-modes _ _ _ c.next_token-t.ensures c.in-OpenBrace.is c.next_token-u.ensures c.in_default-tok.not-CloseBrace c.modes_from.ensures

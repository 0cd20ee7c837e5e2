-- `token::next_token` meets its contract: the token at a position of the line is inside it, and past the position.
-- Assumes nothing.
use Rattle.token.proofs.Tokens.{token-is}
use Rattle.token.proofs.next_token.Goals as goal

pub returns : goal.returns
returns c = token-is _ _ _ c.requires c.read_token.ensures

-- `token::next_two` meets its contract: each token is inside the line, and past its position.
-- Assumes nothing.
use Rattle.token.proofs.Tokens.{inner-is}
use Rattle.token.proofs.next_two.Goals as goal

pub returns : goal.returns
returns c =
    let first = inner-is _ _ _ c.requires c.read_two.ensures.0 in
    record { first-is = first; second_is = inner-is _ _ _ first.inside c.read_two.ensures.1 }

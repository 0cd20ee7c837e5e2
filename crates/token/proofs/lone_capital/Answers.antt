-- `token::lone_capital` meets its contract, by the laws of Fronts. Assumes nothing.
use Rattle.token.proofs.Fronts.{alone-pair, alone-one}
use Rattle.token.proofs.lone_capital.Goals as goal

pub returns-in-Some : goal.returns-in-Some
returns-in-Some c = alone-pair _ _ _ _ c.pair_at.ensures _ c.in-Some.is

pub returns-in-None : goal.returns-in-None
returns-in-None c = alone-one _ _ _ _ c.pair_at.ensures _ c.in-None.is c.from.ensures

use Rattle.operators.proofs.ModeLaws.{modes-wrong, modes-none, modes-last, modes-more}
use Rattle.operators.proofs.braced.+modes_from.Goals as goal

pub returns-in_err-found : goal.returns-in_err-found
returns-in_err-found t c =
    rw c.from_residual.ensures (modes-wrong _ _ _ _ _ c.next_two.ensures.first-is c.one_mode.ensures c.in_err-found.was)

pub returns-in-Comma : goal.returns-in-Comma
returns-in-Comma t c =
    modes-more _ _ _ _ _ c.next_two.ensures.first-is c.one_mode.ensures c.in_ok-found.was c.next_two.ensures.second_is c.in-Comma.is c.lower-low.ensures c.modes_from.ensures

pub returns-in-CloseBrace : goal.returns-in-CloseBrace
returns-in-CloseBrace t c =
    modes-last _ _ _ _ _ c.next_two.ensures.first-is c.one_mode.ensures c.in_ok-found.was c.next_two.ensures.second_is c.in-CloseBrace.is c.lower-low.ensures

pub returns-in_default : goal.returns-in_default
returns-in_default t c =
    modes-none _ _ _ _ _ c.next_two.ensures.first-is c.one_mode.ensures c.in_ok-found.was c.next_two.ensures.second_is c.in_default.not-Comma c.in_default.not-CloseBrace

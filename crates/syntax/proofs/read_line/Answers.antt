-- `syntax::read_line` meets its contract, by the laws of `LineLaws`.
-- Assumes nothing.
use Rattle.syntax.proofs.LineLaws.{line-wrong, line-done, line-more}
use Rattle.syntax.proofs.read_line.Goals as goal

pub returns-in_err-p : goal.returns-in_err-p
returns-in_err-p c = rw c.from_residual.ensures (line-wrong _ _ _ _ _ c.formula.ensures c.in_err-p.was)

pub returns-in_default : goal.returns-in_default
returns-in_default c = line-more _ _ _ _ _ c.formula.ensures c.in_ok-p.was c.next_token-t.ensures c.in_default.not-End

pub returns : goal.returns
returns c = line-done _ _ _ _ _ c.formula.ensures c.in_ok-p.was c.next_token-t.ensures c.in-End.is

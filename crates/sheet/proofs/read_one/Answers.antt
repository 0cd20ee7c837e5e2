-- `sheet::read_one` meets its contract. Assumes nothing.
use Rattle.sheet.proofs.FormulaLaws.{one-done, one-wrong}
use Rattle.sheet.proofs.read_one.Goals as goal

pub returns-in-Some : goal.returns-in-Some
returns-in-Some c = one-done _ _ _ _ _ _ c.read_line.ensures _ c.in-Some.is _ c.found_refusal.ensures

pub returns-in-None : goal.returns-in-None
returns-in-None c = one-wrong _ _ _ _ _ _ c.read_line.ensures c.in-None.is

use Rattle.wordset.proofs.Filling.{begins, goes}
use Rattle.evaluator.proofs.cells.Goals as goal

pub loop-i-init : goal.loop-i-init
loop-i-init c = begins

pub loop-i-preserved : goal.loop-i-preserved
loop-i-preserved c =
    goes _ c.loop-i.invariant c.loop-i-test.true c.cell.ensures

use Rattle.wordset.proofs.Filling.{begins, goes}
use Rattle.edges.proofs.edge_words.Goals as goal

pub loop-i-init : goal.loop-i-init
loop-i-init c = begins

pub loop-i-preserved : goal.loop-i-preserved
loop-i-preserved c =
    goes _ c.loop-i.invariant c.loop-i-test.true c.next.ensures

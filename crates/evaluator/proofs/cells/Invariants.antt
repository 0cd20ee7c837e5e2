-- `cells` meets its contract: the first i bytes are done. Assumes nothing.
use Rattle.wordset.proofs.Filling.{Filling}
use Rattle.evaluator.specs.Values.{cell_by}
use Rattle.evaluator.proofs.cells.Given as goal

abbrev pub invariant-loop-i : goal.invariant-loop-i
invariant-loop-i l = Filling (cell_by l.goal l.globals) l.initial.row l.n l.row l.i

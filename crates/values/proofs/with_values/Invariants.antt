-- `with_values` meets its contract: before each turn the values among the symbols passed were put (TableLaws). Assumes nothing.
use Rattle.values.proofs.TableLaws.{Sofar}
use Rattle.values.proofs.with_values.Given as goal

abbrev pub invariant-loop-k : goal.invariant-loop-k
invariant-loop-k l = Sofar l.kinds l.initial.tab l.n l.tab l.m l.k

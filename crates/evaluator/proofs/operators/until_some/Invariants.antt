-- `until_some` meets its contract: x is the set after k rounds. Assumes nothing.
use mathlib.Core.Path.{◌≡◌}
use Rattle.edges.specs.Nodes.{repeat}
use Rattle.evaluator.specs.Values.{eu_round}
use Rattle.evaluator.proofs.operators.until_some.Given as goal

abbrev pub invariant-loop : goal.invariant-loop
invariant-loop l = l.x ≡ repeat l.counter (eu_round l.e l.n l.p l.q)

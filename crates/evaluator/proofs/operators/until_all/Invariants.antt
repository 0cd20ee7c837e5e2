-- `until_all` meets its contract: x is the set after k rounds. Assumes nothing.
use mathlib.Core.Path.{◌≡◌}
use Rattle.edges.specs.Nodes.{full_word, repeat}
use Rattle.evaluator.specs.Values.{pre_word, au_round}
use Rattle.evaluator.proofs.operators.until_all.Given as goal

abbrev pub invariant-loop : goal.invariant-loop
invariant-loop l = (l.some ≡ pre_word l.e l.n (full_word l.n)) × (l.x ≡ repeat l.counter (au_round l.e l.n l.p l.q))

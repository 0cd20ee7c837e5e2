-- `base_words` meets its contract: after k turns the first k words of each half are done. Assumes nothing.
use mathlib.Core.Bool.{not, ◌&&◌}
use Rattle.start.specs.Starts.{has_none, in_base}
use Rattle.start.proofs.Halves.{Halved}
use Rattle.start.proofs.base_words.Given as goal

abbrev pub invariant-loop-k : goal.invariant-loop-k
invariant-loop-k l = Halved (λ t. in_base l.ms l.ln l.globals l.values t && has_none l.names t) (λ t. in_base l.ms l.ln l.globals l.values t && not (has_none l.names t)) l.w l.base l.k

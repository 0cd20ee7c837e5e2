-- `snapshot::read` meets its contract. Assumes nothing.
use Rattle.snapshot.proofs.EntryLaws.{judged-few}
use Prim.Native.Nat.{ℕ}
use mathlib.Core.Path.{ap₂, ◌∙◌}
use mathlib.Core.List.{List}
use Rattle.snapshot.specs.Read.{judged, read_snapshot}
use Rattle.snapshot.proofs.read.Goals as goal

pub returns : goal.returns
unfolding read_snapshot
returns c = record { value = c.judge.ensures ∙ ap₂ (λ (n : ℕ) (o : List ℕ). judged c.args.kinds.now n o) c.lines-n.ensures.0 c.lines-n.ensures.1.0; out_after = c.lines-n.ensures.1.0; few = judged-few _ _ _ _ c.lines-n.ensures.1.1 c.judge.ensures }

-- The row of a snapshot: a byte for each node. What its bits mean is goal-bit and globals-bit (proofs/RowMeaning). Assumes nothing.
use Rattle.std.specs.Prelude.{ℕ, ◌+◌, cond, List, map}
use Rattle.ctl.specs.Evaluator.{sat}
use Rattle.ctl.specs.Formula.{Form}
use Rattle.ctl.specs.Lists.{all_of, below}
use Rattle.ctl.specs.Snapshot.{Snapshot}

-- the byte of node i: 1 if the goal holds there, plus 2 if all globals do
abbrev pub cell_of : Snapshot → Form → List Form → ℕ → ℕ
cell_of s goal globals i = cond (sat s goal i) 1 0 + cond (all_of (λ g. sat s g i) globals) 2 0

unfoldable pub row_of : Snapshot → Form → List Form → List ℕ
row_of s goal globals = map (cell_of s goal globals) (below s.n)

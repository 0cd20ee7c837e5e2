-- Snapshots of document 01 and a few more, evaluated: from the lines of a snapshot and a formula as typed to its row. One table, one proof. Line 1 is `k f` throughout, so
-- k is symbol 0, and f is mode 1 forward and mode 9 backward. Assumes nothing.
use mathlib.Core.Path.{◌≡◌, refl}
use mathlib.Core.Bool.{Bool, true, false}
use mathlib.Core.List.{List, [], ◌∷◌, map}
use Prim.Native.Nat.{ℕ, suc, ◌+◌, ◌%◌, ◌^◌}
use lib.Dec.{eqb}
use Rattle.ctl.specs.Modes.{modes}
use Rattle.ctl.specs.Raw.{Raw, zero, one, sym, neg, ex, af, eg, er, ar}
use Rattle.ctl.specs.Positive.{positive, signed}
use Rattle.ctl.specs.Snapshot.{Snapshot, step, of_lines}
use Rattle.ctl.specs.Evaluator.{table, rounds, table_eu, table_au, leads, row}

-- the formula's row on the snapshot of the lines
record Drawn : Type 0 where
  lines : List (List ℕ)
  goal : Raw
  expected : List Bool

row_of : Drawn → List Bool
unfolding row of_lines rounds table_eu table_au leads step modes signed
row_of d = row (of_lines d.lines) (positive d.goal)

f : ℕ
f = 2 ^ 1

back : ℕ
back = 2 ^ 9

drawn : List Drawn
unfolding f back
drawn =
    -- node 1 leads to node 2, which has k: `EX{f}k`, `EX{F}k`, `EX{F}1`
    record { lines = (0 ∷ 2 ∷ []) ∷ (1 ∷ 0 ∷ []) ∷ []; goal = ex f (sym 0); expected = true ∷ false ∷ [] }
    ∷ record { lines = (0 ∷ 2 ∷ []) ∷ (1 ∷ 0 ∷ []) ∷ []; goal = ex back (sym 0); expected = false ∷ false ∷ [] }
    ∷ record { lines = (0 ∷ 2 ∷ []) ∷ (1 ∷ 0 ∷ []) ∷ []; goal = ex back one; expected = false ∷ true ∷ [] }
    -- a dead end: `EG{f}!k` holds, `AF{f}k` does not, and `A{f}(0R!k)` holds
    ∷ record { lines = (0 ∷ 0 ∷ []) ∷ []; goal = eg f (neg (sym 0)); expected = true ∷ [] }
    ∷ record { lines = (0 ∷ 0 ∷ []) ∷ []; goal = af f (sym 0); expected = false ∷ [] }
    ∷ record { lines = (0 ∷ 0 ∷ []) ∷ []; goal = ar f zero (neg (sym 0)); expected = true ∷ [] }
    -- a node that leads to itself: `AF{f}k`
    ∷ record { lines = (0 ∷ 1 ∷ []) ∷ []; goal = af f (sym 0); expected = false ∷ [] }
    -- release is strict: `E{f}(kR!k)` does not hold at a node with k
    ∷ record { lines = (1 ∷ 0 ∷ []) ∷ []; goal = er f (sym 0) (neg (sym 0)); expected = false ∷ [] }
    ∷ []

all-rows : map row_of drawn ≡ map (λ d. d.expected) drawn
unfolding row_of drawn
all-rows = refl

-- a ring of 16 nodes with k on node 3: from each node every path comes to k
ring : Snapshot
ring = record { n = 16; on = λ k i. eqb i 3; to = λ g i. suc ((i + 1) % 16) }

ring-row : row ring (positive (af f (sym 0))) ≡ table 16 (λ i. true)
unfolding ring f row rounds table_eu table_au leads step modes signed
ring-row = refl

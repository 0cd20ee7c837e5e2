-- The entries of a snapshot in a store. Assumes nothing.
use Rattle.std.specs.Prelude.{ℕ, ◌+◌, ◌*◌, cond, List, eqb, ltb, get_or}
use Rattle.ctl.specs.Snapshot.{Snapshot}

-- the entry of symbol k at node i, in a store with room for 8 symbols a node
unfoldable pub entry_at : List ℕ → ℕ → ℕ → ℕ
entry_at out i k = cond (ltb k 8) (get_or out (i * 8 + k) 0) 0

-- the snapshot of n nodes that a store holds
unfoldable pub of_store : ℕ → List ℕ → Snapshot
of_store n out = record { n = n; on = λ k i. eqb (entry_at out i k) 1; to = λ f i. entry_at out i f }

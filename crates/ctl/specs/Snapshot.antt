-- Snapshots of any size: nodes, the symbols on them, and where each field leads from each node. Assumes nothing.
use Rattle.std.specs.Prelude.{ℕ, suc, ◌-◌, ◌<◌, ◌≡◌, Bool, true, cond, ◌&&◌, List, [], T, ltb, eqb, length, get_or}
use Rattle.ctl.specs.Lists.{keep, below, ExactlyOne}

-- Nodes are 0 to n - 1 (document 01 counts them from 1). `on k i`: symbol k is on node i. `to f i`: where field f leads from node i, suc j for node j and 0 for
-- nowhere. A number past n leads nowhere too, so that every record is a snapshot.
pub record Snapshot : Type 0 where
  pub n : ℕ
  pub on : ℕ → ℕ → Bool
  pub to : ℕ → ℕ → ℕ

-- mode m leads to number j from number i: along field m for m < 8, backward along field m - 8 otherwise
abbrev pub follows : Snapshot → ℕ → ℕ → ℕ → Bool
follows s m i j = cond (ltb m 8) (eqb (s.to m i) (suc j)) (eqb (s.to (m - 8) j) (suc i))

-- mode m leads from node i of the snapshot to node j of it
unfoldable pub step : Snapshot → ℕ → ℕ → ℕ → Bool
step s m i j = ltb i s.n && ltb j s.n && follows s m i j

-- symbol k is on at most one node
abbrev pub Single : Snapshot → ℕ → Type 0
Single s k = (i j : ℕ) → i < s.n → j < s.n → s.on k i ≡ true → s.on k j ≡ true → i ≡ j

-- each name is on at most one node; `name` says which symbols are names
abbrev pub NamesSingle : (ℕ → Bool) → Snapshot → Type 0
NamesSingle name s = (k : ℕ) → T (name k) → Single s k

-- the declared values: those of so many symbols that are values, in line 1 order
abbrev pub values_of : (ℕ → Bool) → ℕ → List ℕ
values_of value count = keep value (below count)

-- each node holds exactly one of the values, if any is declared
abbrev pub ValuesSingle : List ℕ → Snapshot → Type 0
ValuesSingle values s = (i : ℕ) → i < s.n → ExactlyOne values (λ k. s.on k i ≡ true)

-- a snapshot that keeps the rules of a sheet's symbols
pub record Legal (name : ℕ → Bool) (values : List ℕ) (s : Snapshot) : Type 0 where
  pub names-single : NamesSingle name s
  pub values-single : ValuesSingle values s

-- The snapshot of a list of lines, a node each, with the line's entries in line 1 order: 0 or 1 for marks, names and values, a node from 1 on or 0 for fields
abbrev pub entry : List (List ℕ) → ℕ → ℕ → ℕ
entry lines k i = get_or (get_or lines i []) k 0

unfoldable pub of_lines : List (List ℕ) → Snapshot
of_lines lines = record { n = length lines; on = λ k i. eqb (entry lines k i) 1; to = λ f i. entry lines f i }

-- A store with tables of numbers one after the other. Assumes nothing.
use Rattle.std.specs.Prelude.{Bool, List, [], ◌++◌, ℕ, zero, suc, replicate}
use Rattle.wordset.specs.Words.{packed}

-- the first w words of tables 0 to n - 1, one after the other: table r holds, as bits, the numbers that P r says
unfoldable pub tables_by : ℕ → (ℕ → ℕ → Bool) → ℕ → List ℕ
tables_by w P zero = []
tables_by w P (suc r) = tables_by w P r ++ packed w (P r) (replicate w 0)

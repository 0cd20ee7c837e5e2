-- The naming in hand: which is the first, which comes next, and whether there is one. Assumes nothing.
use Rattle.std.specs.Prelude.{ℕ, ◌+◌, Bool, cond, ltb}
use Rattle.naming.specs.declared.Naming.{Naming}

-- the first of so many namings
abbrev pub start_of : ℕ → Naming
start_of k = record { number = 0; count = k }

-- the next naming; past the last, the number is the count
abbrev pub next_of : Naming → Naming
next_of n = record { number = cond (ltb n.number n.count) (n.number + 1) n.count; count = n.count }

-- whether there is one in hand
abbrev pub is_one : Naming → Bool
is_one n = ltb n.number n.count

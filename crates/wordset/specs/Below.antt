-- Questions about the numbers below n, for a test P of numbers. Assumes nothing.
use Rattle.std.specs.Prelude.{ℕ, zero, suc, ◌+◌, Bool, true, false, ◌&&◌, ◌||◌, cond}

-- P holds of each number below n
unfoldable pub all_below : ℕ → (ℕ → Bool) → Bool
all_below zero P = true
all_below (suc n) P = all_below n P && P n

-- P holds of some number below n
unfoldable pub any_below : ℕ → (ℕ → Bool) → Bool
any_below zero P = false
any_below (suc n) P = any_below n P || P n

-- 1 where the test holds, else 0
abbrev pub one : Bool → ℕ
one true = 1
one false = 0

-- of how many numbers below n P holds
unfoldable pub count_below : ℕ → (ℕ → Bool) → ℕ
count_below zero P = 0
count_below (suc n) P = count_below n P + one (P n)

-- the least of the n numbers from i of which P holds, or i + n
unfoldable pub seek : (ℕ → Bool) → ℕ → ℕ → ℕ
seek P zero i = i
seek P (suc n) i = let r = seek P n (suc i) in cond (P i) i r

-- the least number below n of which P holds, or n
abbrev pub least : ℕ → (ℕ → Bool) → ℕ
least n P = seek P n 0

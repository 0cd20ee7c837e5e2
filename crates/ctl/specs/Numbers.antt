-- A set of small numbers as a number: i counts 2 ^ i. Types and sets of modes are such numbers. Assumes nothing.
use Rattle.std.specs.Prelude.{Bool, true, false, List, [], ◌∷◌, ℕ, ◌+◌, ◌*◌, ◌/◌, ◌%◌, ◌^◌, eqb}

-- i is in the set
abbrev pub has_bit : ℕ → ℕ → Bool
has_bit s i = eqb (s / 2 ^ i % 2) 1

abbrev pub digit : Bool → ℕ
digit true = 1
digit false = 0

-- the set of the places that are true in a list
unfoldable pub number : List Bool → ℕ
number [] = 0
number (b ∷ l) = digit b + 2 * number l

-- digit k of a number, in digits of c bits
abbrev pub digit_at : ℕ → ℕ → ℕ → ℕ
digit_at c r k = r / 2 ^ (c * k) % 2 ^ c

-- v, and the numbers of a set with those from v on one higher
unfoldable pub with_place : ℕ → ℕ → ℕ
with_place v d = (d / 2 ^ v * 2 + 1) * 2 ^ v + d % 2 ^ v

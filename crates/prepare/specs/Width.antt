-- How many words of 64 bits hold one bit for each type over a lean of some width. Assumes nothing.
use Rattle.std.specs.Prelude.{ℕ, ◌/◌, ◌^◌, max}

-- document 01's W: 1, 2, 4 and so on up to 64, the types over 64 and at least 1
unfoldable pub words_for : ℕ → ℕ
words_for width = max 1 (2 ^ width / 64)

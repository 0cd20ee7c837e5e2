-- The room that a line asks. Assumes nothing.
use Rattle.std.specs.Prelude.{List, ℕ, ◌+◌, ◌≤◌, length}

-- room for any line behind n bytes, or for the last two, where a line ends in at most 16
pub record Room (n : ℕ) (out newline : List ℕ) : Type 0 where
  pub space : n + 128 ≤ length out
  pub short : length newline ≤ 16

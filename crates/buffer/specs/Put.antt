-- What putting a text into a buffer leaves. Assumes nothing.
use Rattle.std.specs.Prelude.{◌≡◌, List, ◌++◌, ℕ, ◌+◌, length, take, drop}

-- the text stands behind the first n bytes, all others are as they were, and r bytes are in use then
pub record Put (n : ℕ) (text out out' : List ℕ) (r : ℕ) : Type 0 where
  pub holds : out' ≡ take n out ++ text ++ drop (n + length text) out
  pub used : r ≡ n + length text

-- A word that answers a test for 64 numbers. Assumes nothing.
use Rattle.std.specs.Prelude.{◌≡◌, Bool, ℕ, ◌+◌, ◌*◌, ◌^◌, ◌<◌}
use Rattle.wordset.specs.Word.{bit}

-- the word x at i holds, of the 64 numbers from i * 64, exactly those that pass the test P
pub record Answers (P : ℕ → Bool) (i x : ℕ) : Type 0 where
  pub small : x < 2 ^ 64
  pub each : (b : ℕ) → b < 64 → P (i * 64 + b) ≡ bit x b

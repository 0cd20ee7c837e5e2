-- The verdict on some namings and one more, from that on the former and what was found for the latter. Assumes nothing.
use Rattle.std.specs.Prelude.{ℕ, Option, Some, None}
use Rattle.judge.specs.declared.Verdict.{Verdict}
use Rattle.judge.specs.declared.Verdict.TheVariants.{Open, Unsatisfiable}

-- an earlier naming prevails
unfoldable pub later_of : Verdict → ℕ → Option ℕ → Verdict
later_of (Open q t) r f = Open q t
later_of Unsatisfiable r (Some t) = Open r t
later_of Unsatisfiable r None = Unsatisfiable

-- Formulas over declared symbols and fields: so are their positive forms, and their numbers fit a member's word. Assumes nothing.
use mathlib.Core.Bool.{true, false}
use Prim.Native.Nat.{ℕ, ◌≤◌, ◌<◌}
use native.Mathlib.Omega.{arith}
use Rattle.ctl.specs.Positive.{signed}
use Rattle.ctl.specs.Alphabet.{DeclaredAll, Over, OverRaw}
use Rattle.ctl.proofs.UsesLaws.{uses-raw, uses-signed}
use Rattle.syntax.specs.Raw.{Raw}
use Rattle.closure.specs.Given.{Fits}

-- the positive form of a formula, and of its negation
pub over-signed : (count : ℕ) (p : Raw) → OverRaw count p → Over count (signed true p) × Over count (signed false p)
over-signed n = uses-signed (λ k. k < n) (DeclaredAll n)

-- what closing asks of formulas over so many symbols
pub over-fits : (n : ℕ) → n ≤ 65536 → (p : Raw) → OverRaw n p → Fits p
unfolding Fits
over-fits n few = uses-raw (λ k h. omega arith) (λ A h. omega arith)

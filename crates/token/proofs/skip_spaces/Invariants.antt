-- `token::skip_spaces` meets its contract. The invariant: what is left to skip from i on is what was left from `at` on.
-- Assumes nothing.
use mathlib.Core.Path.{◌≡◌}
use Rattle.token.specs.Token.{skip}
use Rattle.token.proofs.skip_spaces.Given as goal

abbrev pub invariant-loop-i : goal.invariant-loop-i
invariant-loop-i l = skip l.s l.i ≡ skip l.s l.at

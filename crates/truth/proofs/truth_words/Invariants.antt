-- `truth_words` meets its contract: the first i blocks are done. Assumes nothing.
use mathlib.Core.Path.{◌≡◌}
use Prim.Native.Nat.{ℕ, ◌<◌}
use lib.ListN.{length}
use Rattle.truth.specs.Blocks.{BlockIs}
use Rattle.truth.specs.Truths.{true_at}
use Rattle.truth.proofs.truth_words.Given as goal

abbrev pub invariant-loop-i : goal.invariant-loop-i
invariant-loop-i l = (length l.tw ≡ length l.initial.tw) × ((j : ℕ) → j < l.i → BlockIs (true_at l.ms l.ln j) l.w j l.tw)

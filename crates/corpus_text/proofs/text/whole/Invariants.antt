-- What is left to read gets shorter, and is no longer than the text.
use Rattle.std.proofs.Common.{◌≤◌, length}
use Rattle.corpus_text.proofs.text.whole.Given as goal

abbrev pub invariant-loop-behind : goal.invariant-loop-behind
invariant-loop-behind l = length l.rest ≤ length l.text

abbrev pub decreases-loop-behind : goal.decreases-loop-behind
decreases-loop-behind l = length l.rest

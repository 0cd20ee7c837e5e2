-- `obeys` meets its contract: the first i names are obeyed, or one is not. Assumes nothing.
use lib.ListN.{length, get_or}
use Rattle.wordset.proofs.Scanning.{AllSoFar}
use Rattle.start.specs.Starts.{fits_name}
use Rattle.start.proofs.obeys.Given as goal

abbrev pub invariant-loop-i : goal.invariant-loop-i
invariant-loop-i l = AllSoFar (λ j. fits_name (get_or l.names j 0) l.n l.r j l.t) (length l.names) l.i

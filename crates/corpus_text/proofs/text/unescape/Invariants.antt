-- What is left to read gets shorter.
use Rattle.std.proofs.Common.{length}
use Rattle.corpus_text.proofs.text.unescape.Given as goal

abbrev pub decreases-loop-rest : goal.decreases-loop-rest
decreases-loop-rest g l = length l.rest

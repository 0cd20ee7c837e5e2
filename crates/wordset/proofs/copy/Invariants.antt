-- `copy` meets its contract: after i turns the first i words of dst hold the members of src. Assumes nothing.
use Rattle.wordset.specs.Words.{member}
use Rattle.wordset.proofs.PackLaws.{pack_word}
use Rattle.wordset.proofs.Filling.{Filling}
use Rattle.wordset.proofs.copy.Given as goal

abbrev pub invariant-loop-i : goal.invariant-loop-i
invariant-loop-i l = Filling (pack_word (member l.src)) l.initial.dst l.w l.dst l.i

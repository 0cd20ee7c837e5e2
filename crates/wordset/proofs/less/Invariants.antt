-- `less` meets its contract: after i turns the first i words of dst hold the numbers that are in a and not in b. Assumes nothing.
use mathlib.Core.Bool.{◌&&◌, not}
use Rattle.wordset.specs.Words.{member}
use Rattle.wordset.proofs.PackLaws.{pack_word}
use Rattle.wordset.proofs.Filling.{Filling}
use Rattle.wordset.proofs.less.Given as goal

abbrev pub invariant-loop-i : goal.invariant-loop-i
invariant-loop-i l = Filling (pack_word (λ j. member l.a j && not (member l.b j))) l.initial.dst l.w l.dst l.i

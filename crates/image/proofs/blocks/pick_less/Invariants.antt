-- `pick_less` meets its contract: after k turns the first k words of dst hold the numbers that are in src and not in u and are in block i. Assumes nothing.
use mathlib.Core.Bool.{not, ◌&&◌}
use Rattle.wordset.proofs.Filling.{Filling}
use Rattle.wordset.proofs.PackLaws.{pack_word}
use Rattle.wordset.specs.Words.{member}
use Rattle.truth.specs.Blocks.{has}
use Rattle.image.proofs.blocks.pick_less.Given as goal

abbrev pub invariant-loop-k : goal.invariant-loop-k
invariant-loop-k l = Filling (pack_word (λ t. (member l.src t && not (member l.u t)) && has l.w l.tw l.i t)) l.initial.dst l.w l.dst l.k

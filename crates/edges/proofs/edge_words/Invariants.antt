-- `edge_words` meets its contract: the first i nodes have their words. Assumes nothing.
use Rattle.wordset.proofs.Filling.{Filling}
use Rattle.edges.specs.Nodes.{next_word}
use Rattle.edges.proofs.edge_words.Given as goal

abbrev pub invariant-loop-i : goal.invariant-loop-i
invariant-loop-i l = Filling (next_word l.out l.n l.modes) l.initial.e l.n l.e l.i

-- `clean::put_lines` meets its contract: at each turn what is put and the lines that are left are the whole text (LineText). Assumes nothing.
use Rattle.clean.proofs.LineText.{Lined}
use Rattle.clean.proofs.put_lines.Given as goal

abbrev pub invariant-loop-i : goal.invariant-loop-i
invariant-loop-i l = Lined l.tab l.n l.words l.places l.at l.initial.out l.out l.i l.used

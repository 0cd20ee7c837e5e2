-- `clean::measure_lines` meets its contract: at each turn the measured lines and those that are left are all of them (LineText). Assumes nothing.
use Rattle.clean.proofs.LineText.{Summed}
use Rattle.clean.proofs.measure_lines.Given as goal

abbrev pub invariant-loop-i : goal.invariant-loop-i
invariant-loop-i l = Summed l.tab l.n l.words l.places l.from l.i l.size

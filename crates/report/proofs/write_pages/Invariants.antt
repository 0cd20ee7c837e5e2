-- `write_pages` meets its contract. Assumes nothing.
use Prim.Native.Nat.{◌-◌}
use Rattle.judge.specs.Judged.{goals_of}
use Rattle.report.proofs.WriteLaws.{Printing}
use Rattle.report.proofs.write_pages.Given as goal

abbrev pub invariant-loop-n : goal.invariant-loop-n
invariant-loop-n l = Printing l.job.limits l.job.sheet.now l.job.newline.now (goals_of l.sheet l.goal) l.namings l.initial.out l.out l.done l.used l.n l.v

abbrev pub decreases-loop-n : goal.decreases-loop-n
decreases-loop-n l = l.n.count - l.n.number

-- `judge_in` meets its contract. Assumes nothing.
use mathlib.Core.Path.{◌≡◌}
use Prim.Native.Nat.{◌-◌}
use Rattle.judge.specs.Judged.{goals_at}
use Rattle.judge.proofs.JudgeLaws.{Judging}
use Rattle.judge.proofs.judge_in.Given as goal

abbrev pub invariant-loop-n : goal.invariant-loop-n
invariant-loop-n g l = Judging (goals_at l.sheet.ms.now l.sheet.ln.now l.sheet.words.w l.sheet.base.now l.sheet.names.now l.goal) l.namings l.n.number × (l.n.count ≡ l.namings)

abbrev pub decreases-loop-n : goal.decreases-loop-n
decreases-loop-n g l =
    l.n.count - l.n.number

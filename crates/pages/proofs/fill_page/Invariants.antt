-- `fill_page` meets its contract. Assumes nothing.
use Prim.Native.Nat.{◌+◌, ◌-◌, ◌≤◌}
use lib.ListN.{length}
use Rattle.judge.specs.Judged.{goals_at}
use Rattle.pages.specs.Pages.{row_at}
use Rattle.pages.proofs.PageLaws.{Paging}
use Rattle.pages.proofs.fill_page.Given as goal

abbrev pub invariant-loop-n : goal.invariant-loop-n
invariant-loop-n l = Paging (row_at l.sheet.ms.now l.sheet.ln.now l.sheet.words.w l.sheet.base.now l.sheet.names.now l.newline) (goals_at l.sheet.ms.now l.sheet.ln.now l.sheet.words.w l.sheet.base.now l.sheet.names.now l.goal) l.initial.n l.used l.initial.out l.out l.first l.second l.v l.k l.n × (l.k + 256 ≤ length l.out)

abbrev pub decreases-loop-n : goal.decreases-loop-n
decreases-loop-n l = l.n.count - l.n.number

use Prim.Native.Nat.{◌+◌, ◌≤◌}
use native.Mathlib.Omega.{arith}
use lib.ListN.{length}
use Rattle.naming.proofs.NextLaws.{next-number}
use Rattle.judge.specs.Judged.{goals_of}
use Rattle.judge.proofs.JudgeLaws.{found-is}
use Rattle.pages.specs.Pages.{row_of}
use Rattle.pages.proofs.PageLaws.{Paging, counted, first-room, page-done, paging-next}
use Rattle.pages.proofs.fill_page.Goals as goal
use Rattle.pages.proofs.fill_page.Goals.{After-advanced-n}

-- a turn, where the naming has been advanced: what is in the buffer and judged then
turned : (c : After-advanced-n)
    → Paging (row_of c.args.sheet.now c.args.newline.now) (goals_of c.args.sheet.now c.args.goal) c.args.start c.args.used c.args.out.now c.put_naming-k.new.out c.fill_table-c.new.first c.fill_table-c.new.second c.later-v.result c.put_naming-k.result c.advanced-n.result
turned c =
    let at = c.loop-n in
    let i : at.k + 256 ≤ length at.out = at.invariant.1 in
    let found = found-is _ _ _ _ _ _ _ at.first _ _ (first-room at.invariant.0 c.requires.places.1.0) c.fill_table-c.ensures.first_holds c.goal_type-found.ensures in
    paging-next at.invariant.0 c.loop-n-test.true (omega arith) c.put_naming-k.ensures.put (counted _ _ _ _ _ _ _ c.fill_table-c.ensures) c.put_naming-k.auto.out
    c.fill_table-c.auto.first c.fill_table-c.auto.second found c.later-v.ensures c.advanced-n.ensures

pub returns-then-out-k-lt256 : goal.returns-then-out-k-lt256
returns-then-out-k-lt256 c =
    let i = c.loop-n.invariant.1 in
    let long = c.put_naming-k.auto.out in
    let most = c.put_naming-k.ensures.upper_bound in
    let onward = c.loop-n.invariant.0.onward in
    page-done (turned (goal.at.returns-then-out-k-lt256 c).After-advanced-n) (λ h. omega (arith, next-number _ _ c.advanced-n.ensures c.loop-n-test.true)) (omega arith)

pub loop-n-preserved : goal.loop-n-preserved
loop-n-preserved c = (turned (goal.at.loop-n-preserved c).After-advanced-n, omega arith)

use native.Mathlib.Omega.{arith}
use Rattle.tableau.specs.Families.{has_nexts}
use Rattle.tableau.proofs.NeedFits.{all_end, all-on, all_start}
use Rattle.tableau.proofs.search.follow_all.Goals as goal

pub loop-x-preserved : goal.loop-x-preserved
loop-x-preserved c =
    all-on c.loop-x.invariant _ _ _ c.loop-x-test.true c.follow.auto.dst c.follow.auto.v c.follow.auto.rest c.follow.ensures

pub returns : goal.returns
unfolding has_nexts
returns c =
    all_end c.loop-x.invariant (let k = c.loop-x-test.false in omega arith)

pub loop-x-init : goal.loop-x-init
loop-x-init c = all_start

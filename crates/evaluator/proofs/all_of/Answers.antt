use Rattle.evaluator.proofs.RowLaws.{all-begin, all_end, all-on}
use Rattle.evaluator.proofs.all_of.Goals as goal

pub loop-m-init : goal.loop-m-init
loop-m-init c =
    all-begin c.args.sets.now c.args.members.now c.args.n _ c.full-x.ensures

pub loop-m-preserved : goal.loop-m-preserved
loop-m-preserved c =
    all-on c.args.sets.now c.args.members.now c.args.n _ _ _ c.loop-m.invariant c.set_at-x.ensures

pub returns : goal.returns
returns c =
    all_end c.args.sets.now c.args.members.now c.args.n _ _ c.loop-m.auto.m-index-end c.loop-m-test.false c.loop-m.invariant

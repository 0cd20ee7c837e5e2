-- `selected` meets its contract, a return for each rule: the types on which the member has a say. Assumes nothing.
use Rattle.conditions.proofs.RuleWords.{selects-backward, selects-both, selects-forward}
use Rattle.conditions.proofs.selected.Goals as goal

pub returns-in-Forward : goal.returns-in-Forward
returns-in-Forward c = selects-forward c.args.w c.args.tw.now c.args.rule c.args.i c.args.p c.args.k c.in-Forward.is (c.type_inv.tw _).fits

pub returns-in-Backward : goal.returns-in-Backward
returns-in-Backward c = selects-backward c.args.w c.args.tw.now c.args.rule c.args.i c.args.p c.args.k c.in-Backward.is (c.type_inv.tw _).fits

pub returns-in-BothWays : goal.returns-in-BothWays
returns-in-BothWays c = selects-both c.args.w c.args.tw.now c.args.rule c.args.i c.args.p c.args.k c.in-BothWays.is (c.type_inv.tw _).fits (c.type_inv.tw _).fits

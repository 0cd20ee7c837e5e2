-- `verdict_within` meets its contract. Assumes nothing.
use mathlib.Core.Path.{sym}
use Rattle.std.proofs.Common.{rules}
use Rattle.outcomes.proofs.VerdictLaws.{verdict-judged, verdict-refused}
use Rattle.outcomes.proofs.DemandLaws.{verdict-demand-2, verdict-demand-3}
use Rattle.lockgraph.proofs.verdicts.verdict_within.Goals as goal

pub returns-in_err-u-clause-value : goal.returns-in_err-u-clause-value
returns-in_err-u-clause-value c = let is = verdict-refused c.args.l c.args.sheet.now _ (sym c.in_err-u.ensures) in search rules

pub returns-clause-value : goal.returns-clause-value
returns-clause-value c =
    verdict-judged _ _ c.in_ok-u.ensures.0 _ c.fitted_verdict.ensures

pub returns-clause-verdict_demand2 : goal.returns-clause-verdict_demand2
returns-clause-verdict_demand2 c =
    verdict-demand-2 _ _ (verdict-judged _ _ c.in_ok-u.ensures.0 _ c.fitted_verdict.ensures)

pub returns-clause-verdict_demand3 : goal.returns-clause-verdict_demand3
returns-clause-verdict_demand3 c =
    verdict-demand-3 _ _ (verdict-judged _ _ c.in_ok-u.ensures.0 _ c.fitted_verdict.ensures)

-- `lockgraph_verdict_within` meets its contract. Assumes nothing.
use Rattle.lockgraph_c.proofs.ToldLaws.{verdict-none, verdict-open, verdict-refused}
use Rattle.lockgraph_c.proofs.verdicts.lockgraph_verdict_within.Goals as goal

pub returns-in-Err : goal.returns-in-Err
returns-in-Err c =
    verdict-refused c.verdict_within.ensures.value c.verdict_within.ensures.number c.verdict_within.ensures.verdict_demand2 c.verdict_within.ensures.verdict_demand3 c.in-Err.is c.number.ensures

pub returns-in-Ok-Open : goal.returns-in-Ok-Open
returns-in-Ok-Open c =
    verdict-open c.verdict_within.ensures.value c.verdict_within.ensures.number c.verdict_within.ensures.verdict_demand2 c.verdict_within.ensures.verdict_demand3 (cc)

pub returns-in-Ok-Unsatisfiable : goal.returns-in-Ok-Unsatisfiable
returns-in-Ok-Unsatisfiable c =
    verdict-none c.verdict_within.ensures.value c.verdict_within.ensures.number c.verdict_within.ensures.verdict_demand2 c.verdict_within.ensures.verdict_demand3 (cc)

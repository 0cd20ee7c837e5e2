-- `verdict_with` meets its contract: what is asked follows from the set-up. Assumes nothing.
use Rattle.fitted.proofs.AcceptedLaws.{few-of, goal-of, placed-of, verdict-of}
use Rattle.fitted.proofs.verdicts.verdict_with.Goals as goal

pub judge-requires-clause-places : goal.judge-requires-clause-places
judge-requires-clause-places g c =
    let a = c.requires.accepts in let f = c.sheet_in-tables.ensures in (placed-of a f, (few-of a f, goal-of a f))

pub returns : goal.returns
returns g c = verdict-of c.requires.accepts c.sheet_in-tables.ensures c.judge.ensures

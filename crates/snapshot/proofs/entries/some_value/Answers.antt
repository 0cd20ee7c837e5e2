use Rattle.snapshot.proofs.EntryLaws.{some_value-is}
use Rattle.snapshot.proofs.entries.some_value.Goals as goal

pub returns : goal.returns
returns c = some_value-is _ _ c.contains.ensures.cases

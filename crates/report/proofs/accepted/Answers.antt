-- `accepted` meets its contract: the larger size is enough for any sheet. Assumes nothing.
use mathlib.Core.Path.{refl}
use Rattle.frame.proofs.Stores.{sized}
use Rattle.fitted.proofs.AcceptedLaws.{few-members, few_words}
use Rattle.report.proofs.accepted.Goals as goal

pub accepted_with-requires-else-is_small-clause-sizes : goal.accepted_with-requires-else-is_small-clause-sizes
accepted_with-requires-else-is_small-clause-sizes c =
    let a = c.requires.accepts.0 in sized 136 64 (few-members a) (few_words a) refl refl refl refl

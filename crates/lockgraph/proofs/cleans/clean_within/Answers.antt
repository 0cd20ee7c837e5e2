-- `clean_within` meets its contract. Assumes nothing.
use mathlib.Core.Path.{sym}
use Rattle.std.proofs.Common.{rules}
use Rattle.frame.proofs.SetUpLaws.{right}
use Rattle.outcomes.proofs.CleanLaws.{clean-refused, clean-written}
use Rattle.lockgraph.proofs.cleans.clean_within.Goals as goal

pub returns-in_err-reading : goal.returns-in_err-reading
returns-in_err-reading c = let is = clean-refused c.args.l c.args.sheet.now c.args.store.now _ (sym c.in_err-reading.ensures) in search rules

pub write_clean-requires : goal.write_clean-requires
write_clean-requires c = (right _ c.in_ok-reading.ensures, c.in_ok-reading.ensures.1)

pub returns : goal.returns
returns c = let is = clean-written c.args.l c.args.sheet.now c.args.store.now c.in_ok-reading.ensures.0 c.write_clean.ensures in search rules

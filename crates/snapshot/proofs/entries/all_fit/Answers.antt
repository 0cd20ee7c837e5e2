use mathlib.Core.Path.{sym, ◌∙◌}
use Rattle.snapshot.proofs.EntryLaws.{fits_not, fits_all}
use Rattle.snapshot.proofs.entries.all_fit.Goals as goal

pub returns-then-not-line_fits : goal.returns-then-not-line_fits
returns-then-not-line_fits c =
    fits_not _ _ _ _ c.loop-i-test.true (sym c.line_fits.ensures ∙ c.if-not-line_fits.true)

pub returns : goal.returns
returns c =
    fits_all _ _ _ _ c.loop-i-test.false c.loop-i.invariant

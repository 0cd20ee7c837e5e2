use mathlib.Core.Path.{sym, ◌∙◌}
use lib.ListN.{length, get_or}
use Rattle.wordset.proofs.BelowLaws.{all-false}
use Rattle.wordset.proofs.Scanning.{all_end, all-on, all_start}
use Rattle.start.specs.Starts.{fits_name, obeys_by}
use Rattle.start.proofs.obeys.Goals as goal

pub loop-i-init : goal.loop-i-init
loop-i-init c = all_start

pub returns-then-not-fits_name : goal.returns-then-not-fits_name
unfolding obeys_by
returns-then-not-fits_name c =
    let a = c.args in
    sym (all-false (λ j. fits_name (get_or a.names.now j 0) a.n a.r j a.t) (length a.names.now) _ c.loop-i-test.true (sym c.fits_name.ensures ∙ c.if-not-fits_name.true))

pub loop-i-preserved : goal.loop-i-preserved
loop-i-preserved c = all-on c.loop-i.invariant c.loop-i-test.true (sym c.fits_name.ensures ∙ c.if-not-fits_name.false)

pub returns : goal.returns
unfolding obeys_by
returns c = all_end c.loop-i.invariant c.loop-i-test.false

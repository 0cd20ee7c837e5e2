-- `sheet::found_refusal` meets its contract. Assumes nothing.
use Rattle.sheet.specs.Sheet.{found_refusal}
use borrow.Author.Tests.{eq-eqb, ne_eqb}
use Rattle.sheet.proofs.found_refusal.Goals as goal

pub returns-then-low-eq7 : goal.returns-then-low-eq7
unfolding found_refusal
returns-then-low-eq7 c = rw (eq-eqb _ _ c.if-low-eq7.true)

pub returns-then-low-eq8 : goal.returns-then-low-eq8
unfolding found_refusal
returns-then-low-eq8 c =
    rw (ne_eqb _ _ c.if-low-eq7.false, eq-eqb _ _ c.if-low-eq8.true)

pub returns : goal.returns
unfolding found_refusal
returns c =
    rw (ne_eqb _ _ c.if-low-eq7.false, ne_eqb _ _ c.if-low-eq8.false)

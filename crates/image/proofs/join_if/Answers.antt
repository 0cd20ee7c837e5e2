-- `join_if` meets its contract: the numbers of two words. Assumes nothing.
use mathlib.Core.Path.{sym, ap, ◌∙◌}
use mathlib.Core.Bool.{and-true, ◌&&◌, ◌||◌}
use lib.Bits.{or_lt}
use Rattle.wordset.proofs.BitLaws.{bit-or}
use Rattle.wordset.specs.Word.{bit}
use Rattle.image.proofs.join_if.Goals as goal

pub returns-then-on : goal.returns-then-on
returns-then-on c =
    let x = c.args.x in
    let y = c.args.y in
    (or_lt 64 x y c.ranges.x.fits c.ranges.y.fits, λ d. bit-or x y d ∙ ap (λ z. bit x d || z) (sym (and-true (bit y d)) ∙ ap (λ o. bit y d && o) (sym c.if-on.true)))

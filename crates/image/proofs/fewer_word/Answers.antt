-- `fewer_word` meets its contract: of the types of x, those that lack an entry of r and are in no other entry. Assumes nothing.
use mathlib.Core.Bool.{not, ◌&&◌}
use Rattle.wordset.specs.Below.{any_below}
use Rattle.wordset.specs.Word.{bit}
use Rattle.truth.specs.Blocks.{has}
use Rattle.image.specs.Narrowing.{not_all}
use Rattle.image.proofs.WordLaws.{fewer-lacking, fewer-none, fewer-some}
use Rattle.image.proofs.fewer_word.Goals as goal

pub returns-then-x-eq0 : goal.returns-then-x-eq0
returns-then-x-eq0 c =
    let g = c.args in
    fewer-none (λ u. not_all g.w g.cw.now g.r u && not (any_below 64 (λ e. (bit g.a e && not (bit g.r e)) && has g.w g.cw.now e u))) c.if-x-eq0.true

pub returns-then-y-eq0 : goal.returns-then-y-eq0
returns-then-y-eq0 c =
    let g = c.args in
    fewer-lacking g.w g.cw.now g.a g.r c.lack_word.ensures c.if-y-eq0.true

pub returns : goal.returns
returns c =
    let g = c.args in
    fewer-some g.w g.cw.now g.a g.r c.ranges.r.fits c.lack_word.ensures c.some_word.ensures

-- `place_word` meets its contract: a constant for a place below 6, whole words for the others. Assumes nothing.
use mathlib.Core.Path.{sym, ◌∙◌}
use Prim.Native.Nat.{◌-◌}
use borrow.Author.Tests.{eq-eqb, ne_eqb}
use Rattle.wordset.proofs.BitLaws.{test_bit}
use Rattle.wordset.specs.Word.{bit}
use Rattle.truth.proofs.PlaceWords.{high-full, high-none, low_word}
use Rattle.truth.proofs.place_word.Goals as goal

pub returns-then-idx-place-eq1 : goal.returns-then-idx-place-eq1
unfolding bit
returns-then-idx-place-eq1 c =
    high-full _ _ c.if-place-lt6.false (sym (test_bit c.args.idx (c.args.place - 6)) ∙ eq-eqb _ _ c.if-idx-place-eq1.true)

pub returns-else-idx-place-eq1 : goal.returns-else-idx-place-eq1
unfolding bit
returns-else-idx-place-eq1 c =
    high-none _ _ c.if-place-lt6.false (sym (test_bit c.args.idx (c.args.place - 6)) ∙ ne_eqb _ _ c.if-idx-place-eq1.false)

pub returns-then-place-lt6 : goal.returns-then-place-lt6
returns-then-place-lt6 c = low_word _ _ c.if-place-lt6.true

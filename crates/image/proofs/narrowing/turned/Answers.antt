-- `turned` meets its contract: the word, or its complement. Assumes nothing.
use mathlib.Core.Path.{sym, ap}
use mathlib.Core.Bool.{not, cond}
use borrow.Author.Tests.{ne_eqb}
use Rattle.truth.proofs.BlockLaws.{word-as, word-not}
use Rattle.image.proofs.narrowing.turned.Goals as goal

pub returns-then-this-ne0 : goal.returns-then-this-ne0
returns-then-this-ne0 g c = λ P k a. word-as (λ t. sym (ap (λ b. cond (not b) (not (P t)) (P t)) (ne_eqb _ 0 c.if-this-ne0.true))) (word-not a)

use mathlib.Core.Path.{sym, ap, ◌∙◌}
use lib.ListN.{get_or}
use Rattle.spelling.specs.Spelling.{letters_from}
use Rattle.spelling.proofs.SpellingLaws.{letter-first, letter-next}
use Rattle.spelling.proofs.+letter_of.Goals as goal

pub returns-then-k-eq0 : goal.returns-then-k-eq0
returns-then-k-eq0 t c = λ f h. letter-first f _ h ∙ ap (λ k. get_or (letters_from f c.args.x) k 0) (sym c.if-k-eq0.true)

pub returns : goal.returns
returns t c = λ f h. letter-next f _ h _ c.if-k-eq0.false c.letter_of.ensures

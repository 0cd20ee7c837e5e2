use native.Mathlib.Omega.{arith}
use Rattle.spelling.proofs.SpellingLaws.{count_none, count-more}
use Rattle.spelling.proofs.+letter_count.Goals as goal

pub returns-then-x-eq0 : goal.returns-then-x-eq0
returns-then-x-eq0 t c = λ f h. count_none f _ h c.if-x-eq0.true

pub overflow_add-result : goal.overflow_add-result
overflow_add-result t c = let q = c.letter_count.ensures 8 (omega arith) in omega (arith, q.1)

pub returns : goal.returns
returns t c = λ f h. count-more f _ h c.if-x-eq0.false c.letter_count.ensures

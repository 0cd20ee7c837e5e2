use native.Mathlib.Omega.{arith}
use Rattle.wordset.proofs.AnswersLaws.{and-answers, minus-answers}
use Rattle.start.proofs.Halves.{halved-end, halved-on}
use Rattle.start.proofs.base_words.Goals as goal

pub loop-k-preserved : goal.loop-k-preserved
loop-k-preserved c =
    halved-on c.loop-k.invariant c.loop-k-test.true (omega (arith, c.requires.w_in_bounds, c.loop-k.auto.base)) (and-answers c.base_word-all.ensures c.free_word-free.ensures) (minus-answers c.base_word-all.ensures c.free_word-free.ensures)

pub returns : goal.returns
returns c =
    let e = halved-end c.loop-k.invariant c.loop-k-test.false in
    record { free = λ t h. (e t h).0; named = λ t h. (e t h).1 }

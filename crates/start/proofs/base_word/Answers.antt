use native.Mathlib.Omega.{arith}
use Rattle.wordset.proofs.AnswersLaws.{and-answers}
use Rattle.start.specs.Starts.{in_base}
use Rattle.truth.proofs.Folds.{meet-end, meet-on, meet-start}
use Rattle.start.proofs.base_word.Goals as goal

pub loop-g-init : goal.loop-g-init
loop-g-init c = meet-start _

pub loop-g-preserved : goal.loop-g-preserved
loop-g-preserved c =
    meet-on _ c.loop-g.invariant (c.requires.truths.words _ (c.requires.by_index _ c.loop-g-test.true) _ c.requires.k_lt_w.0)

pub returns : goal.returns
unfolding in_base
returns c = and-answers c.low_word.ensures (and-answers c.one_word.ensures (meet-end _ c.loop-g.invariant (omega arith)))

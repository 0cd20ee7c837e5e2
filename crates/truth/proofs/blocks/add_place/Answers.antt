use Rattle.truth.proofs.Redoing.{pass-on, redone-pass}
use Rattle.truth.proofs.blocks.add_place.Goals as goal

pub loop-k-preserved : goal.loop-k-preserved
loop-k-preserved c = pass-on c.loop-k.invariant c.loop-k.auto.x-items c.loop-k-test.true c.add_word.ensures

pub returns : goal.returns
returns c P b = redone-pass _ _ _ _ c.requires.0 c.loop-k.invariant c.loop-k.auto.x-items c.loop-k-test.false (λ k x h a. a P (b k h))

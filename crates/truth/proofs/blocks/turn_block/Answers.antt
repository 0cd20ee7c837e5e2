use Rattle.truth.proofs.BlockLaws.{word-not}
use Rattle.truth.proofs.Redoing.{pass-on, redone-pass}
use Rattle.truth.proofs.blocks.turn_block.Goals as goal

pub loop-x-preserved : goal.loop-x-preserved
loop-x-preserved c = pass-on c.loop-x.invariant c.loop-x.auto.x-items c.loop-x-test.true (λ P a. word-not a)

pub returns : goal.returns
returns c P b = redone-pass _ _ _ _ c.requires c.loop-x.invariant c.loop-x.auto.x-items c.loop-x-test.false (λ k x h a. a P (b k h))

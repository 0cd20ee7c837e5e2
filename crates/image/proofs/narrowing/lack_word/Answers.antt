use native.Mathlib.Omega.{arith}
use Rattle.image.specs.Narrowing.{not_all}
use Rattle.truth.proofs.BlockLaws.{block-word, slot, word-not}
use Rattle.truth.proofs.Joining.{join-end, join-low, join-on, join-start}
use Rattle.image.proofs.narrowing.lack_word.Goals as goal

pub loop-rest-init : goal.loop-rest-init
loop-rest-init c = join-start c.ranges.r.fits

pub bounds-cw-c : goal.bounds-cw-c
bounds-cw-c c =
    slot _ _ 64 _ _ (join-low c.loop-rest.invariant c.loop-rest-test.true) (omega (arith, c.requires.0)) c.requires.1

pub loop-rest-preserved : goal.loop-rest-preserved
loop-rest-preserved c = join-on c.loop-rest.invariant c.loop-rest-test.true (word-not (block-word _ _ _ _ (c.type_inv.cw _).fits))

pub returns : goal.returns
unfolding not_all
returns c = join-end c.loop-rest.invariant c.loop-rest-test.false

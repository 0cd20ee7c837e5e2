use native.Mathlib.Omega.{arith}
use Rattle.conditions.specs.Entries.{in_some}
use Rattle.truth.proofs.BlockLaws.{block-word, slot}
use Rattle.truth.proofs.Joining.{join-end, join-low, join-on, join-start}
use Rattle.conditions.proofs.some_word.Goals as goal

pub loop-rest-init : goal.loop-rest-init
loop-rest-init c = join-start c.ranges.r.fits

pub bounds-cw-c : goal.bounds-cw-c
bounds-cw-c c = slot _ _ 64 _ _ (join-low c.loop-rest.invariant c.loop-rest-test.true) (omega arith) c.requires.1

pub loop-rest-preserved : goal.loop-rest-preserved
loop-rest-preserved c = join-on c.loop-rest.invariant c.loop-rest-test.true (block-word _ _ _ _ (c.type_inv.cw _).fits)

pub returns : goal.returns
unfolding in_some
returns c = join-end c.loop-rest.invariant c.loop-rest-test.false

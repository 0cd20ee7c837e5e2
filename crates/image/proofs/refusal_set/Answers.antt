use Prim.Native.Nat.{◌+◌, ◌*◌}
use native.Mathlib.Omega.{arith}
use lib.Count.{count_trailing_zeros}
use Rattle.truth.proofs.BlockLaws.{slot}
use Rattle.truth.proofs.Sifting.{lowest, sift-next, sift-start}
use Rattle.image.proofs.WordLaws.{refused_end}
use Rattle.conditions.proofs.EntryLaws.{entry-test}
use Rattle.image.proofs.refusal_set.Goals as goal

pub loop-rest-init : goal.loop-rest-init
loop-rest-init c = sift-start c.ranges.a.fits

pub bounds-cw-c : goal.bounds-cw-c
bounds-cw-c c =
    slot _ _ 64 _ _ (lowest 64 _ (omega arith) c.loop-rest.invariant.fits c.loop-rest-test.true).0 (omega (arith, c.requires.0)) c.requires.1

pub loop-rest-preserved : goal.loop-rest-preserved
loop-rest-preserved c =
    sift-next c.loop-rest.invariant c.loop-rest-test.true _ _ (entry-test c.args.w c.args.cw.now (count_trailing_zeros 64 c.loop-rest.rest) c.args.k c.args.b c.requires.2) c.join_if-acc.ensures.0 c.join_if-acc.ensures.1

pub returns : goal.returns
returns c =
    refused_end c.args.w c.args.cw.now c.args.a (c.args.k * 64 + c.args.b) c.loop-rest.invariant c.ranges.a.fits c.loop-rest-test.false

use Prim.Native.Nat.{◌+◌, ◌*◌, ◌<◌}
use native.Mathlib.Omega.{arith}
use lib.Count.{count_trailing_zeros}
use lib.ListN.{length}
use Rattle.truth.specs.Blocks.{has}
use Rattle.truth.proofs.BlockLaws.{slot}
use Rattle.truth.proofs.Joining.{join-low}
use Rattle.image.proofs.Fours.{fours-as, joins-end, joins-on, joins-start, turned_passing, word-here}
use Rattle.image.proofs.narrowing.four.Goals as goal
use Rattle.image.proofs.narrowing.four.Goals.{In-loop-rest}

-- the last of the four words is within the store
within : {g : _} (c : In-loop-rest g) → count_trailing_zeros 64 c.loop-rest.rest * c.args.w + (c.args.k + 3) < length c.args.cw.now
within c = slot _ _ 64 _ _ (join-low c.loop-rest.invariant.first c.loop-rest-test.true) (omega (arith, c.requires.0)) (omega (arith, c.requires.1))

pub loop-rest-init : goal.loop-rest-init
loop-rest-init g c = joins-start c.ranges.r.fits

pub bounds-cw-at : goal.bounds-cw-at
bounds-cw-at g c = omega (arith, within (goal.at.bounds-cw-at g c).In-loop-rest)

pub bounds-cw-at-in-loop-rest : goal.bounds-cw-at-in-loop-rest
bounds-cw-at-in-loop-rest g c = omega (arith, within (goal.at.bounds-cw-at-in-loop-rest g c).In-loop-rest)

pub bounds-cw-at-in-loop-rest-2 : goal.bounds-cw-at-in-loop-rest-2
bounds-cw-at-in-loop-rest-2 g c = omega (arith, within (goal.at.bounds-cw-at-in-loop-rest-2 g c).In-loop-rest)

pub bounds-cw-at-in-loop-rest-3 : goal.bounds-cw-at-in-loop-rest-3
bounds-cw-at-in-loop-rest-3 g c = omega (arith, within (goal.at.bounds-cw-at-in-loop-rest-3 g c).In-loop-rest)

pub loop-rest-preserved : goal.loop-rest-preserved
loop-rest-preserved g c =
    let a = c.args in
    let i = count_trailing_zeros 64 c.loop-rest.rest in
    let here = word-here a.w a.cw.now i in
    joins-on c.loop-rest.invariant c.loop-rest-test.true
    (c.turned-a.ensures (has a.w a.cw.now i) a.k (here a.k (i * a.w + a.k) (omega arith) (c.type_inv.cw _).fits))
    (c.turned-b.ensures (has a.w a.cw.now i) (a.k + 1) (here (a.k + 1) (i * a.w + a.k + 1) (omega arith) (c.type_inv.cw _).fits))
    (c.turned-c.ensures (has a.w a.cw.now i) (a.k + 2) (here (a.k + 2) (i * a.w + a.k + 2) (omega arith) (c.type_inv.cw _).fits))
    (c.turned-d.ensures (has a.w a.cw.now i) (a.k + 3) (here (a.k + 3) (i * a.w + a.k + 3) (omega arith) (c.type_inv.cw _).fits))

pub returns : goal.returns
returns g c = fours-as (turned_passing _ _ _ _) (joins-end c.loop-rest.invariant c.loop-rest-test.false)

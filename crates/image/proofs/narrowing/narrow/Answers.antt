use Prim.Native.Nat.{◌^◌, ◌<◌}
use lib.ListN.{get_or}
use borrow.Author.Rules.{rules}
use Rattle.image.proofs.Fours.{tail-as, tail-end, tail-on, tail-start, tail-stay}
use Rattle.image.proofs.narrowing.narrow.Goals.{then-x-ne0, else-x-ne0}
use Rattle.image.proofs.narrowing.narrow.Goals as goal

pub loop-k-init : goal.loop-k-init
loop-k-init g c = tail-start c.ranges.fours.fits

pub loop-k-preserved : goal.loop-k-preserved
loop-k-preserved g c =
    let s = c.loop-k.invariant in
    let h = c.loop-k-test.true in
    let x : get_or c.loop-k.dst c.loop-k.k 0 < 2 ^ 64 = search rules in
    elim c.if-x-ne0.branch [
      | then-x-ne0 w ↦ tail-as w.dst-is w.any-is (tail-on s h x w.pass_word.ensures)
      | else-x-ne0 w ↦ tail-as w.dst-is w.any-is (tail-stay s h x w.if-x-ne0.false)
    ]

pub returns : goal.returns
returns g c = tail-end c.loop-k.invariant c.loop-k-test.false c.requires.2

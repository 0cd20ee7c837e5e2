use Rattle.naming.proofs.NextLaws.{start-number, start-count, in-hand, next-number, next-count}
use Rattle.booking.proofs.BookLaws.{written_start, written-moved, written_next}
use Rattle.booking.proofs.book_in.Goals as goal

pub loop-n-init : goal.loop-n-init
loop-n-init g c =
    (written-moved (written_start c.requires.places.1) (start-number _ c.first-n.ensures), start-count _ c.first-n.ensures)

pub loop-n-preserved : goal.loop-n-preserved
loop-n-preserved g c =
    let inv = c.loop-n.invariant in
    let written = written_next c.fill_one.new.store inv.0 (in-hand _ inv.1 c.loop-n-test.true) c.fill_one.ensures in
    (written-moved written (next-number _ _ c.advanced-n.ensures c.loop-n-test.true), next-count _ _ c.advanced-n.ensures inv.1)

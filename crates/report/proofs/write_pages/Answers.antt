use mathlib.Core.Path.{sym}
use native.Mathlib.Omega.{arith}
use lib.Seq.{length-take-le}
use Rattle.report.proofs.WriteLaws.{all_lines, last-lines, page-less, page-next, printing-next, printing-start}
use Rattle.report.proofs.write_pages.Goals as goal

pub put_heading-used-requires : goal.put_heading-used-requires
put_heading-used-requires c =
    let q = c.requires.in_bounds in record { space = omega arith; short = q.1 }

pub loop-n-init : goal.loop-n-init
loop-n-init c =
    let heading = c.put_heading-used.ensures in
    printing-start c.requires.prints c.requires.done_value c.requires.in_bounds.0 (heading.put, heading.upper_bound) c.put_heading-used.auto.out c.first-n.ensures

pub fill_page-p-requires : goal.fill_page-p-requires
fill_page-p-requires c =
    let at = c.loop-n.invariant in
    let i = at.counts in
    let j = at.within in
    record { ready = c.requires.ready; places = c.requires.places; judged = at.judged; number_le_count = (omega arith, (at.room, c.requires.in_bounds.1)) }

pub put_verdict-m-requires : goal.put_verdict-m-requires
put_verdict-m-requires c =
    record { space = c.fill_page-p.ensures.room; short = c.requires.in_bounds.1 }

pub overflow_add-namings : goal.overflow_add-namings
overflow_add-namings c =
    let f = c.requires.prints.few-namings in omega arith

pub slice_bounds-write_lines-end : goal.slice_bounds-write_lines-end
slice_bounds-write_lines-end c =
    let r = c.fill_page-p.ensures.room in let k = c.put_verdict-m.auto.out in let l = c.put_verdict-m.ensures.upper_bound in omega arith

pub slice_bounds-write_lines-end-then-namings-next : goal.slice_bounds-write_lines-end-then-namings-next
slice_bounds-write_lines-end-then-namings-next c =
    let r = c.fill_page-p.ensures.room in let k = c.put_verdict-m.auto.out in let l = c.put_verdict-m.ensures.upper_bound in sym (length-take-le _ _ (omega arith))

pub write_lines-requires : goal.write_lines-requires
write_lines-requires c =
    let r = c.fill_page-p.ensures.room in last-lines c.requires.prints c.loop-n.invariant c.fill_page-p.ensures c.if-namings-next.true (omega arith) c.put_verdict-m.ensures.put

pub returns-then-namings-next : goal.returns-then-namings-next
returns-then-namings-next c =
    all_lines c.requires.prints c.write_lines.ensures

pub overflow_add-next : goal.overflow_add-next
overflow_add-next c =
    let f = c.requires.prints.few-namings in let h = c.if-namings-next.false in omega arith

pub slice_bounds-write_lines-end-in-loop-n : goal.slice_bounds-write_lines-end-in-loop-n
slice_bounds-write_lines-end-in-loop-n c =
    let r = c.fill_page-p.ensures.room in omega arith

pub slice_bounds-write_lines-end-in-loop-n-2 : goal.slice_bounds-write_lines-end-in-loop-n-2
slice_bounds-write_lines-end-in-loop-n-2 c =
    let r = c.fill_page-p.ensures.room in sym (length-take-le _ _ (omega arith))

pub write_lines-requires-in-loop-n : goal.write_lines-requires-in-loop-n
write_lines-requires-in-loop-n c =
    page-next c.requires.prints c.loop-n.invariant c.fill_page-p.ensures c.if-namings-next.false

pub loop-n-smaller : goal.loop-n-smaller
loop-n-smaller c =
    let l = page-less c.requires.prints c.loop-n.invariant c.fill_page-p.ensures c.if-namings-next.false in let i = c.loop-n.invariant.counts in let h = c.if-namings-next.false in omega arith

pub loop-n-preserved : goal.loop-n-preserved
loop-n-preserved c =
    let q = c.requires.in_bounds.0 in let k = c.put_heading-used.auto.out in printing-next c.requires.prints c.loop-n.invariant c.fill_page-p.ensures c.if-namings-next.false (omega arith) c.fill_page-p.auto.out c.write_lines-in-loop-n.ensures

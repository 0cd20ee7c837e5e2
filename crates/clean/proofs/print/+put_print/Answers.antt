use Rattle.std.proofs.Common.{ℕ, arith}
use Rattle.clean.proofs.print.+put_print.Goals as goal
use Rattle.clean.proofs.print.+put_print.Goals.{Start}
use Rattle.clean.proofs.PrintPut.{Placing, parts, pre-room, leaf-put, left-room, next-put, left-long, mid-room, right-room, close-room, two-put}

-- what is asked, as one record
placing : {t : ℕ} (s : Start t) → Placing s.args.tab.now s.args.n s.args.words.now s.args.i s.args.at s.args.out.now
placing s = record { ready = s.requires.ready.0; inside = s.requires.ready.1; room = s.requires.i_in_bounds }

pub put_pre-at-requires : goal.put_pre-at-requires
put_pre-at-requires t c =
    let p = placing (goal.at.put_pre-at-requires t c).Start in
    (omega (arith, (parts p).tag), (omega arith, rw c.tag-t.ensures (rw c.arg.ensures (pre-room p))))

pub returns-then-t-lt4 : goal.returns-then-t-lt4
returns-then-t-lt4 t c =
    let p = placing (goal.at.returns-then-t-lt4 t c).Start in
    leaf-put p (rw c.tag-t.ensures at (rw c.arg.ensures at c.put_pre-at.ensures)) (omega arith)

pub put_print-at-requires : goal.put_print-at-requires
put_print-at-requires t c =
    let p = placing (goal.at.put_print-at-requires t c).Start in
    let l = (parts p).left (omega arith) in
    (omega (arith, c.decreases), ((p.ready, omega (arith, p.inside)), rw c.left.ensures (left-room p (rw c.tag-t.ensures at (rw c.arg.ensures at c.put_pre-at.ensures)) (omega arith))))

pub returns-then-t-eq6 : goal.returns-then-t-eq6
returns-then-t-eq6 t c =
    let p = placing (goal.at.returns-then-t-eq6 t c).Start in
    next-put p (rw c.tag-t.ensures at (rw c.arg.ensures at c.put_pre-at.ensures)) (omega arith) (rw c.left.ensures at c.put_print-at.ensures) (omega arith) (omega arith)

pub mid_byte-requires : goal.mid_byte-requires
mid_byte-requires t c =
    let p = placing (goal.at.mid_byte-requires t c).Start in
    (omega arith, (omega (arith, (parts p).tag), (omega arith, omega arith)))

pub bounds-out-at : goal.bounds-out-at
bounds-out-at t c =
    let p = placing (goal.at.bounds-out-at t c).Start in
    omega (arith, mid-room p (rw c.tag-t.ensures at (rw c.arg.ensures at c.put_pre-at.ensures)) (omega arith) (rw c.left.ensures at c.put_print-at.ensures) (omega arith) (omega arith), left-long p (rw c.tag-t.ensures at (rw c.arg.ensures at c.put_pre-at.ensures)) (omega arith) (rw c.left.ensures at c.put_print-at.ensures))

pub put_print-at-requires-2 : goal.put_print-at-requires-2
put_print-at-requires-2 t c =
    let p = placing (goal.at.put_print-at-requires-2 t c).Start in
    let r = (parts p).right (omega arith) in
    (omega (arith, c.decreases), ((p.ready, omega (arith, p.inside)), rw c.right.ensures (right-room p (rw c.tag-t.ensures at (rw c.arg.ensures at c.put_pre-at.ensures)) (omega arith) (rw c.left.ensures at c.put_print-at.ensures) (omega arith) (omega arith) (rw c.tag-t.ensures at c.mid_byte.ensures))))

pub bounds-out-at-2 : goal.bounds-out-at-2
bounds-out-at-2 t c =
    let p = placing (goal.at.bounds-out-at-2 t c).Start in
    close-room p (rw c.tag-t.ensures at (rw c.arg.ensures at c.put_pre-at.ensures)) (omega arith) (rw c.left.ensures at c.put_print-at.ensures) (omega arith) (omega arith) (rw c.tag-t.ensures at c.mid_byte.ensures) (rw c.right.ensures at c.put_print-at-2.ensures)

pub returns : goal.returns
returns t c =
    let p = placing (goal.at.returns t c).Start in
    two-put p (rw c.tag-t.ensures at (rw c.arg.ensures at c.put_pre-at.ensures)) (omega arith) (rw c.left.ensures at c.put_print-at.ensures) (omega arith) (omega arith) (rw c.tag-t.ensures at c.mid_byte.ensures) (rw c.right.ensures at c.put_print-at-2.ensures)

use native.Mathlib.Omega.{arith}
use lib.ListN.{length}
use Rattle.clean.proofs.LineText.{word-all, word-goal, Worded, worded, lined-start, lined-all, lined-next, room-all, room-goal, room-print, room-newline}
use Rattle.clean.proofs.put_lines.Goals as goal
use Rattle.clean.proofs.put_lines.Goals.{Joined-i-places, then-i-places, else-i-places}

word-put : (c : Joined-i-places) → Worded c.loop-i.i (length c.args.places.now) c.loop-i.used c.loop-i.out c.if-i-places.out c.if-i-places.used
word-put c =
    let i = c.loop-i.i in
    let many = length c.args.places.now in
    elim c.if-i-places.branch [
      | then-i-places w ↦ worded w.put-used.ensures w.put-used.auto.out (word-all i many w.if-i-places.true) w.out-is w.used-is
      | else-i-places w ↦ worded w.put-used-else-i-places.ensures w.put-used-else-i-places.auto.out (word-goal i many w.if-i-places.false) w.out-is w.used-is
    ]

pub loop-i-init : goal.loop-i-init
loop-i-init c = lined-start

pub put-used-requires : goal.put-used-requires
put-used-requires c =
    room-all c.requires.places_in_bounds c.loop-i.invariant c.loop-i-test.true c.if-i-places.true

pub put-used-requires-else-i-places : goal.put-used-requires-else-i-places
put-used-requires-else-i-places c =
    room-goal c.requires.places_in_bounds c.loop-i.invariant c.loop-i-test.true c.if-i-places.false

pub offset_bounds-places-i : goal.offset_bounds-places-i
offset_bounds-places-i c = omega arith

pub put_print-used-requires : goal.put_print-used-requires
put_print-used-requires c = record { ready = (c.requires.ready.0, c.requires.ready.1 c.loop-i.i c.loop-i-test.true); i_in_bounds = room-print c.requires.places_in_bounds c.loop-i.invariant c.loop-i-test.true (word-put (goal.at.put_print-used-requires c).Joined-i-places) }

pub bounds-out-used : goal.bounds-out-used
bounds-out-used c =
    room-newline c.requires.places_in_bounds c.loop-i.invariant c.loop-i-test.true (word-put (goal.at.bounds-out-used c).Joined-i-places) c.put_print-used.ensures c.put_print-used.auto.out

pub overflow_add-used : goal.overflow_add-used
overflow_add-used c =
    let k = c.put_print-used.auto.out in
    let w = (word-put (goal.at.overflow_add-used c).Joined-i-places).long in
    let l = c.loop-i.invariant.long in
    let f = c.well_formed.1.1.1.1.0.0 in
    let r = bounds-out-used c in
    omega arith

pub loop-i-preserved : goal.loop-i-preserved
loop-i-preserved c =
    lined-next c.requires.places_in_bounds c.loop-i.invariant c.loop-i-test.true (word-put (goal.at.loop-i-preserved c).Joined-i-places) c.put_print-used.ensures c.put_print-used.auto.out

pub shape_of-out : goal.shape_of-out
shape_of-out c = c.loop-i.invariant.long

pub returns : goal.returns
returns c = lined-all c.loop-i.invariant c.loop-i-test.false

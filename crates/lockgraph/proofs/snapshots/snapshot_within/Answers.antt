-- `snapshot_within` meets its contract. Assumes nothing.
use mathlib.Core.Path.{sym, refl}
use native.Mathlib.Omega.{arith}
use Rattle.std.proofs.Common.{◌≡◌, length, rules}
use lib.Seq.{length-take-le}
use Rattle.outcomes.proofs.SnapshotLaws.{fill-asked, last-few, row-short, snapshot-done, snapshot-means, snapshot-refused, some-formula, text-refused}
use Rattle.lockgraph.proofs.snapshots.snapshot_within.Goals as goal

pub returns-in_err-reading-clause-snapshot_is : goal.returns-in_err-reading-clause-snapshot_is
returns-in_err-reading-clause-snapshot_is c =
    let is = snapshot-refused c.args.l c.args.sheet.now c.args.text.now c.args.row.now _ (sym c.in_err-reading.ensures) in search rules

pub returns-in_err-n-clause-snapshot_is : goal.returns-in_err-n-clause-snapshot_is
returns-in_err-n-clause-snapshot_is c =
    let is = text-refused c.args.l c.in_ok-reading.ensures.0 c.in_ok-reading.ensures.1 _ c.end_of-e.ensures _ _ _ (c.in_err-n.ensures.value, (c.in_err-n.ensures.out_after, c.in_err-n.ensures.few)) c.args.row.now refl in
    search rules

pub returns-in_err-n-clause-snapshot_means : goal.returns-in_err-n-clause-snapshot_means
returns-in_err-n-clause-snapshot_means c =
    let is = text-refused c.args.l c.in_ok-reading.ensures.0 c.in_ok-reading.ensures.1 _ c.end_of-e.ensures _ _ _ (c.in_err-n.ensures.value, (c.in_err-n.ensures.out_after, c.in_err-n.ensures.few)) c.args.row.now refl in
    let means = snapshot-means _ _ _ is in
    search rules

pub returns-then-row-n : goal.returns-then-row-n
returns-then-row-n c =
    let is = row-short c.args.l c.in_ok-reading.ensures.0 c.in_ok-reading.ensures.1 _ c.end_of-e.ensures _ _ _ (c.in_ok-n.ensures.value, (c.in_ok-n.ensures.out_after, c.in_ok-n.ensures.few)) c.args.row.now refl c.if-row-n.true in
    record { snapshot_is = is; snapshot_means = snapshot-means _ _ _ is }

pub overflow_sub-last : goal.overflow_sub-last
overflow_sub-last c = some-formula _ c.in_ok-reading.ensures.0 c.in_ok-reading.ensures.1

pub offset_bounds-places-last : goal.offset_bounds-places-last
offset_bounds-places-last c = let h = last-few _ c.in_ok-reading.ensures.0 c.in_ok-reading.ensures.1 in omega arith

pub bounds-places-last : goal.bounds-places-last
bounds-places-last c = let h = last-few _ c.in_ok-reading.ensures.0 c.in_ok-reading.ensures.1 in omega arith

pub slice_bounds-places-end : goal.slice_bounds-places-end
slice_bounds-places-end c =
    let h = last-few _ c.in_ok-reading.ensures.0 c.in_ok-reading.ensures.1 in let l : length c.in_ok-reading.reading.places ≡ 5 = search rules in omega arith

pub slice_bounds-fill_row-end-3 : goal.slice_bounds-fill_row-end-3
slice_bounds-fill_row-end-3 c =
    let h = last-few _ c.in_ok-reading.ensures.0 c.in_ok-reading.ensures.1 in let l : length c.in_ok-reading.reading.places ≡ 5 = search rules in sym (length-take-le _ _ (omega arith))

pub fill_row-requires : goal.fill_row-requires
fill_row-requires c =
    let p = fill-asked c.args.l c.in_ok-reading.ensures.0 c.in_ok-reading.ensures.1 _ c.end_of-e.ensures _ _ _ (c.in_ok-n.ensures.value, (c.in_ok-n.ensures.out_after, c.in_ok-n.ensures.few)) c.args.row.now refl (search rules) (search rules) (search rules) c.if-row-n.false in
    record { n_bound = p.0; n_in_bounds = p.1 }

pub returns : goal.returns
returns c =
    let is = snapshot-done c.args.l c.in_ok-reading.ensures.0 c.in_ok-reading.ensures.1 _ c.end_of-e.ensures _ _ _ (c.in_ok-n.ensures.value, (c.in_ok-n.ensures.out_after, c.in_ok-n.ensures.few)) c.args.row.now refl (search rules) c.if-row-n.false c.fill_row.ensures in
    record { snapshot_is = is; snapshot_means = snapshot-means _ _ _ is }

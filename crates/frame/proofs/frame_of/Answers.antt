-- `frame_of` meets its contract: what each call asks follows from the reading, and what the calls give is the frame. Assumes nothing.
use native.Mathlib.Omega.{arith}
use Rattle.frame.proofs.FrameLaws.{copy-asks, count-asks, frame-any, frame_is, frame-narrow, names-sought, values-sought}
use Rattle.frame.proofs.frame_of.Goals as goal

pub words_for-w-requires : goal.words_for-w-requires
words_for-w-requires c =
    frame-narrow c.requires

pub overflow_sub-n : goal.overflow_sub-n
overflow_sub-n c =
    frame-any c.requires

pub copy_places-requires : goal.copy_places-requires
copy_places-requires c = let p = copy-asks c.requires in record { n_in_bounds = p.0; by_index = p.1 }

pub kind_places-k-requires : goal.kind_places-k-requires
kind_places-k-requires c =
    (omega arith, names-sought c.requires)

pub kind_places-v-requires : goal.kind_places-v-requires
kind_places-v-requires c =
    (omega arith, values-sought c.requires)

pub count_namings-namings-requires : goal.count_namings-namings-requires
count_namings-namings-requires c =
    count-asks c.requires c.kind_places-k.ensures c.kind_places-v.ensures

pub bounds-places-n : goal.bounds-places-n
bounds-places-n c =
    (let f = frame-any c.requires in omega arith)

pub returns : goal.returns
returns c =
    frame_is c.requires c.kind_places-k.ensures c.kind_places-v.ensures _ c.words_for-w.ensures c.copy_places.ensures c.count_namings-namings.ensures

-- `report_clean` meets its contract. Assumes nothing.
use mathlib.Core.Path.{refl, sym}
use native.Mathlib.Omega.{arith}
use lib.Seq.{length-take-le}
use Rattle.report.proofs.CleanedLaws.{refused-whole, text-whole, text-within}
use Rattle.report.proofs.cleaned.report_clean.Goals as goal

pub slice_bounds-store-end : goal.slice_bounds-store-end
slice_bounds-store-end c =
    let w = text-within c.clean_within.ensures refl c.in-Ok.is in
    let k = c.clean_within.auto.store in
    omega arith

pub slice_bounds-write_text-end : goal.slice_bounds-write_text-end
slice_bounds-write_text-end c =
    let w = text-within c.clean_within.ensures refl c.in-Ok.is in
    let k = c.clean_within.auto.store in
    sym (length-take-le _ _ (omega arith))

pub write_text-requires : goal.write_text-requires
write_text-requires c =
    text-whole c.clean_within.ensures refl c.in-Ok.is

pub slice_bounds-write_text-end-in-Err : goal.slice_bounds-write_text-end-in-Err
slice_bounds-write_text-end-in-Err c =
    let r = c.put_refused-n.ensures.upper_bound in
    let k = c.put_refused-n.auto.out in
    sym (length-take-le _ _ (omega arith))

pub write_text-requires-in-Err : goal.write_text-requires-in-Err
write_text-requires-in-Err c =
    refused-whole c.clean_within.ensures refl c.in-Err.is c.number.ensures c.put_refused-n.ensures.put

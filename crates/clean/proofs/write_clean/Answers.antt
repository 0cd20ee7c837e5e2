-- `clean::write_clean` meets its contract, call by call (WriteLaws). Assumes nothing.
use mathlib.Core.Path.{refl, sym}
use Rattle.std.proofs.Common.{rules}
use lib.Seq.{length-take-le}
use Rattle.reader.proofs.ReadLaws.{words-within}
use Rattle.clean.proofs.WriteLaws.{Given, measure-asked, table-ready, formulas-within, places-few, places-among, front-small, over-lines, over-text, over-store, front-room, lines-room, text-put}
use Rattle.clean.proofs.write_clean.Goals as goal
use Rattle.clean.proofs.write_clean.Goals.{Start}

-- what is known of the reading
given : (c : Start) → Given c.args.sheet.now c.args.r
given c = record {
  read = c.requires.0;
  says = c.requires.1;
  table-long = search rules;
  places-long = search rules;
}

pub slice_bounds-words-end : goal.slice_bounds-words-end
slice_bounds-words-end c =
    words-within c.requires.1

pub slice_bounds-measure-end-3 : goal.slice_bounds-measure-end-3
slice_bounds-measure-end-3 c =
    sym (length-take-le _ _ (words-within c.requires.1))

pub measure-requires : goal.measure-requires
measure-requires c =
    measure-asked (given (goal.at.measure-requires c).Start) _ refl

pub slice_bounds-words-end-2 : goal.slice_bounds-words-end-2
slice_bounds-words-end-2 c =
    words-within c.requires.1

pub slice_bounds-measure_lines-end-3 : goal.slice_bounds-measure_lines-end-3
slice_bounds-measure_lines-end-3 c =
    sym (length-take-le _ _ (words-within c.requires.1))

pub slice_bounds-places-end : goal.slice_bounds-places-end
slice_bounds-places-end c =
    formulas-within (given (goal.at.slice_bounds-places-end c).Start)

pub slice_bounds-measure_lines-end-4 : goal.slice_bounds-measure_lines-end-4
slice_bounds-measure_lines-end-4 c =
    sym (length-take-le _ _ (formulas-within (given (goal.at.slice_bounds-measure_lines-end-4 c).Start)))

pub measure_lines-requires : goal.measure_lines-requires
measure_lines-requires c =
    let g = given (goal.at.measure_lines-requires c).Start in
    record { printable = (c.measure.ensures, places-among g); places_len_bound = (places-few g, front-small g c.third_line-from.ensures) }

pub returns-in_err-size : goal.returns-in_err-size
returns-in_err-size c =
    rw c.from_residual.ensures (over-lines (given (goal.at.returns-in_err-size c).Start) c.third_line-from.ensures c.measure_lines.ensures c.in_err-size.was)

pub returns-then-size-gt1024 : goal.returns-then-size-gt1024
returns-then-size-gt1024 c =
    over-text (given (goal.at.returns-then-size-gt1024 c).Start) c.third_line-from.ensures c.measure_lines.ensures c.in_ok-size.was c.if-size-gt1024.true

pub returns-then-store-size : goal.returns-then-store-size
returns-then-store-size c =
    over-store (given (goal.at.returns-then-store-size c).Start) c.third_line-from.ensures c.measure_lines.ensures c.in_ok-size.was c.if-size-gt1024.false c.if-store-size.true

pub slice_bounds-put-end : goal.slice_bounds-put-end
slice_bounds-put-end c =
    sym (length-take-le _ _ c.third_line-from.ensures.0)

pub put-at-requires : goal.put-at-requires
put-at-requires c =
    front-room (given (goal.at.put-at-requires c).Start) c.third_line-from.ensures c.measure_lines.ensures c.in_ok-size.was c.if-store-size.false

pub slice_bounds-put_lines-end : goal.slice_bounds-put_lines-end
slice_bounds-put_lines-end c =
    sym (given (goal.at.slice_bounds-put_lines-end c).Start).table-long

pub slice_bounds-words-end-3 : goal.slice_bounds-words-end-3
slice_bounds-words-end-3 c =
    words-within c.requires.1

pub slice_bounds-put_lines-end-2 : goal.slice_bounds-put_lines-end-2
slice_bounds-put_lines-end-2 c =
    sym (length-take-le _ _ (words-within c.requires.1))

pub slice_bounds-places-end-2 : goal.slice_bounds-places-end-2
slice_bounds-places-end-2 c =
    formulas-within (given (goal.at.slice_bounds-places-end-2 c).Start)

pub slice_bounds-put_lines-end-3 : goal.slice_bounds-put_lines-end-3
slice_bounds-put_lines-end-3 c =
    sym (length-take-le _ _ (formulas-within (given (goal.at.slice_bounds-put_lines-end-3 c).Start)))

pub put_lines-requires : goal.put_lines-requires
put_lines-requires c =
    let g = given (goal.at.put_lines-requires c).Start in
    record { ready = (table-ready g, places-among g); places_in_bounds = lines-room g c.third_line-from.ensures c.measure_lines.ensures c.in_ok-size.was c.put-at.ensures c.if-store-size.false c.put-at.auto.out }

pub returns : goal.returns
returns c =
    text-put (given (goal.at.returns c).Start) c.third_line-from.ensures c.measure_lines.ensures c.in_ok-size.was c.put-at.ensures c.if-store-size.false c.if-size-gt1024.false c.put_lines.ensures

-- `read_in` meets its contract, a return for each refusal, and one for a sheet that has none. Assumes nothing.
use Rattle.std.specs.Prelude.{replicate}
use Rattle.reader.proofs.ReadLaws.{refused-read, lines-within, closes, refused-beyond, refused-many, still-few, kinds-within, symbols-within, words-line, values-ask, leans, refused-crowded, refused-wide, accepted-is}
use mathlib.Core.Path.{refl, sym}
use lib.Seq.{length-take-le}
use Rattle.reader.proofs.read_in.Goals as goal

pub returns-in_err-sheet : goal.returns-in_err-sheet
returns-in_err-sheet c = refused-read _ _ _ _ c.from_residual.result c.from_residual.ensures c.in_err-sheet.ensures

pub slice_bounds-roots-end : goal.slice_bounds-roots-end
slice_bounds-roots-end c =
    lines-within c.in_ok-sheet.ensures (still-few c.read_sheet.auto.tab c.requires.nodes_nonzero.0) c.roots_of-roots.ensures

pub slice_bounds-close-end : goal.slice_bounds-close-end
slice_bounds-close-end c =
    sym (length-take-le _ _ (lines-within c.in_ok-sheet.ensures (still-few c.read_sheet.auto.tab c.requires.nodes_nonzero.0) c.roots_of-roots.ensures))

pub close-requires : goal.close-requires
close-requires c =
    closes c.in_ok-sheet.ensures (still-few c.read_sheet.auto.tab c.requires.nodes_nonzero.0) c.roots_of-roots.ensures refl refl

pub returns-in_default : goal.returns-in_default
returns-in_default c =
    refused-beyond c.in_ok-sheet.ensures (still-few c.read_sheet.auto.tab c.requires.nodes_nonzero.0) c.roots_of-roots.ensures c.requires.most_bound.0 refl c.close.ensures _ c.in_default.is

pub returns-then-most-closed : goal.returns-then-most-closed
returns-then-most-closed c =
    refused-many c.in_ok-sheet.ensures (still-few c.read_sheet.auto.tab c.requires.nodes_nonzero.0) c.roots_of-roots.ensures c.requires.most_bound.0 refl c.close.ensures c.in-Some.is _ c.if-most-closed.true

pub slice_bounds-kinds-end : goal.slice_bounds-kinds-end
slice_bounds-kinds-end c =
    kinds-within c.in_ok-sheet.ensures (still-few c.read_sheet.auto.tab c.requires.nodes_nonzero.0)

pub slice_bounds-with_values-end : goal.slice_bounds-with_values-end
slice_bounds-with_values-end c =
    sym (length-take-le _ _ (kinds-within c.in_ok-sheet.ensures (still-few c.read_sheet.auto.tab c.requires.nodes_nonzero.0)))

pub with_values-count-requires : goal.with_values-count-requires
with_values-count-requires c =
    values-ask c.in_ok-sheet.ensures (still-few c.read_sheet.auto.tab c.requires.nodes_nonzero.0) c.roots_of-roots.ensures c.requires.most_bound.0 refl c.close.ensures c.in-Some.is c.if-most-closed.false c.requires.most_bound.1

pub slice_bounds-words-end : goal.slice_bounds-words-end
slice_bounds-words-end c =
    symbols-within c.in_ok-sheet.ensures (still-few c.read_sheet.auto.tab c.requires.nodes_nonzero.0)

pub slice_bounds-lean_of-end-2 : goal.slice_bounds-lean_of-end-2
slice_bounds-lean_of-end-2 c =
    sym (length-take-le _ _ (symbols-within c.in_ok-sheet.ensures (still-few c.read_sheet.auto.tab c.requires.nodes_nonzero.0)))

pub lean_of-requires : goal.lean_of-requires
lean_of-requires c =
    leans c.in_ok-sheet.ensures (still-few c.read_sheet.auto.tab c.requires.nodes_nonzero.0) c.roots_of-roots.ensures c.requires.most_bound.0 refl c.close.ensures c.in-Some.is c.if-most-closed.false c.requires.most_bound.1 c.with_values-count.ensures (words-line c.in_ok-sheet.ensures (still-few c.read_sheet.auto.tab c.requires.nodes_nonzero.0))

pub shape_of-nodes-in_default-lean_of : goal.shape_of-nodes-in_default-lean_of
shape_of-nodes-in_default-lean_of c =
    c.read_sheet.auto.tab

pub returns-in_default-lean_of : goal.returns-in_default-lean_of
returns-in_default-lean_of c =
    refused-crowded c.in_ok-sheet.ensures (still-few c.read_sheet.auto.tab c.requires.nodes_nonzero.0) c.roots_of-roots.ensures c.requires.most_bound.0 refl c.close.ensures c.in-Some.is c.if-most-closed.false c.requires.most_bound.1 c.with_values-count.ensures (words-line c.in_ok-sheet.ensures (still-few c.read_sheet.auto.tab c.requires.nodes_nonzero.0)) (replicate 12 0) c.lean_of.new.lean refl _ c.lean_of.ensures c.in_default-lean_of.is

pub shape_of-nodes-then-wide-width : goal.shape_of-nodes-then-wide-width
shape_of-nodes-then-wide-width c =
    c.read_sheet.auto.tab

pub returns-then-wide-width : goal.returns-then-wide-width
returns-then-wide-width c =
    refused-wide c.in_ok-sheet.ensures (still-few c.read_sheet.auto.tab c.requires.nodes_nonzero.0) c.roots_of-roots.ensures c.requires.most_bound.0 refl c.close.ensures c.in-Some.is c.if-most-closed.false c.requires.most_bound.1 c.with_values-count.ensures (words-line c.in_ok-sheet.ensures (still-few c.read_sheet.auto.tab c.requires.nodes_nonzero.0)) (replicate 12 0) c.lean_of.new.lean refl _ c.lean_of.ensures c.in-Some-lean_of.is c.if-wide-width.true

pub returns : goal.returns
returns c =
    accepted-is c.in_ok-sheet.ensures (still-few c.read_sheet.auto.tab c.requires.nodes_nonzero.0) c.roots_of-roots.ensures c.requires.most_bound.0 refl c.close.ensures c.in-Some.is c.if-most-closed.false c.requires.most_bound.1 c.with_values-count.ensures (words-line c.in_ok-sheet.ensures (still-few c.read_sheet.auto.tab c.requires.nodes_nonzero.0)) (replicate 12 0) c.lean_of.new.lean refl _ c.lean_of.ensures c.in-Some-lean_of.is c.if-wide-width.false

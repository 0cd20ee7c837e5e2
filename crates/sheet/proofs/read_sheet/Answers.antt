-- `sheet::read_sheet` meets its contract. Assumes nothing.
use native.Mathlib.Omega.{arith}
use Rattle.sheet.proofs.SheetLaws.{sheet-refused, sheet-low, sheet-right, texts-few}
use Rattle.sheet.proofs.read_sheet.Goals as goal

pub returns-in_err-symbols : goal.returns-in_err-symbols
returns-in_err-symbols c = sheet-refused _ _ _ c.from_residual.result c.from_residual.ensures c.in_err-symbols.ensures

pub read_formulas-low-requires : goal.read_formulas-low-requires
read_formulas-low-requires c =
    let x = c.in_ok-symbols.ensures in
    (c.requires.1 x.1.short, (c.requires.0, texts-few _ c.args.tab.now _ x))

pub returns-in-6 : goal.returns-in-6
returns-in-6 c = sheet-low _ _ _ c.in_ok-symbols.ensures _ c.read_formulas-low.ensures 6 (omega arith) c.in-6.is

pub returns-in-7 : goal.returns-in-7
returns-in-7 c = sheet-low _ _ _ c.in_ok-symbols.ensures _ c.read_formulas-low.ensures 7 (omega arith) c.in-7.is

pub returns-in-8 : goal.returns-in-8
returns-in-8 c = sheet-low _ _ _ c.in_ok-symbols.ensures _ c.read_formulas-low.ensures 8 (omega arith) c.in-8.is

pub returns : goal.returns
returns c = let d = c.in_default in sheet-right _ _ _ c.in_ok-symbols.ensures _ c.read_formulas-low.ensures (omega arith) (omega arith) (omega arith)

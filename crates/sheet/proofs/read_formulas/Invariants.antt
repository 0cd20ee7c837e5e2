-- `sheet::read_formulas` meets its contract. Assumes nothing.
use Rattle.sheet.proofs.FormulaLaws.{Going}
use Rattle.layout.specs.Layout.{lines_from, texts_of}
use lib.ListN.{length}
use Prim.Native.Nat.{◌≤◌, ◌-◌}
use mathlib.Core.Path.{◌≡◌}
use Rattle.sheet.proofs.read_formulas.Given as goal

abbrev pub invariant-loop-at : goal.invariant-loop-at
invariant-loop-at l = ((l.n ≤ l.at) × (l.n ≤ length l.s)) × ((length l.tab ≡ length l.initial.tab) × ((length l.ends ≡ 5) × Going l.decl (texts_of (lines_from l.s l.from)) (texts_of (lines_from l.s l.at)) l.low l.k l.n l.ends l.tab))

abbrev pub decreases-loop-at : goal.decreases-loop-at
decreases-loop-at l = length l.s - l.at

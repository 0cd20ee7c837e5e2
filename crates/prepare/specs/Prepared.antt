-- The member table, the lean, the kinds and the tableau of a sheet that was read. Assumes nothing.
use Rattle.std.specs.Prelude.{List, ℕ, take}
use Rattle.ctl.specs.Tableau.{Tableau}
use Rattle.ctl.specs.Demand3.{sheet_tableau}
use Rattle.sheet.specs.Reading.{formulas, globals_of, goal_of, is_name, spell_of, values_in}
use Rattle.reader.specs.declared.Reading.{Reading}

abbrev pub table_of : Reading → List ℕ
table_of r = take r.count r.members

abbrev pub lean_of : Reading → List ℕ
lean_of r = take r.width r.lean

-- the symbols' kinds
abbrev pub kinds_of : Reading → List ℕ
kinds_of r = take r.symbols r.kinds

abbrev pub tableau_in : List ℕ → Tableau
tableau_in s = sheet_tableau (spell_of s) (is_name s) (values_in s) (globals_of (formulas s)) (goal_of (formulas s))

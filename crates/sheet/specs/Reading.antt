-- What a sheet says that is not refused: its globals and its goal as typed, a symbol's spelling, whether it is a name, and the declared values. Assumes nothing.
use Rattle.std.specs.Prelude.{Bool, List, [], ◌∷◌, ℕ, length, get_or, eqb}
use Rattle.ctl.specs.Raw.{Raw}
use Rattle.ctl.specs.Snapshot.{values_of}
use Rattle.head.specs.Head.{spellings, kinds}
use Rattle.layout.specs.Layout.{texts}
use Rattle.sheet.specs.Refusal.{decls}
use Rattle.sheet.specs.Sheet.{trees}

-- all formulas but the last, and the last
unfoldable pub globals_of : List Raw → List Raw
globals_of [] = []
globals_of (p ∷ []) = []
globals_of (p ∷ q ∷ r) = p ∷ globals_of (q ∷ r)

unfoldable pub goal_of : List Raw → Raw
goal_of [] = Raw.one
goal_of (p ∷ []) = p
goal_of (p ∷ q ∷ r) = goal_of (q ∷ r)

-- the formulas of a sheet, in its order: the globals, then the goal
abbrev pub formulas : List ℕ → List Raw
formulas s = trees (decls s) (texts s)

-- a symbol's spelling; whether a symbol is a name (kinds: 1 mark, 2 name, 3 field, 4 value); the declared values, in line 1 order
abbrev pub spell_of : List ℕ → ℕ → List ℕ
spell_of s k = get_or (spellings s) k []

abbrev pub is_name : List ℕ → ℕ → Bool
is_name s k = eqb (get_or (kinds s) k 0) 2

abbrev pub values_in : List ℕ → List ℕ
values_in s = values_of (λ k. eqb (get_or (kinds s) k 0) 4) (length (kinds s))

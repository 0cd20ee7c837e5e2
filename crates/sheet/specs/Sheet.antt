-- The formulas of a sheet, and the refusals 1 to 8. Assumes nothing: these are definitions.
use Rattle.std.specs.Prelude.{◌≡◌, cond, List, [], ◌∷◌, ◌++◌, map, ℕ, ◌+◌, ◌-◌, ◌≤◌, ◌<◌, min, length, take, ltb, eqb, Result, Ok, Err}
use Rattle.refusal.specs.declared.Refusal.{Refusal}
use Rattle.refusal.specs.Number.{number_of}
use Rattle.syntax.specs.Raw.{Raw, size, nodes, Wrote, At}
use Rattle.syntax.specs.Parse.{Out, good, bad}
use Rattle.sheet.specs.Refusal.{decls, read}
use Rattle.layout.specs.Layout.{texts, goal_of}
use Rattle.head.specs.Head.{spellings, kinds, layout_refusal}
use Rattle.spelling.specs.Spelling.{word}
use Rattle.sheet.specs.declared.One.{One}
use Rattle.sheet.specs.declared.Formulas.{Formulas}
use Rattle.sheet.specs.declared.Sheet.{Sheet}

-- the refusal that a reading found
unfoldable pub found_refusal : ℕ → ℕ
found_refusal low = cond (eqb low 7) 7 (cond (eqb low 8) 8 9)

-- a formula's refusal: 6 where it does not parse, else the lowest of 7 and 8 that applies to it, 9 where none does
unfoldable pub line_refusal : Out → ℕ
line_refusal bad = 6
line_refusal (good p e low) = found_refusal low

-- the lowest of a number and the refusals of formulas
unfoldable pub lowest : ℕ → List ℕ → List (List ℕ) → ℕ
lowest low decl [] = low
lowest low decl (t ∷ ts) = lowest (min low (line_refusal (read decl t))) decl ts

-- the lowest of the refusals 6 to 8 over all formulas, 9 where none applies
abbrev pub formula_refusal : List ℕ → ℕ
formula_refusal s = lowest 9 (decls s) (texts s)

-- the lowest of the refusals 1 to 8 that applies, over the whole sheet; 0 where none does
unfoldable pub sheet_refusal : List ℕ → ℕ
sheet_refusal s = cond (eqb (layout_refusal s) 0) (cond (ltb (formula_refusal s) 9) (formula_refusal s) 0) (layout_refusal s)

-- ---- the formulas
abbrev pub tree_of : Out → List Raw
tree_of bad = []
tree_of (good p e low) = p ∷ []

-- the formulas of texts: globals, then the goal
unfoldable pub trees : List ℕ → List (List ℕ) → List Raw
trees decl [] = []
trees decl (t ∷ ts) = tree_of (read decl t) ++ trees decl ts

-- their nodes, one formula after the other, behind those of a table
unfoldable pub nodes_from : List ℕ → List Raw → List ℕ
nodes_from ns [] = ns
nodes_from ns (p ∷ ps) = nodes_from (ns ++ nodes (length ns) p) ps

-- the place after each formula's own node, behind those given; n nodes stand before
unfoldable pub ends_from : List ℕ → ℕ → List Raw → List ℕ
ends_from es n [] = es
ends_from es n (p ∷ ps) = ends_from (es ++ ((n + size p) ∷ [])) (n + size p) ps

-- ---- what the readers answer
-- one formula: the table's nodes after it, where it parses
abbrev pub Left : Out → ℕ → ℕ → List ℕ → List ℕ → Type 0
Left bad n m tab tab' = Unit {0}
Left (good p e low) n m tab tab' = (m ≡ n + size p) × Wrote n m (nodes n p) tab tab'

pub record OneRead (t decl : List ℕ) (n : ℕ) (tab tab' : List ℕ) (r : One) : Type 0 where
  pub low-is : r.low ≡ line_refusal (read decl t)
  pub left : Left (read decl t) n r.count tab tab'
  pub bound : r.count ≤ n + length t

-- the texts ts
pub record Stored (decl : List ℕ) (ts : List (List ℕ)) (k n : ℕ) (ends tab : List ℕ) : Type 0 where
  pub inside : n ≤ length tab
  pub nodes-are : take n tab ≡ nodes_from [] (trees decl ts)
  pub ends-are : take k ends ≡ ends_from [] 0 (trees decl ts)

pub record FormulasRead (decl : List ℕ) (ts : List (List ℕ)) (tab' : List ℕ) (r : Formulas) : Type 0 where
  pub low-is : r.low ≡ lowest 9 decl ts
  pub lines : r.lines ≡ length ts
  pub then : 6 < r.low → Stored decl ts r.lines r.count r.ends tab'

-- a sheet that is not refused
pub record Right (s tab' : List ℕ) (r : Sheet) : Type 0 where
  pub symbols : r.symbols ≡ length (spellings s)
  pub words_are : take r.symbols r.words ≡ map word (spellings s)
  pub kinds-are : take r.symbols r.kinds ≡ kinds s
  pub lines : r.lines ≡ length (texts s)
  pub stored : Stored (decls s) (texts s) r.lines r.count r.ends tab'

-- what the reader of sheets answers: the sheet, or the lowest of the refusals 1 to 8
abbrev pub SheetRead : List ℕ → List ℕ → Result Sheet Refusal → Type 0
SheetRead s tab' (Ok r) = (sheet_refusal s ≡ 0) × Right s tab' r
SheetRead s tab' (Err e) = sheet_refusal s ≡ number_of e

-- the goal's text under a refusal, 0 for none: empty with a refusal
unfoldable pub goal_under : List ℕ → ℕ → List ℕ
goal_under s k = cond (eqb k 0) (goal_of s) []

-- and where it begins: it ends before the final newline; an empty part is the one at the beginning
unfoldable pub goal_start : List ℕ → ℕ → ℕ
goal_start s k = cond (eqb k 0) (length s - 1 - length (goal_of s)) 0

-- ---- formulas in a table
-- the place after each formula's own node
unfoldable pub ends_of : ℕ → List Raw → List ℕ
ends_of n [] = []
ends_of n (p ∷ ps) = (n + size p) ∷ ends_of (n + size p) ps

-- each formula stands in a table, its own node before the given end
unfoldable pub Placed : List ℕ → List Raw → List ℕ → Type 0
Placed tab [] es = Unit {0}
Placed tab (p ∷ ps) [] = ⊥
Placed tab (p ∷ ps) (e ∷ es) = At tab p (e - 1) × Placed tab ps es

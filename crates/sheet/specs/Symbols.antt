-- The kinds of a sheet's symbols, and formulas that keep to them: marks, names and values outside braces, fields in braces. Assumes nothing.
use Rattle.std.specs.Prelude.{◌≡◌, ◌⊎◌, List, [], ℕ, ◌%◌, ◌^◌, ◌<◌, length, get_or}
use Rattle.ctl.specs.Lists.{◌∈◌}
use Rattle.ctl.specs.Formula.{Form}
use Rattle.ctl.specs.Raw.{Raw}
use Rattle.ctl.specs.Modes.{modes}
use Rattle.ctl.specs.Alphabet.{Uses, UsesRaw}
use Rattle.head.specs.Head.{spellings, kinds}
use Rattle.spelling.specs.Spelling.{word}

module _ (s : List ℕ) where
  -- the spelling whose number is k is declared on line 1 as symbol j
  abbrev pub DeclaredAs : ℕ → ℕ → Type 0
  DeclaredAs k j = (j < length (spellings s)) × (word (get_or (spellings s) j []) ≡ k)

  -- symbol j is declared, on line 2 as a mark (kind 1), a name (2) or a value (4): an atomic proposition; or as a field (3)
  abbrev pub Proposition : ℕ → Type 0
  Proposition j = (j < length (spellings s)) × ((get_or (kinds s) j 0 ≡ 1) ⊎ ((get_or (kinds s) j 0 ≡ 2) ⊎ (get_or (kinds s) j 0 ≡ 4)))

  abbrev pub Field : ℕ → Type 0
  Field j = (j < length (spellings s)) × (get_or (kinds s) j 0 ≡ 3)

  -- a set of modes that is not empty, each of which goes along a field: mode m along symbol m % 8
  pub record Fields (A : ℕ) : Type 0 where
    pub some : 0 < A
    pub sixteen : A < 2 ^ 16
    pub each : (m : ℕ) → m ∈ modes A → Field (m % 8)

  -- a formula as typed, and a positive one, has only marks, names and values outside braces, and only fields in braces
  abbrev pub Kinded : Raw → Type 0
  Kinded p = UsesRaw Proposition Fields p

  abbrev pub KindedForm : Form → Type 0
  KindedForm p = Uses Proposition Fields p

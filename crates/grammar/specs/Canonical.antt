-- Positive formulas as typed ones, and what the declarations must say for their canonical prints to be read. Assumes nothing: these are definitions.
use Rattle.std.specs.Prelude.{◌≡◌, List, ℕ, ◌+◌, ◌%◌, ◌<◌}
use Rattle.spelling.specs.Spelling.{word, entry_in}
use Rattle.ctl.specs.Formula.{Form, tru, fls, lit, nlit, and, or, ex, ax, eu, au, er, ar}
use Rattle.ctl.specs.Lists.{◌∈◌}
use Rattle.ctl.specs.Modes.{modes}
use Rattle.ctl.specs.Alphabet.{Uses}
use Rattle.syntax.specs.Raw.{Raw}

-- a positive formula as a typed one
abbrev pub as_raw : Form → Raw
as_raw tru = Raw.one
as_raw fls = Raw.zero
as_raw (lit k) = Raw.sym k
as_raw (nlit k) = Raw.neg (Raw.sym k)
as_raw (and p q) = Raw.and (as_raw p) (as_raw q)
as_raw (or p q) = Raw.or (as_raw p) (as_raw q)
as_raw (ex A p) = Raw.ex A (as_raw p)
as_raw (ax A p) = Raw.ax A (as_raw p)
as_raw (eu A p q) = Raw.eu A (as_raw p) (as_raw q)
as_raw (au A p q) = Raw.au A (as_raw p) (as_raw q)
as_raw (er A p q) = Raw.er A (as_raw p) (as_raw q)
as_raw (ar A p q) = Raw.ar A (as_raw p) (as_raw q)

-- `spell` gives each symbol's spelling, `decl` are declarations
module _ (spell : ℕ → List ℕ) (decl : List ℕ) where
  -- the entry of symbol k's spelling
  abbrev pub entry_for : ℕ → ℕ
  entry_for k = entry_in decl (word (spell k))

  -- a set of modes is not empty, and the fields of its modes are declared as fields: mode m goes along the field m % 8
  abbrev pub FieldsKnown : ℕ → Type 0
  FieldsKnown A = (0 < A) × ((m : ℕ) → m ∈ modes A → entry_for (m % 8) ≡ 9 + m % 8)

  -- each symbol of a formula is declared as a mark or a name, each field of its modes as a field, and no set of modes is empty
  abbrev pub Known : Form → Type 0
  Known p = Uses (λ k. entry_for k ≡ 1 + k) FieldsKnown p

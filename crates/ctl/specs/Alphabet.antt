-- The spellings of line 1's symbols, and formulas over the symbols. Assumes nothing.
use Rattle.std.specs.Prelude.{◌≡◌, ◌⊎◌, List, ℕ, ◌+◌, ◌^◌, ◌≤◌, ◌<◌, length}
use Rattle.ctl.specs.Lists.{◌∈◌}
use Rattle.ctl.specs.Formula.{Form, tru, fls, lit, nlit, and, or, ex, ax, eu, au, er, ar}
use Rattle.ctl.specs.Modes.{modes}
use Rattle.ctl.specs.Raw.{Raw}

-- a spelling: 1 to 8 lower-case letters
pub record Spelling (w : List ℕ) : Type 0 where
  pub some : 0 < length w
  pub short : length w ≤ 8
  pub letters : (b : ℕ) → b ∈ w → (97 ≤ b) × (b ≤ 122)

-- `spell` gives `count` different spellings
pub record Alphabet (spell : ℕ → List ℕ) (count : ℕ) : Type 0 where
  pub few : count ≤ 8
  pub spelled : (k : ℕ) → k < count → Spelling (spell k)
  pub different : (j k : ℕ) → j < count → k < count → spell j ≡ spell k → j ≡ k

-- The symbols outside braces and the sets of modes that a formula has: S holds of each symbol, M of each set
module _ (S M : ℕ → Type 0) where
  abbrev pub Uses : Form → Type 0
  Uses tru = Unit {0}
  Uses fls = Unit {0}
  Uses (lit k) = S k
  Uses (nlit k) = S k
  Uses (and p q) = Uses p × Uses q
  Uses (or p q) = Uses p × Uses q
  Uses (ex A p) = M A × Uses p
  Uses (ax A p) = M A × Uses p
  Uses (eu A p q) = M A × Uses p × Uses q
  Uses (au A p q) = M A × Uses p × Uses q
  Uses (er A p q) = M A × Uses p × Uses q
  Uses (ar A p q) = M A × Uses p × Uses q

  -- the same of a formula as typed
  abbrev pub UsesRaw : Raw → Type 0
  UsesRaw Raw.zero = Unit {0}
  UsesRaw Raw.one = Unit {0}
  UsesRaw (Raw.sym k) = S k
  UsesRaw (Raw.neg p) = UsesRaw p
  UsesRaw (Raw.and p q) = UsesRaw p × UsesRaw q
  UsesRaw (Raw.or p q) = UsesRaw p × UsesRaw q
  UsesRaw (Raw.imp p q) = UsesRaw p × UsesRaw q
  UsesRaw (Raw.ex A p) = M A × UsesRaw p
  UsesRaw (Raw.ax A p) = M A × UsesRaw p
  UsesRaw (Raw.ef A p) = M A × UsesRaw p
  UsesRaw (Raw.af A p) = M A × UsesRaw p
  UsesRaw (Raw.eg A p) = M A × UsesRaw p
  UsesRaw (Raw.ag A p) = M A × UsesRaw p
  UsesRaw (Raw.eu A p q) = M A × UsesRaw p × UsesRaw q
  UsesRaw (Raw.au A p q) = M A × UsesRaw p × UsesRaw q
  UsesRaw (Raw.er A p q) = M A × UsesRaw p × UsesRaw q
  UsesRaw (Raw.ar A p q) = M A × UsesRaw p × UsesRaw q

module _ (count : ℕ) where
  -- the field of a mode is declared
  abbrev pub Declared : ℕ → Type 0
  Declared m = (m < count) ⊎ ((8 ≤ m) × (m < 8 + count))

  -- so are the fields of a set of modes
  abbrev pub DeclaredAll : ℕ → Type 0
  DeclaredAll A = (A < 2 ^ 16) × ((m : ℕ) → m ∈ modes A → Declared m)

  -- all symbols and fields of a formula are declared
  abbrev pub Over : Form → Type 0
  Over p = Uses (λ k. k < count) DeclaredAll p

  abbrev pub OverRaw : Raw → Type 0
  OverRaw p = UsesRaw (λ k. k < count) DeclaredAll p

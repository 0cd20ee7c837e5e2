-- The print and the lean of document 01, by letters: what request §1 is compared with. Nothing but proofs/FormerLaws cites it. Assumes nothing.
use Rattle.std.specs.Prelude.{Bool, true, false, ◌&&◌, ◌||◌, ℕ, ◌-◌, length, eqb}
use mathlib.Core.List.{List, [], ◌∷◌, ◌++◌, map}
use Rattle.std.proofs.Math.Dec.{ltb}
use Rattle.ctl.specs.Lists.{keep}
use Rattle.ctl.specs.Sorting.{sort}
use Rattle.ctl.specs.Formula.{Form, tru, fls, lit, nlit, and, or, ex, ax, eu, au, er, ar}
use Rattle.ctl.specs.Modes.{modes}
use Rattle.ctl.specs.Raw.{Raw}
use Rattle.ctl.specs.Positive.{positive, signed}
use Rattle.ctl.specs.Closure.{closure}
use Rattle.ctl.specs.Lean.{bytes_lt, symbol_lt, is_letter, is_next}
use Rattle.ctl.specs.Tableau.{Tableau}

-- `letter` gives each symbol's letter
module _ (letter : ℕ → ℕ) where
  -- a field's letter goes forward, its capital backward
  unfoldable pub former_mode : ℕ → ℕ
  former_mode m = elim (ltb m 8) [ true ↦ letter m | false ↦ letter (m - 8) - 32 ]

  -- modes with commas between
  unfoldable pub former_modes : List ℕ → List ℕ
  unfolding former_mode
  former_modes [] = []
  former_modes (m ∷ []) = former_mode m ∷ []
  former_modes (m ∷ (k ∷ r)) = former_mode m ∷ 44 ∷ former_modes (k ∷ r)

  unfoldable pub former_braces : ℕ → List ℕ
  unfolding former_modes modes
  former_braces A = 123 ∷ (former_modes (modes A) ++ (125 ∷ []))

  unfoldable pub former_print : Form → List ℕ
  unfolding former_braces
  former_print tru = 49 ∷ []
  former_print fls = 48 ∷ []
  former_print (lit k) = letter k ∷ []
  former_print (nlit k) = 33 ∷ letter k ∷ []
  former_print (and p q) = 40 ∷ (former_print p ++ (38 ∷ (former_print q ++ (41 ∷ []))))
  former_print (or p q) = 40 ∷ (former_print p ++ (124 ∷ (former_print q ++ (41 ∷ []))))
  former_print (ex A p) = 69 ∷ 88 ∷ (former_braces A ++ former_print p)
  former_print (ax A p) = 65 ∷ 88 ∷ (former_braces A ++ former_print p)
  former_print (eu A p q) = 69 ∷ (former_braces A ++ (40 ∷ (former_print p ++ (85 ∷ (former_print q ++ (41 ∷ []))))))
  former_print (au A p q) = 65 ∷ (former_braces A ++ (40 ∷ (former_print p ++ (85 ∷ (former_print q ++ (41 ∷ []))))))
  former_print (er A p q) = 69 ∷ (former_braces A ++ (40 ∷ (former_print p ++ (82 ∷ (former_print q ++ (41 ∷ []))))))
  former_print (ar A p q) = 65 ∷ (former_braces A ++ (40 ∷ (former_print p ++ (82 ∷ (former_print q ++ (41 ∷ []))))))

  -- shorter print first, then byte order
  unfoldable pub former_lt : Form → Form → Bool
  unfolding bytes_lt former_print
  former_lt p q = let a = former_print p in let b = former_print q in ltb (length a) (length b) || (eqb (length a) (length b) && bytes_lt a b)

  unfoldable pub former_lean : List Form → List Form
  unfolding is_next sort symbol_lt former_lt
  former_lean cl = sort symbol_lt (keep is_letter cl) ++ sort former_lt (keep is_next cl)

  -- the tableau of a sheet with one goal
  unfoldable pub former_tableau : (ℕ → Bool) → List Raw → Raw → Tableau
  unfolding former_lean closure signed
  former_tableau name globals goal =
      let c = closure (map positive globals ++ (positive goal ∷ [])) in
      record { cl = c; ln = former_lean c; name = name; values = []; globals = map positive globals }

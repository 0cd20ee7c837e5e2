-- The canonical print of a formula, as bytes. Assumes nothing.
use Rattle.std.proofs.Math.Bool.{true, false}
use mathlib.Core.List.{List, [], ◌∷◌, ◌++◌}
use Rattle.std.specs.Prelude.{ℕ, ◌-◌, ltb}
use Rattle.ctl.specs.Formula.{Form, tru, fls, lit, nlit, and, or, ex, ax, eu, au, er, ar}
use Rattle.ctl.specs.Modes.{modes}

-- a spelling with its first letter in capital
unfoldable pub capital : List ℕ → List ℕ
capital [] = []
capital (b ∷ r) = (b - 32) ∷ r

-- `spell` gives each symbol's spelling
module _ (spell : ℕ → List ℕ) where
  -- a field's spelling goes forward; with its first letter in capital, backward
  unfoldable pub print_mode : ℕ → List ℕ
  unfolding capital
  print_mode m = elim (ltb m 8) [ true ↦ spell m | false ↦ capital (spell (m - 8)) ]

  -- modes with commas between
  unfoldable pub print_modes : List ℕ → List ℕ
  unfolding print_mode
  print_modes [] = []
  print_modes (m ∷ []) = print_mode m
  print_modes (m ∷ (k ∷ r)) = print_mode m ++ (44 ∷ print_modes (k ∷ r))

  unfoldable pub braces : ℕ → List ℕ
  unfolding print_modes modes
  braces A = 123 ∷ (print_modes (modes A) ++ (125 ∷ []))

  unfoldable pub print : Form → List ℕ
  unfolding braces
  print tru = 49 ∷ []
  print fls = 48 ∷ []
  print (lit k) = spell k
  print (nlit k) = 33 ∷ spell k
  print (and p q) = 40 ∷ (print p ++ (38 ∷ (print q ++ (41 ∷ []))))
  print (or p q) = 40 ∷ (print p ++ (124 ∷ (print q ++ (41 ∷ []))))
  print (ex A p) = 69 ∷ 88 ∷ (braces A ++ print p)
  print (ax A p) = 65 ∷ 88 ∷ (braces A ++ print p)
  print (eu A p q) = 69 ∷ (braces A ++ (40 ∷ (print p ++ (85 ∷ (print q ++ (41 ∷ []))))))
  print (au A p q) = 65 ∷ (braces A ++ (40 ∷ (print p ++ (85 ∷ (print q ++ (41 ∷ []))))))
  print (er A p q) = 69 ∷ (braces A ++ (40 ∷ (print p ++ (82 ∷ (print q ++ (41 ∷ []))))))
  print (ar A p q) = 65 ∷ (braces A ++ (40 ∷ (print p ++ (82 ∷ (print q ++ (41 ∷ []))))))

-- Parts and expansions of formulas. Assumes nothing.
use Rattle.std.specs.Prelude.{List, [], ◌∷◌, map, ℕ, ◌^◌}
use Rattle.ctl.specs.Formula.{Form, tru, fls, lit, nlit, and, or, ex, ax, eu, au, er, ar}
use Rattle.ctl.specs.Modes.{modes}

-- several formulas joined by `|`, or by `&`, grouped right
abbrev pub or_all : List Form → Form
or_all [] = fls
or_all (p ∷ []) = p
or_all (p ∷ (q ∷ r)) = or p (or_all (q ∷ r))

abbrev pub and_all : List Form → Form
and_all [] = tru
and_all (p ∷ []) = p
and_all (p ∷ (q ∷ r)) = and p (and_all (q ∷ r))

-- EX and AX over each mode of A alone
abbrev pub ex_each : ℕ → Form → List Form
ex_each A p = map (λ m. ex (2 ^ m) p) (modes A)

abbrev pub ax_each : ℕ → Form → List Form
ax_each A p = map (λ m. ax (2 ^ m) p) (modes A)

-- The expansion. That of EX or AX over one mode is the formula itself, and so is that of a formula with no expansion
unfoldable pub expand : Form → Form
expand tru = tru
expand fls = fls
expand (lit k) = lit k
expand (nlit k) = nlit k
expand (and p q) = and p q
expand (or p q) = or p q
expand (ex A p) = or_all (ex_each A p)
expand (ax A p) = and_all (ax_each A p)
expand (eu A p q) = or q (and p (ex A (eu A p q)))
expand (ar A p q) = and q (or p (ax A (ar A p q)))
expand (au A p q) = or q (and p (and (ex A tru) (ax A (au A p q))))
expand (er A p q) = and q (or p (or (ax A fls) (ex A (er A p q))))

-- the parts; k is the part of !k
unfoldable pub parts : Form → List Form
parts tru = []
parts fls = []
parts (lit k) = []
parts (nlit k) = lit k ∷ []
parts (and p q) = p ∷ q ∷ []
parts (or p q) = p ∷ q ∷ []
parts (ex A p) = p ∷ []
parts (ax A p) = p ∷ []
parts (eu A p q) = p ∷ q ∷ []
parts (au A p q) = p ∷ q ∷ []
parts (er A p q) = p ∷ q ∷ []
parts (ar A p q) = p ∷ q ∷ []

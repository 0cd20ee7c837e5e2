-- Equality of formulas, as a test. It is what it says by form_eq-out and form_eq-refl (proofs/FormulaLaws). Assumes nothing.
use Rattle.std.specs.Prelude.{Bool, ◌&&◌, ℕ, eqb}
use Rattle.ctl.specs.Formula.{Form, tru, fls, lit, nlit, and, or, ex, ax, eu, au, er, ar}

-- A formula taken apart: which constructor, its number, its operands (a formula without them has 0 and `tru` there)
abbrev pub tag : Form → ℕ
tag tru = 0
tag fls = 1
tag (lit k) = 2
tag (nlit k) = 3
tag (and p q) = 4
tag (or p q) = 5
tag (ex A p) = 6
tag (ax A p) = 7
tag (eu A p q) = 8
tag (au A p q) = 9
tag (er A p q) = 10
tag (ar A p q) = 11

abbrev pub num : Form → ℕ
num tru = 0
num fls = 0
num (lit k) = k
num (nlit k) = k
num (and p q) = 0
num (or p q) = 0
num (ex A p) = A
num (ax A p) = A
num (eu A p q) = A
num (au A p q) = A
num (er A p q) = A
num (ar A p q) = A

abbrev pub left : Form → Form
left tru = tru
left fls = tru
left (lit k) = tru
left (nlit k) = tru
left (and p q) = p
left (or p q) = p
left (ex A p) = tru
left (ax A p) = tru
left (eu A p q) = p
left (au A p q) = p
left (er A p q) = p
left (ar A p q) = p

-- the right operand, or the only one
abbrev pub right : Form → Form
right tru = tru
right fls = tru
right (lit k) = tru
right (nlit k) = tru
right (and p q) = q
right (or p q) = q
right (ex A p) = p
right (ax A p) = p
right (eu A p q) = q
right (au A p q) = q
right (er A p q) = q
right (ar A p q) = q

-- Equal formulas. The operands are compared only where the constructors agree: that is what the `let`s are for
unfoldable pub form_eq : Form → Form → Bool
form_eq tru y = eqb 0 (tag y)
form_eq fls y = eqb 1 (tag y)
form_eq (lit k) y = eqb 2 (tag y) && eqb k (num y)
form_eq (nlit k) y = eqb 3 (tag y) && eqb k (num y)
form_eq (and p q) y = let l = form_eq p (left y) in let r = form_eq q (right y) in eqb 4 (tag y) && (l && r)
form_eq (or p q) y = let l = form_eq p (left y) in let r = form_eq q (right y) in eqb 5 (tag y) && (l && r)
form_eq (ex A p) y = let r = form_eq p (right y) in eqb 6 (tag y) && (eqb A (num y) && r)
form_eq (ax A p) y = let r = form_eq p (right y) in eqb 7 (tag y) && (eqb A (num y) && r)
form_eq (eu A p q) y = let l = form_eq p (left y) in let r = form_eq q (right y) in eqb 8 (tag y) && (eqb A (num y) && (l && r))
form_eq (au A p q) y = let l = form_eq p (left y) in let r = form_eq q (right y) in eqb 9 (tag y) && (eqb A (num y) && (l && r))
form_eq (er A p q) y = let l = form_eq p (left y) in let r = form_eq q (right y) in eqb 10 (tag y) && (eqb A (num y) && (l && r))
form_eq (ar A p q) y = let l = form_eq p (left y) in let r = form_eq q (right y) in eqb 11 (tag y) && (eqb A (num y) && (l && r))

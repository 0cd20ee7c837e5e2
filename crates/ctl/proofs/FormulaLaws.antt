-- Formulas taken apart and put together; the test of their equality is what it says. Assumes nothing.
use mathlib.Core.Path.{◌≡◌, refl, sym, subst}
use mathlib.Core.Bool.{◌&&◌}
use mathlib.Core.List.{[], ◌∷◌}
use Prim.Native.Nat.{ℕ}
use lib.ListN.{get_or}
use lib.Dec.{T, eqb, eqb→eq, eqb_refl}
use Rattle.ctl.specs.Formula.{Form, tru, fls, lit, nlit, and, or, ex, ax, eu, au, er, ar}
use Rattle.ctl.specs.Equality.{tag, num, left, right, form_eq}
use Rattle.ctl.proofs.BoolLaws.{and_in, and-iff}

-- a formula from its tag, number and operands
build : ℕ → ℕ → Form → Form → Form
build k n p q = get_or (tru ∷ fls ∷ lit n ∷ nlit n ∷ and p q ∷ or p q ∷ ex n q ∷ ax n q ∷ eu n p q ∷ au n p q ∷ er n p q ∷ ar n p q ∷ []) k tru

rebuild : (y : Form) → build (tag y) (num y) (left y) (right y) ≡ y
unfolding build
rebuild tru = refl
rebuild fls = refl
rebuild (lit k) = refl
rebuild (nlit k) = refl
rebuild (and p q) = refl
rebuild (or p q) = refl
rebuild (ex A p) = refl
rebuild (ax A p) = refl
rebuild (eu A p q) = refl
rebuild (au A p q) = refl
rebuild (er A p q) = refl
rebuild (ar A p q) = refl

same-0 : (k : ℕ) (y : Form) → T (eqb k (tag y)) → build k (num y) (left y) (right y) ≡ y
same-0 k y t = rw (eqb→eq k (tag y) t) (rebuild y)

same-1 : (k n : ℕ) (y : Form) → T (eqb k (tag y) && eqb n (num y)) → build k n (left y) (right y) ≡ y
same-1 k n y t = let h = simp and-iff at t in rw (eqb→eq n (num y) h.1) (same-0 k y h.0)

pub form_eq-out : (x y : Form) → T (form_eq x y) → x ≡ y
unfolding form_eq build
form_eq-out tru y t = same-0 0 y t
form_eq-out fls y t = same-0 1 y t
form_eq-out (lit k) y t = same-1 2 k y t
form_eq-out (nlit k) y t = same-1 3 k y t
form_eq-out (and p q) y t = let h = simp and-iff at t in rw (form_eq-out p (left y) h.1.0, form_eq-out q (right y) h.1.1) (same-0 4 y h.0)
form_eq-out (or p q) y t = let h = simp and-iff at t in rw (form_eq-out p (left y) h.1.0, form_eq-out q (right y) h.1.1) (same-0 5 y h.0)
form_eq-out (ex A p) y t = let h = simp and-iff at t in rw (eqb→eq A (num y) h.1.0, form_eq-out p (right y) h.1.1) (same-0 6 y h.0)
form_eq-out (ax A p) y t = let h = simp and-iff at t in rw (eqb→eq A (num y) h.1.0, form_eq-out p (right y) h.1.1) (same-0 7 y h.0)
form_eq-out (eu A p q) y t = let h = simp and-iff at t in rw (eqb→eq A (num y) h.1.0, form_eq-out p (left y) h.1.1.0, form_eq-out q (right y) h.1.1.1) (same-0 8 y h.0)
form_eq-out (au A p q) y t = let h = simp and-iff at t in rw (eqb→eq A (num y) h.1.0, form_eq-out p (left y) h.1.1.0, form_eq-out q (right y) h.1.1.1) (same-0 9 y h.0)
form_eq-out (er A p q) y t = let h = simp and-iff at t in rw (eqb→eq A (num y) h.1.0, form_eq-out p (left y) h.1.1.0, form_eq-out q (right y) h.1.1.1) (same-0 10 y h.0)
form_eq-out (ar A p q) y t = let h = simp and-iff at t in rw (eqb→eq A (num y) h.1.0, form_eq-out p (left y) h.1.1.0, form_eq-out q (right y) h.1.1.1) (same-0 11 y h.0)

pub is-lit : (p : Form) → T (eqb (tag p) 2) → p ≡ lit (num p)
unfolding build
is-lit p t = sym (same-0 2 p (subst (λ k. T (eqb k (tag p))) (eqb→eq (tag p) 2 t) (eqb_refl (tag p))))

pub is-ex : (p : Form) → T (eqb (tag p) 6) → p ≡ ex (num p) (right p)
unfolding build
is-ex p t = sym (same-0 6 p (subst (λ k. T (eqb k (tag p))) (eqb→eq (tag p) 6 t) (eqb_refl (tag p))))

pub is-ax : (p : Form) → T (eqb (tag p) 7) → p ≡ ax (num p) (right p)
unfolding build
is-ax p t = sym (same-0 7 p (subst (λ k. T (eqb k (tag p))) (eqb→eq (tag p) 7 t) (eqb_refl (tag p))))

pair-refl : (p q : Form) → T (form_eq p p) → T (form_eq q q) → T (form_eq p p && form_eq q q)
pair-refl p q s t = and_in (form_eq p p) (form_eq q q) s t

pub form_eq-refl : (x : Form) → T (form_eq x x)
unfolding form_eq
form_eq-refl tru = tt
form_eq-refl fls = tt
form_eq-refl (lit k) = eqb_refl k
form_eq-refl (nlit k) = eqb_refl k
form_eq-refl (and p q) = pair-refl p q (form_eq-refl p) (form_eq-refl q)
form_eq-refl (or p q) = pair-refl p q (form_eq-refl p) (form_eq-refl q)
form_eq-refl (ex A p) = and_in (eqb A A) (form_eq p p) (eqb_refl A) (form_eq-refl p)
form_eq-refl (ax A p) = and_in (eqb A A) (form_eq p p) (eqb_refl A) (form_eq-refl p)
form_eq-refl (eu A p q) = and_in (eqb A A) (form_eq p p && form_eq q q) (eqb_refl A) (pair-refl p q (form_eq-refl p) (form_eq-refl q))
form_eq-refl (au A p q) = and_in (eqb A A) (form_eq p p && form_eq q q) (eqb_refl A) (pair-refl p q (form_eq-refl p) (form_eq-refl q))
form_eq-refl (er A p q) = and_in (eqb A A) (form_eq p p && form_eq q q) (eqb_refl A) (pair-refl p q (form_eq-refl p) (form_eq-refl q))
form_eq-refl (ar A p q) = and_in (eqb A A) (form_eq p p && form_eq q q) (eqb_refl A) (pair-refl p q (form_eq-refl p) (form_eq-refl q))

-- Types over a lean, and truth in a type. Assumes nothing.
use Rattle.std.specs.Prelude.{Bool, ◌&&◌, ◌||◌, List, [], ◌∷◌, ℕ, suc, ◌^◌}
use Rattle.std.proofs.Math.Bool.{true, false, not}
use Rattle.ctl.specs.Lists.{any_of, all_of}
use Rattle.ctl.specs.Numbers.{has_bit}
use Rattle.ctl.specs.Formula.{Form, tru, fls, lit, nlit, and, or, ex, ax, eu, au, er, ar}
use Rattle.ctl.specs.Modes.{modes}
use Rattle.ctl.specs.Equality.{form_eq}

-- a type is a set of lean places, as a number
abbrev pub in_type : ℕ → ℕ → Bool
in_type t i = has_bit t i

-- the place of a formula in a list, from 0; the list's length if it is not there
unfoldable pub index_of : Form → List Form → ℕ
index_of p [] = 0
index_of p (q ∷ l) = let later = index_of p l in elim (form_eq q p) [ true ↦ 0 | false ↦ suc later ]

module _ (ln : List Form) where
  -- a lean member is true in a type if the type has its place
  unfoldable pub holds : ℕ → Form → Bool
  unfolding index_of
  holds t p = in_type t (index_of p ln)

  -- EX, or AX, over A, through its single modes
  unfoldable pub ex_some : ℕ → ℕ → Form → Bool
  unfolding holds modes
  ex_some t A p = any_of (λ m. holds t (ex (2 ^ m) p)) (modes A)

  unfoldable pub ax_every : ℕ → ℕ → Form → Bool
  unfolding holds modes
  ax_every t A p = all_of (λ m. holds t (ax (2 ^ m) p)) (modes A)

  -- Truth of a closure member in a type, through the expansions. (A formula outside the closure gets a value too, which means nothing: its EX and AX have no
  -- place in the lean.)
  unfoldable pub truth : ℕ → Form → Bool
  unfolding holds ex_some ax_every
  truth t tru = true
  truth t fls = false
  truth t (lit k) = holds t (lit k)
  truth t (nlit k) = not (holds t (lit k))
  truth t (and p q) = let a = truth t p in let b = truth t q in a && b
  truth t (or p q) = let a = truth t p in let b = truth t q in a || b
  truth t (ex A p) = ex_some t A p
  truth t (ax A p) = ax_every t A p
  truth t (eu A p q) = let a = truth t p in let b = truth t q in b || (a && ex_some t A (eu A p q))
  truth t (ar A p q) = let a = truth t p in let b = truth t q in b && (a || ax_every t A (ar A p q))
  truth t (au A p q) = let a = truth t p in let b = truth t q in b || (a && (ex_some t A tru && ax_every t A (au A p q)))
  truth t (er A p q) = let a = truth t p in let b = truth t q in b && (a || (ax_every t A fls || ex_some t A (er A p q)))

-- The closure of some positive formulas: they, their parts and expansions, each once. Assumes nothing.
use Rattle.std.specs.Prelude.{Bool, not, List, [], ◌∷◌, ◌++◌, ℕ}
use Rattle.ctl.specs.Lists.{◌∈◌, any_of, put}
use Rattle.ctl.specs.Formula.{Form, tru, fls, lit, nlit, and, or, ex, ax, eu, au, er, ar}
use Rattle.ctl.specs.Modes.{modes}
use Rattle.ctl.specs.Equality.{form_eq}
use Rattle.ctl.specs.Expansion.{or_all, and_all, ex_each, ax_each, expand, parts}

-- ---- what the closure is: the least saturated set with the formulas, as a list without repetition (proofs/ClosureLaws)

-- a set of formulas that has the parts and the expansions of its members
pub record Saturated (Q : Form → Type 0) : Type 0 where
  pub part : (p q : Form) → Q p → q ∈ parts p → Q q
  pub expansion : (p : Form) → Q p → Q (expand p)

-- ---- and how it is computed

unfoldable pub elem_f : Form → List Form → Bool
elem_f p l = any_of (form_eq p) l

unfoldable pub dedupe : List Form → List Form
unfolding elem_f
dedupe [] = []
dedupe (p ∷ l) = put (not (elem_f p l)) p (dedupe l)

-- a joined list of formulas with all its parts but those of the formulas
unfoldable pub or_spine : List Form → List Form
or_spine [] = fls ∷ []
or_spine (p ∷ []) = p ∷ []
or_spine (p ∷ (q ∷ r)) = or_all (p ∷ (q ∷ r)) ∷ p ∷ or_spine (q ∷ r)

unfoldable pub and_spine : List Form → List Form
and_spine [] = tru ∷ []
and_spine (p ∷ []) = p ∷ []
and_spine (p ∷ (q ∷ r)) = and_all (p ∷ (q ∷ r)) ∷ p ∷ and_spine (q ∷ r)

unfoldable pub ex_spine : ℕ → Form → List Form
unfolding or_spine modes
ex_spine A p = ex A p ∷ or_spine (ex_each A p)

unfoldable pub ax_spine : ℕ → Form → List Form
unfolding and_spine modes
ax_spine A p = ax A p ∷ and_spine (ax_each A p)

-- what a formula adds to the closures of its operands
unfoldable pub spine : Form → List Form
unfolding ex_spine ax_spine
spine tru = tru ∷ []
spine fls = fls ∷ []
spine (lit k) = lit k ∷ []
spine (nlit k) = nlit k ∷ lit k ∷ []
spine (and p q) = and p q ∷ []
spine (or p q) = or p q ∷ []
spine (ex A p) = ex_spine A p
spine (ax A p) = ax_spine A p
spine (eu A p q) = let s = eu A p q in s ∷ or q (and p (ex A s)) ∷ and p (ex A s) ∷ ex_spine A s
spine (ar A p q) = let s = ar A p q in s ∷ and q (or p (ax A s)) ∷ or p (ax A s) ∷ ax_spine A s
spine (au A p q) = let s = au A p q in s ∷ or q (and p (and (ex A tru) (ax A s))) ∷ and p (and (ex A tru) (ax A s)) ∷ and (ex A tru) (ax A s) ∷ tru ∷ (ex_spine A tru ++ ax_spine A s)
spine (er A p q) = let s = er A p q in s ∷ and q (or p (or (ax A fls) (ex A s))) ∷ or p (or (ax A fls) (ex A s)) ∷ or (ax A fls) (ex A s) ∷ fls ∷ (ax_spine A fls ++ ex_spine A s)

unfoldable pub closure_of : Form → List Form
unfolding spine
closure_of tru = spine tru
closure_of fls = spine fls
closure_of (lit k) = spine (lit k)
closure_of (nlit k) = spine (nlit k)
closure_of (and p q) = spine (and p q) ++ (closure_of p ++ closure_of q)
closure_of (or p q) = spine (or p q) ++ (closure_of p ++ closure_of q)
closure_of (ex A p) = spine (ex A p) ++ closure_of p
closure_of (ax A p) = spine (ax A p) ++ closure_of p
closure_of (eu A p q) = spine (eu A p q) ++ (closure_of p ++ closure_of q)
closure_of (au A p q) = spine (au A p q) ++ (closure_of p ++ closure_of q)
closure_of (er A p q) = spine (er A p q) ++ (closure_of p ++ closure_of q)
closure_of (ar A p q) = spine (ar A p q) ++ (closure_of p ++ closure_of q)

unfoldable pub closure_all : List Form → List Form
unfolding closure_of
closure_all [] = []
closure_all (p ∷ l) = closure_of p ++ closure_all l

unfoldable pub closure : List Form → List Form
unfolding closure_all dedupe elem_f form_eq
closure l = dedupe (closure_all l)

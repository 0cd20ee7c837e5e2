-- Links between types. Assumes nothing.
use Rattle.std.specs.Prelude.{Bool, ◌&&◌, ◌||◌, List, ℕ, ◌+◌, ◌-◌, ◌^◌, eqb, ltb}
use Rattle.std.proofs.Math.Bool.{true, false}
use Rattle.ctl.specs.Lists.{all_of, imp}
use Rattle.ctl.specs.Formula.{Form, tru, fls, lit, nlit, and, or, ex, ax, eu, au, er, ar}
use Rattle.ctl.specs.Modes.{has_mode}
use Rattle.ctl.specs.Types.{truth}

-- What a closure member asks of a link by field m from type t to type u, over the lean ln. EX or AX over m alone, true in t: its body is true in u.
-- AX over backward m, true in u: its body is true in t. AU whose modes hold m both ways, true in both: its right operand is true in one of them.
unfoldable pub link_rule : List Form → ℕ → ℕ → ℕ → Form → Bool
unfolding truth
link_rule ln m t u tru = true
link_rule ln m t u fls = true
link_rule ln m t u (lit k) = true
link_rule ln m t u (nlit k) = true
link_rule ln m t u (and p q) = true
link_rule ln m t u (or p q) = true
link_rule ln m t u (ex A p) = imp (eqb A (2 ^ m)) (imp (truth ln t (ex A p)) (truth ln u p))
link_rule ln m t u (ax A p) = imp (eqb A (2 ^ m)) (imp (truth ln t (ax A p)) (truth ln u p)) && imp (eqb A (2 ^ (8 + m))) (imp (truth ln u (ax A p)) (truth ln t p))
link_rule ln m t u (eu A p q) = true
link_rule ln m t u (au A p q) = imp (has_mode A m && has_mode A (8 + m)) (imp (truth ln t (au A p q) && truth ln u (au A p q)) (truth ln t q || truth ln u q))
link_rule ln m t u (er A p q) = true
link_rule ln m t u (ar A p q) = true

module _ (cl ln : List Form) where
  -- a link by field m from type t to type u
  unfoldable pub link : ℕ → ℕ → ℕ → Bool
  unfolding link_rule
  link m t u = all_of (link_rule ln m t u) cl

  -- a link by a mode: a backward link is the reverse of the forward one
  unfoldable pub link_by : ℕ → ℕ → ℕ → Bool
  unfolding link
  link_by m t u = elim (ltb m 8) [ true ↦ link m t u | false ↦ link (m - 8) u t ]

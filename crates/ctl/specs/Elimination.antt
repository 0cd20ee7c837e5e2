-- The elimination (document 01's striking): families, rounds, and the types that survive (its standing types), over any closure, truth and links.
-- That `fails` is "lacks what ClosedFamily's Meets asks for" is fails-iff (proofs/EliminationLaws). Assumes nothing.
use Rattle.std.specs.Prelude.{Bool, ◌&&◌, ◌||◌, length, eqb}
use Rattle.std.proofs.Math.Bool.{true, false, not}
use mathlib.Core.List.{List, map}
use Prim.Native.Nat.{ℕ, zero, suc}
use Rattle.ctl.specs.Lists.{any_of, all_of, keep, imp, elem}
use Rattle.ctl.specs.Formula.{Form, tru, fls, lit, nlit, and, or, ex, ax, eu, au, er, ar}
use Rattle.ctl.specs.Modes.{single}
use Rattle.ctl.specs.ClosedFamily.{linked, one_of}

-- ---- the least set within a family that holds what passes a first test, and what passes a test against the set itself

module _ (fam : List ℕ) (test : List ℕ → ℕ → Bool) where
  -- one step: the members that are in the set, or pass the test against it
  unfoldable pub widen : List ℕ → List ℕ
  unfolding elem
  widen U = keep (λ t. elem t U || test U t) fam

  -- at most n steps, fewer if one adds nothing
  unfoldable pub grow : ℕ → List ℕ → List ℕ
  unfolding widen
  grow zero U = U
  grow (suc n) U = let W = widen U in elim (eqb (length W) (length U)) [ true ↦ U | false ↦ grow n W ]

  -- from the members that pass the first test; as many steps as there are members are enough
  unfoldable pub reach : (ℕ → Bool) → List ℕ
  unfolding grow
  reach first = grow (length fam) (keep first fam)

-- ---- what a closure member asks for

module _ (tr : ℕ → Form → Bool) (lk : ℕ → ℕ → ℕ → Bool) where
  -- a member of U that is linked to t by one of the modes A, with p
  unfoldable pub next : List ℕ → ℕ → Form → ℕ → Bool
  unfolding linked
  next U A p t = any_of (λ u. tr u p && linked lk A t u) U

  -- a formula that is EX over one of the modes A, and true in t, has its next in U
  unfoldable pub ex_next : List ℕ → ℕ → ℕ → Form → Bool
  unfolding next one_of
  ex_next U A t tru = true
  ex_next U A t fls = true
  ex_next U A t (lit k) = true
  ex_next U A t (nlit k) = true
  ex_next U A t (and p q) = true
  ex_next U A t (or p q) = true
  ex_next U A t (ex B v) = imp (one_of A B) (imp (tr t (ex B v)) (next U B v t))
  ex_next U A t (ax B v) = true
  ex_next U A t (eu B p q) = true
  ex_next U A t (au B p q) = true
  ex_next U A t (er B p q) = true
  ex_next U A t (ar B p q) = true

  -- one step of a chain to U, for EU
  unfoldable pub eu_test : ℕ → Form → List ℕ → ℕ → Bool
  unfolding linked
  eu_test A p U t = tr t p && any_of (linked lk A t) U

module _ (cl : List Form) (tr : ℕ → Form → Bool) (lk : ℕ → ℕ → ℕ → Bool) where
  -- a rank above those in U, for AU
  unfoldable pub au_test : ℕ → Form → List ℕ → ℕ → Bool
  unfolding ex_next
  au_test A p U t = tr t p && all_of (ex_next tr lk U A t) cl

  -- the members of a family that have what a closure member asks for where it is true
  unfoldable pub good : List ℕ → Form → List ℕ
  unfolding eu_test au_test next reach single
  good fam tru = fam
  good fam fls = fam
  good fam (lit k) = fam
  good fam (nlit k) = fam
  good fam (and p q) = fam
  good fam (or p q) = fam
  good fam (ex A p) = keep (λ t. imp (single A && tr t (ex A p)) (next tr lk fam A p t)) fam
  good fam (ax A p) = fam
  good fam (eu A p q) = reach fam (eu_test tr lk A p) (λ t. tr t q)
  good fam (au A p q) = reach fam (au_test A p) (λ t. tr t q)
  good fam (er A p q) = fam
  good fam (ar A p q) = fam

  -- t fails against a family: some closure member is true in t, and t has not what it asks for
  unfoldable pub fails : List ℕ → ℕ → Bool
  unfolding good
  fails fam t = any_of (λ p. tr t p && not (elem t (good fam p))) cl

  -- ---- rounds

  -- a round: those that fail against the family are eliminated. Each closure member's good ones are found once
  unfoldable pub round : List ℕ → List ℕ
  unfolding good elem
  round fam =
      let goods : List (Form × List ℕ) = map (λ p. (p, good fam p)) cl in
      keep (λ t. not (any_of (λ g. tr t g.0 && not (elem t g.1)) goods)) fam

  -- family r
  unfoldable pub families : List ℕ → ℕ → List ℕ
  unfolding round
  families start zero = start
  families start (suc r) = round (families start r)

  -- the rounds that eliminate something, and what is left after them, in at most n rounds
  unfoldable pub eliminate : ℕ → List ℕ → ℕ × List ℕ
  unfolding round
  eliminate zero fam = (0, fam)
  eliminate (suc n) fam =
      let after = round fam in
      elim (eqb (length after) (length fam)) [ true ↦ (0, fam) | false ↦ (let r = eliminate n after in (suc r.0, r.1)) ]

  unfoldable pub rounds : List ℕ → ℕ
  unfolding eliminate
  rounds start = (eliminate (length start) start).0

  unfoldable pub survivors : List ℕ → List ℕ
  unfolding eliminate
  survivors start = (eliminate (length start) start).1

-- The elimination goes by which formulas the closure has, and not by their order; and symbols do not count, so that values which do not occur may stand in a list with the closure's
-- members. Assumes nothing.
use mathlib.Core.Path.{◌≡◌, refl, sym, ap, ap₂, ◌∙◌, fun_ext, subst}
use mathlib.Core.Logic.{◌⊎◌, inl, inr}
use mathlib.Core.Bool.{Bool, true, false, not, ◌&&◌}
use mathlib.Core.List.{List}
use Prim.Native.Nat.{ℕ, zero, suc, ◌-◌}
use lib.ListN.{length}
use lib.Dec.{T, eqb, ltb}
use Rattle.ctl.specs.Lists.{◌∈◌, any_of, all_of, elem}
use Rattle.ctl.specs.Formula.{Form, tru, fls, lit, nlit, and, or, ex, ax, eu, au, er, ar}
use Rattle.ctl.specs.Equality.{num}
use Rattle.ctl.specs.Lean.{is_letter}
use Rattle.ctl.specs.Types.{truth}
use Rattle.ctl.specs.Links.{link_rule, link, link_by}
use Rattle.ctl.specs.Elimination.{reach, ex_next, au_test, good, fails, round, eliminate, rounds, survivors}
use Rattle.ctl.proofs.BoolLaws.{true-T, both_ways, and-1}
use Rattle.ctl.proofs.ListLaws.{any-in, any_out, all_in, all-out, keep_same, elem_in}
use Rattle.ctl.proofs.FormulaLaws.{is-lit}
use Rattle.ctl.proofs.EliminationLaws.{round-fails}

-- ---- a test that every symbol passes, or none

every-over : (c d : List Form) → ((p : Form) → p ∈ d → (p ∈ c) ⊎ T (is_letter p)) → (P : Form → Bool) → ((k : ℕ) → T (P (lit k))) → T (all_of P c) → T (all_of P d)
every-over c d from P f h = all_in P d (λ p m. go p (from p m))
  where
    go : (p : Form) → (p ∈ c) ⊎ T (is_letter p) → T (P p)
    go p (inl m) = all-out P h m
    go p (inr l) = subst (λ q. T (P q)) (sym (is-lit p l)) (f (num p))

some-over : (c d : List Form) → ((p : Form) → p ∈ c → (p ∈ d) ⊎ T (is_letter p)) → (P : Form → Bool) → ((k : ℕ) → T (P (lit k)) → ⊥) → T (any_of P c) → T (any_of P d)
some-over c d to P f h = let r = any_out P c h in go r.0 (to r.0 r.1) r.2
  where
    go : (p : Form) → (p ∈ d) ⊎ T (is_letter p) → T (P p) → T (any_of P d)
    go p (inl m) t = any-in P m t
    go p (inr l) t = absurd (f (num p) (subst (λ q. T (P q)) (is-lit p l) t))

-- ---- two lists with the same members but for symbols

module _ (c d : List Form) (to : (p : Form) → p ∈ c → (p ∈ d) ⊎ T (is_letter p)) (from : (p : Form) → p ∈ d → (p ∈ c) ⊎ T (is_letter p)) where
  all-order : (P : Form → Bool) → ((k : ℕ) → T (P (lit k))) → all_of P c ≡ all_of P d
  all-order P f = both_ways (all_of P c) (all_of P d) (every-over c d from P f) (every-over d c to P f)

  any_order : (P : Form → Bool) → ((k : ℕ) → T (P (lit k)) → ⊥) → any_of P c ≡ any_of P d
  any_order P f = both_ways (any_of P c) (any_of P d) (some-over c d to P f) (some-over d c from P f)

  -- ---- links

  link-same : (ln : List Form) (m t u : ℕ) → link c ln m t u ≡ link d ln m t u
  unfolding link link_rule
  link-same ln m t u = all-order (link_rule ln m t u) (λ k. tt)

  links-but : (ln : List Form) → link_by c ln ≡ link_by d ln
  unfolding link_by
  links-but ln = fun_ext (λ m. fun_ext (λ t. fun_ext (λ u. ap₂ (λ x y. elim (ltb m 8) as (λ b. Bool) [ true ↦ x | false ↦ y ]) (link-same ln m t u) (link-same ln (m - 8) u t))))

  -- ---- rounds

  module _ (tr : ℕ → Form → Bool) (lk : ℕ → ℕ → ℕ → Bool) where
    test-same : (A : ℕ) (p : Form) → au_test c tr lk A p ≡ au_test d tr lk A p
    unfolding au_test ex_next
    test-same A p = fun_ext (λ U. fun_ext (λ t. ap (λ b. tr t p && b) (all-order (ex_next tr lk U A t) (λ k. tt))))

    good-same : (fam : List ℕ) (p : Form) → good c tr lk fam p ≡ good d tr lk fam p
    unfolding good
    good-same fam tru = refl
    good-same fam fls = refl
    good-same fam (lit k) = refl
    good-same fam (nlit k) = refl
    good-same fam (and p q) = refl
    good-same fam (or p q) = refl
    good-same fam (ex A p) = refl
    good-same fam (ax A p) = refl
    good-same fam (eu A p q) = refl
    good-same fam (au A p q) = ap (λ f. reach fam f (λ t. tr t q)) (test-same A p)
    good-same fam (er A p q) = refl
    good-same fam (ar A p q) = refl

    -- a member of the family does not fail by a symbol
    fails-same : (fam : List ℕ) (t : ℕ) → t ∈ fam → fails c tr lk fam t ≡ fails d tr lk fam t
    unfolding fails good
    fails-same fam t i =
        ap (λ f. any_of f c) (fun_ext (λ p. ap (λ g. tr t p && not (elem t g)) (good-same fam p)))
        ∙ any_order (λ p. tr t p && not (elem t (good d tr lk fam p))) (λ k h. subst (λ b. T (not b)) (true-T (elem t fam) (elem_in i)) (and-1 (tr t (lit k)) (not (elem t fam)) h))

    round_same : (fam : List ℕ) → round c tr lk fam ≡ round d tr lk fam
    round_same fam =
        round-fails c tr lk fam ∙ keep_same (λ t. not (fails c tr lk fam t)) (λ t. not (fails d tr lk fam t)) fam (λ t i. ap not (fails-same fam t i))
        ∙ sym (round-fails d tr lk fam)

    eliminate-same : (n : ℕ) (fam : List ℕ) → eliminate c tr lk n fam ≡ eliminate d tr lk n fam
    unfolding eliminate
    eliminate-same zero fam = refl
    eliminate-same (suc n) fam =
        ap₂ (λ (after : List ℕ) (f : List ℕ → ℕ × List ℕ). elim (eqb (length after) (length fam)) as (λ b. ℕ × List ℕ) [ true ↦ (0, fam) | false ↦ (suc (f after).0, (f after).1) ])
        (round_same fam) (fun_ext (eliminate-same n))

    rounds-order : (start : List ℕ) → rounds c tr lk start ≡ rounds d tr lk start
    unfolding rounds
    rounds-order start = ap (λ s. s.0) (eliminate-same (length start) start)

    survivors-order : (start : List ℕ) → survivors c tr lk start ≡ survivors d tr lk start
    unfolding survivors
    survivors-order start = ap (λ s. s.1) (eliminate-same (length start) start)

  -- ---- over the links of each

  pub rounds-but : (ln : List Form) (start : List ℕ) → rounds c (truth ln) (link_by c ln) start ≡ rounds d (truth ln) (link_by d ln) start
  rounds-but ln start = rounds-order (truth ln) (link_by c ln) start ∙ ap (λ l. rounds d (truth ln) l start) (links-but ln)

  pub survivors-but : (ln : List Form) (start : List ℕ) → survivors c (truth ln) (link_by c ln) start ≡ survivors d (truth ln) (link_by d ln) start
  survivors-but ln start = survivors-order (truth ln) (link_by c ln) start ∙ ap (λ l. survivors d (truth ln) l start) (links-but ln)

-- Families, rounds, survivors and verdict from any start types, to compare one definition of the start types with another, and those of document 01. Assumes nothing.
use Rattle.std.specs.Prelude.{◌≡◌, Bool, ◌&&◌, List, [], ◌∷◌, ℕ, ◌^◌, length}
use Rattle.ctl.specs.Lists.{all_of, keep, below}
use Rattle.ctl.specs.Formula.{Form}
use Rattle.ctl.specs.Types.{truth}
use Rattle.ctl.specs.Links.{link_by}
use Rattle.ctl.specs.Tableau.{Tableau, namings, start_types}
use Rattle.ctl.specs.Elimination.{families, rounds, survivors}
use Rattle.ctl.specs.Verdict.{family_of, rounds_of, surviving_types, Verdict, unsatisfiable, open', verdict}

-- `start` gives the start types under each naming
module _ (cl ln : List Form) (start : ℕ → List ℕ) where
  abbrev pub family_from : ℕ → ℕ → List ℕ
  family_from r k = families cl (truth ln) (link_by cl ln) (start r) k

  abbrev pub rounds_from : ℕ → ℕ
  rounds_from r = rounds cl (truth ln) (link_by cl ln) (start r)

  abbrev pub survivors_from : ℕ → List ℕ
  survivors_from r = survivors cl (truth ln) (link_by cl ln) (start r)

  -- the first of some namings under which a surviving type has the goal, with the first such type
  unfoldable pub verdict_from : Form → List ℕ → Verdict
  verdict_from goal [] = unsatisfiable
  verdict_from goal (r ∷ rs) = let later = verdict_from goal rs in elim (keep (λ t. truth ln t goal) (survivors_from r)) [ [] ↦ later | t ∷ ts ↦ open' r t ]

-- document 01's start types: those that obey the naming, by the test that is given, and make all globals true
unfoldable pub former_start : Tableau → (ℕ → ℕ → Bool) → ℕ → List ℕ
unfolding truth
former_start S obeys r = keep (λ t. obeys r t && all_of (truth S.ln t) S.globals) (below (2 ^ length S.ln))

-- the tableau is judged from these start types, with n namings
pub record JudgedFrom (S : Tableau) (start : ℕ → List ℕ) (n : ℕ) : Type 0 where
  pub namings-are : namings S ≡ n
  pub starts-are : (r : ℕ) → start_types S r ≡ start r
  pub families-are : (r k : ℕ) → family_of S r k ≡ family_from S.cl S.ln start r k
  pub rounds-are : (r : ℕ) → rounds_of S r ≡ rounds_from S.cl S.ln start r
  pub survivors-are : (r : ℕ) → surviving_types S r ≡ survivors_from S.cl S.ln start r
  pub verdict-is : (goal : Form) → verdict S goal ≡ verdict_from S.cl S.ln start goal (below n)

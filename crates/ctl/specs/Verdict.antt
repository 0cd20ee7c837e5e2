-- The verdict: the least naming under which a surviving type has the goal, with the least such type; or unsatisfiable. Assumes nothing.
use mathlib.Core.List.{List, [], ◌∷◌}
use Rattle.std.specs.Prelude.{ℕ, ◌<◌, ◌≤◌, T}
use Rattle.ctl.specs.Lists.{◌∈◌, keep, below}
use Rattle.ctl.specs.Formula.{Form}
use Rattle.ctl.specs.Types.{truth}
use Rattle.ctl.specs.Links.{link_by}
use Rattle.ctl.specs.Tableau.{Tableau, namings, start_types}
use Rattle.ctl.specs.ClosedFamily.{Meets, Closed}
use Rattle.ctl.specs.Elimination.{families, rounds, survivors}

module _ (S : Tableau) where
  -- what a type needs of a family, and closed families of start types under naming r
  abbrev pub MeetsIn : List ℕ → ℕ → Type 0
  MeetsIn fam t = Meets S.cl (truth S.ln) (link_by S.cl S.ln) fam t

  abbrev pub ClosedIn : ℕ → List ℕ → Type 0
  ClosedIn r fam = Closed S.cl (truth S.ln) (link_by S.cl S.ln) (start_types S r) fam

  -- family k under naming r, and the rounds
  unfoldable pub family_of : ℕ → ℕ → List ℕ
  unfolding families start_types link_by
  family_of r k = families S.cl (truth S.ln) (link_by S.cl S.ln) (start_types S r) k

  unfoldable pub rounds_of : ℕ → ℕ
  unfolding rounds start_types link_by
  rounds_of r = rounds S.cl (truth S.ln) (link_by S.cl S.ln) (start_types S r)

  -- the surviving types under naming r
  unfoldable pub surviving_types : ℕ → List ℕ
  unfolding survivors start_types link_by
  surviving_types r = survivors S.cl (truth S.ln) (link_by S.cl S.ln) (start_types S r)

  -- a type that survives under naming r makes the goal true
  abbrev pub HasGoal : Form → ℕ → ℕ → Type 0
  HasGoal goal r t = (t ∈ surviving_types r) × T (truth S.ln t goal)

  -- the surviving types that have the goal
  unfoldable pub goal_types : Form → ℕ → List ℕ
  unfolding surviving_types
  goal_types goal r = keep (λ t. truth S.ln t goal) (surviving_types r)

-- open (document 01's word) with a naming and a type
pub data Verdict : Type 0 where
  unsatisfiable : Verdict
  open' : ℕ → ℕ → Verdict

module _ (S : Tableau) (goal : Form) where
  -- the first of some namings that has a goal type, with the first of those
  unfoldable pub verdict_over : List ℕ → Verdict
  unfolding goal_types
  verdict_over [] = unsatisfiable
  verdict_over (r ∷ rs) = let later = verdict_over rs in elim (goal_types S goal r) [ [] ↦ later | t ∷ ts ↦ open' r t ]

  unfoldable pub verdict : Verdict
  unfolding verdict_over namings
  verdict = verdict_over (below (namings S))

  -- naming r is the least under which a surviving type has the goal, and t is the least such type
  pub record Opens (r t : ℕ) : Type 0 where
    pub naming : r < namings S
    pub has-goal : HasGoal S goal r t
    pub least-naming : (q u : ℕ) → q < r → HasGoal S goal q u → ⊥
    pub least_type : (u : ℕ) → HasGoal S goal r u → t ≤ u

-- What survives under a naming, and what the verdict says. Assumes nothing.
use mathlib.Core.Path.{◌≡◌, refl, sym, ap, ap₂, ◌∙◌, subst}
use mathlib.Core.Logic.{◌⊎◌, inl, inr, ◌↔◌}
use mathlib.Core.List.Memᴰ
use mathlib.Core.List.{List, [], ◌∷◌}
use Prim.Native.Nat.{ℕ, zero, suc, ◌+◌, ◌-◌, ◌^◌, ◌<◌, ◌≤◌}
use native.Mathlib.Omega.{arith}
use native.Mathlib.Decide.{dec_le}
use lib.Dec.{T}
use lib.ListN.{length}
use Rattle.ctl.specs.Lists.{◌∈◌, count_from, below, keep}
use Rattle.ctl.specs.Formula.{Form}
use Rattle.ctl.specs.Types.{truth}
use Rattle.ctl.specs.Elimination.{families}
use Rattle.ctl.specs.Links.{link_by}
use Rattle.ctl.specs.Tableau.{Tableau, namings, starts, start_types}
use Rattle.ctl.specs.Verdict.{MeetsIn, ClosedIn, family_of, rounds_of, surviving_types, HasGoal, goal_types, Verdict, unsatisfiable, open', verdict_over, verdict, Opens}
use Rattle.ctl.specs.Judging.{survivors_from, verdict_from}
use Rattle.ctl.proofs.ListLaws.{keep-in, keep_out, below_in, below_out, Ascending, ascending-count, ascending-keep, ascending-least}
use Rattle.ctl.proofs.EliminationLaws
use Rattle.ctl.proofs.EliminationLaws.{survivors-ascend, survives-iff, survivors-is, survivors-stays, rounds-least}

-- ---- the elimination under a naming

module _ (S : Tableau) (r : ℕ) where
  -- a type survives exactly if it belongs to some closed family
  pub surviving-iff : (t : ℕ) → (t ∈ surviving_types S r) ↔ ((fam : List ℕ) × ClosedIn S r fam × (t ∈ fam))
  unfolding surviving_types
  surviving-iff t = survives-iff S.cl (truth S.ln) (link_by S.cl S.ln) (start_types S r) t

  -- family 0 is the start types, and each next family the one before less those that fail
  pub family-zero : family_of S r 0 ≡ start_types S r
  unfolding family_of
  family-zero = unfold families in refl

  pub family-next : (k t : ℕ) → (t ∈ family_of S r (suc k)) ↔ ((t ∈ family_of S r k) × MeetsIn S (family_of S r k) t)
  unfolding family_of
  family-next k t = EliminationLaws.family-next S.cl (truth S.ln) (link_by S.cl S.ln) (start_types S r) k t

  -- what survives is the family after the rounds, which stays, and rounds is the least number after which it does
  pub surviving-is : surviving_types S r ≡ family_of S r (rounds_of S r)
  unfolding surviving_types family_of rounds_of
  surviving-is = survivors-is S.cl (truth S.ln) (link_by S.cl S.ln) (start_types S r)

  pub rounds-stay : family_of S r (suc (rounds_of S r)) ≡ family_of S r (rounds_of S r)
  unfolding family_of rounds_of
  rounds-stay = survivors-stays S.cl (truth S.ln) (link_by S.cl S.ln) (start_types S r)

  pub rounds-first : (k : ℕ) → family_of S r (suc k) ≡ family_of S r k → rounds_of S r ≤ k
  unfolding family_of rounds_of
  rounds-first k e = rounds-least S.cl (truth S.ln) (link_by S.cl S.ln) (start_types S r) k e

  pub rounds-few : rounds_of S r ≤ length (start_types S r) - length (surviving_types S r)
  unfolding rounds_of surviving_types
  rounds-few = EliminationLaws.rounds-few S.cl (truth S.ln) (link_by S.cl S.ln) (start_types S r)

  -- each surviving type is listed once, and is a set of lean places
  pub surviving-ascend : Ascending 0 (surviving_types S r)
  unfolding surviving_types start_types
  surviving-ascend =
      survivors-ascend S.cl (truth S.ln) (link_by S.cl S.ln) (start_types S r)
      (ascending-keep (starts S r) 0 (below (2 ^ length S.ln)) (ascending-count 0 (2 ^ length S.ln)))

  pub surviving-below : (t : ℕ) → t ∈ surviving_types S r → t < 2 ^ length S.ln
  unfolding start_types
  surviving-below t m =
      let c = (surviving-iff t).0 m in
      below_out (2 ^ length S.ln) (keep_out (starts S r) (below (2 ^ length S.ln)) (c.1.within t c.2)).0

-- ---- the verdict

-- from any start types: where nothing was found, no naming that was looked at has a surviving type with the goal
module _ (cl ln : List Form) (start : ℕ → List ℕ) (goal : Form) where
  abbrev goals_from : ℕ → List ℕ
  goals_from r = keep (λ t. truth ln t goal) (survivors_from cl ln start r)

  from-none : (rs : List ℕ) → verdict_from cl ln start goal rs ≡ unsatisfiable → (r : ℕ) → r ∈ rs → goals_from r ≡ []
  unfolding verdict_from
  from-none [] e r m = absurd (Memᴰ.not-nil m)
  from-none (q ∷ rs) e r m = go (goals_from q) refl e (Memᴰ.cases_cons m) (λ f. from-none rs f r)
    where
      go : (l : List ℕ) → goals_from q ≡ l → (elim l as (λ x. Verdict) [ [] ↦ verdict_from cl ln start goal rs | t ∷ ts ↦ open' q t ]) ≡ unsatisfiable → (r ≡ q) ⊎ (r ∈ rs)
          → (verdict_from cl ln start goal rs ≡ unsatisfiable → r ∈ rs → goals_from r ≡ []) → goals_from r ≡ []
      go [] g f (inl i) rec = ap goals_from i ∙ g
      go [] g f (inr k) rec = rec f k
      go (t ∷ ts) g f c rec = absurd (let z : ◌≡◌ {A = ℕ} 0 1 = cc in omega arith)

  pub none_from : (rs : List ℕ) → verdict_from cl ln start goal rs ≡ unsatisfiable → (r t : ℕ) → r ∈ rs → t ∈ survivors_from cl ln start r → T (truth ln t goal) → ⊥
  none_from rs e r t m s h = Memᴰ.not-nil (subst (λ k. t ∈ k) (from-none rs e r m) (keep-in (λ t. truth ln t goal) s h))

module _ (S : Tableau) (goal : Form) where
  ascending-goal : (r : ℕ) → Ascending 0 (goal_types S goal r)
  unfolding goal_types
  ascending-goal r =
      ascending-keep (λ t. truth S.ln t goal) 0 (surviving_types S r)
      (surviving-ascend S r)

  -- the verdict comes from the start types
  pub over-from : (rs : List ℕ) → verdict_over S goal rs ≡ verdict_from S.cl S.ln (start_types S) goal rs
  unfolding verdict_over goal_types surviving_types verdict_from
  over-from [] = refl
  over-from (r ∷ rs) =
      ap (λ v. elim (keep (λ t. truth S.ln t goal) (survivors_from S.cl S.ln (start_types S) r)) as (λ x. Verdict) [ [] ↦ v | t ∷ ts ↦ open' r t ]) (over-from rs)

  verdict-none : verdict S goal ≡ unsatisfiable → (r t : ℕ) → r < namings S → HasGoal S goal r t → ⊥
  unfolding verdict surviving_types
  verdict-none e r t l h = none_from S.cl S.ln (start_types S) goal (below (namings S)) (sym (over-from (below (namings S))) ∙ e) r t (below_in l) h.0 h.1

  First : ℕ → ℕ → ℕ → ℕ → Type 0
  First a n r t = (a ≤ r) × (r < a + n) × ((ts : List ℕ) × (goal_types S goal r ≡ t ∷ ts)) × ((q : ℕ) → a ≤ q → q < r → goal_types S goal q ≡ [])

  over-open : (a n r t : ℕ) → verdict_over S goal (count_from a n) ≡ open' r t → First a n r t
  unfolding verdict_over First
  over-open a zero r t e = absurd (let z : ◌≡◌ {A = ℕ} 0 1 = cc in omega arith)
  over-open a (suc n) r t e = go (goal_types S goal a) refl e (over-open (suc a) n r t)
    where
      go : (l : List ℕ) → goal_types S goal a ≡ l → (elim l as (λ x. Verdict) [ [] ↦ verdict_over S goal (count_from (suc a) n) | t ∷ ts ↦ open' a t ]) ≡ open' r t
          → (verdict_over S goal (count_from (suc a) n) ≡ open' r t → First (suc a) n r t) → First a (suc n) r t
      go [] g f rec =
          let w = rec f in
          (let k = w.0 in omega arith, let k = w.1 in omega arith, w.2, λ q h k. step q h k (dec_le q a) w.3)
        where
          step : (q : ℕ) → a ≤ q → q < r → Dec (q ≤ a) → ((q : ℕ) → suc a ≤ q → q < r → goal_types S goal q ≡ []) → goal_types S goal q ≡ []
          step q h k (yes i) next = let e' : q ≡ a = omega arith in ap (goal_types S goal) e' ∙ g
          step q h k (no i) next = next q (omega arith) k
      go (u ∷ us) g f rec =
          let er : a ≡ r = cc in
          let et : u ≡ t = cc in
          (omega arith, omega arith, (us, ap (goal_types S goal) (sym er) ∙ g ∙ ap (λ x. x ∷ us) et), λ q h k. absurd (omega arith))

  verdict-open : (r t : ℕ) → verdict S goal ≡ open' r t → Opens S goal r t
  unfolding verdict goal_types First
  verdict-open r t e =
      let w = over-open 0 (namings S) r t e in
      let here : t ∈ goal_types S goal r = subst (λ l. t ∈ l) (sym w.2.1) (Memᴰ.head refl) in
      let k = keep_out (λ t. truth S.ln t goal) (surviving_types S r) here in
      let order : Ascending 0 (t ∷ w.2.0) = subst (Ascending 0) w.2.1 (ascending-goal r) in
      record {
        naming = let h = w.1 in omega arith;
        has-goal = (k.0, k.1);
        least-naming = λ q u h g. Memᴰ.not-nil (subst (λ l. u ∈ l) (w.3 q (omega arith) h) (keep-in (λ t. truth S.ln t goal) g.0 g.1));
        least_type = λ u g. ascending-least t (t ∷ w.2.0) (omega arith, order.1) u (subst (λ l. u ∈ l) w.2.1 (keep-in (λ t. truth S.ln t goal) g.0 g.1));
      }

  -- ---- the verdict says exactly that

  -- what opens is determined
  opens-once : (r t r' t' : ℕ) → Opens S goal r t → Opens S goal r' t' → open' r' t' ≡ open' r t
  opens-once r t r' t' o o' = go (dec_le r r') (dec_le r' r)
    where
      same : r' ≡ r → open' r' t' ≡ open' r t
      same e =
          let h = o.least_type t' (subst (λ q. HasGoal S goal q t') e o'.has-goal) in
          let k = o'.least_type t (subst (λ q. HasGoal S goal q t) (sym e) o.has-goal) in
          let f : t' ≡ t = omega arith in
          ap₂ open' e f

      go : Dec (r ≤ r') → Dec (r' ≤ r) → open' r' t' ≡ open' r t
      go (yes h) (yes k) = same (omega arith)
      go (no h) d = absurd (o.least-naming r' t' (omega arith) o'.has-goal)
      go (yes h) (no k) = absurd (o'.least-naming r t (omega arith) o.has-goal)

  -- unsatisfiable: under no naming a surviving type has the goal
  pub unsatisfiable-iff : (verdict S goal ≡ unsatisfiable) ↔ ((r t : ℕ) → r < namings S → HasGoal S goal r t → ⊥)
  unsatisfiable-iff = (verdict-none, λ f. go f (verdict S goal) refl)
    where
      go : ((r t : ℕ) → r < namings S → HasGoal S goal r t → ⊥) → (v : Verdict) → verdict S goal ≡ v → verdict S goal ≡ unsatisfiable
      go f unsatisfiable e = e
      go f (open' r t) e = let o = verdict-open r t e in absurd (f r t o.naming o.has-goal)

  -- open: the least naming under which a surviving type has the goal, and the least such type
  pub open-iff : (r t : ℕ) → (verdict S goal ≡ open' r t) ↔ Opens S goal r t
  open-iff r t = (verdict-open r t, λ o. go o (verdict S goal) refl)
    where
      go : Opens S goal r t → (v : Verdict) → verdict S goal ≡ v → verdict S goal ≡ open' r t
      go o unsatisfiable e = absurd (verdict-none e r t o.naming o.has-goal)
      go o (open' r' t') e = e ∙ opens-once r t r' t' o (verdict-open r' t' e)

  -- it is open exactly if under some naming a surviving type has the goal
  pub open-some : ((r : ℕ) × (t : ℕ) × (verdict S goal ≡ open' r t)) ↔ ((r : ℕ) × (t : ℕ) × (r < namings S) × HasGoal S goal r t)
  open-some = (
    λ w. let o = verdict-open w.0 w.1 w.2 in (w.0, w.1, o.naming, o.has-goal),
    λ w. go w.0 w.1 w.2 w.3 (verdict S goal) refl,
  )
    where
      go : (r t : ℕ) → r < namings S → HasGoal S goal r t → (v : Verdict) → verdict S goal ≡ v → (r : ℕ) × (t : ℕ) × (verdict S goal ≡ open' r t)
      go r t l h unsatisfiable e = absurd (verdict-none e r t l h)
      go r t l h (open' q u) e = (q, u, e)

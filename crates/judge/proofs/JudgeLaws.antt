-- Judging naming after naming: what has been found before each, and what that makes of the verdict. Assumes nothing.
use mathlib.Core.Path.{◌≡◌, refl, sym, ap, ap₂, ◌∙◌, subst}
use mathlib.Core.List.{List, [], ◌∷◌}
use mathlib.Core.Logic.{◌⊎◌, inl, inr}
use Rattle.std.specs.Prelude.{Option, Some, None}
use Prim.Native.Nat.{ℕ, zero, suc, ◌+◌, ◌*◌, ◌^◌, ◌≤◌, ◌<◌}
use native.Mathlib.Omega.{arith}
use native.Mathlib.Decide.{dec_le}
use lib.ListN.{length}
use Rattle.ctl.specs.Lists.{elem, keep, count_from}
use Rattle.ctl.specs.Formula.{Form}
use Rattle.ctl.specs.Types.{truth}
use Rattle.ctl.specs.Tableau.{Tableau, namings}
use Rattle.ctl.specs.Verdict.{goal_types, verdict, verdict_over}
use Rattle.ctl.specs.Verdict as Ctl
use Rattle.wordset.proofs.BelowLaws.{top}
use Rattle.wordset.specs.Words.{packed}
use Rattle.truth.specs.Truths.{true_at}
use Rattle.truth.specs.Blocks.{list_of}
use Rattle.tableau.specs.Families.{Survivors}
use Rattle.start.specs.Starts.{Based, in_base, start_list}
use Rattle.truth.specs.Tables.{form}
use Rattle.goal.specs.Goals.{first_of}
use Rattle.tableau.proofs.TableWords.{start-ascend, start-below, survivors-list}
use Rattle.tableau.specs.Matches.{Matches}
use Rattle.tableau.proofs.TableauLaws.{surviving-types}
use Rattle.judge.specs.Judged.{goals_at, Judged, opens, closes, verdict_of}
use Rattle.judge.specs.declared.Verdict.{Verdict}
use Rattle.judge.specs.declared.Verdict.TheVariants.{Open, Unsatisfiable}

-- ---- one naming

first-none : (l : List ℕ) → first_of l ≡ None → l ≡ []
unfolding first_of
first-none [] e = refl
first-none (t ∷ ts) e = absurd cc

first_some : (l : List ℕ) (t : ℕ) → first_of l ≡ Some t → (ts : List ℕ) × (l ≡ t ∷ ts)
unfolding first_of
first_some [] t e = absurd cc
first_some (u ∷ us) t e = let i : u ≡ t = cc in (us, ap (λ x. x ∷ us) i)

-- what is found in a store that holds the surviving types
pub found-is : (ms ln : List ℕ) (w : ℕ) (base names : List ℕ) (goal r : ℕ) (d x : List ℕ) (a : Option ℕ) → w ≤ length d
    → x ≡ packed w (λ t. elem t (Survivors ms ln (start_list w base names (length ln) r))) d
    → a ≡ first_of (keep (true_at ms ln goal) (list_of w x))
    → a ≡ first_of (goals_at ms ln w base names goal r)
unfolding goals_at
found-is ms ln w base names goal r d x a h e f =
    f ∙ ap (λ l. first_of (keep (true_at ms ln goal) l)) (survivors-list ms ln w (start_list w base names (length ln) r) d x (start-ascend w base names (length ln) r) (start-below w base names (length ln) r) h e)

-- ---- naming after naming

pub record Judging (goals : ℕ → List ℕ) (n r : ℕ) : Type 0 where
  pub within : r ≤ n
  pub none : (q : ℕ) → q < r → goals q ≡ []

module _ {goals : ℕ → List ℕ} {n : ℕ} where
  pub judge-moved : {r q : ℕ} → Judging goals n r → q ≡ r → Judging goals n q
  judge-moved j e = subst (λ k. Judging goals n k) (sym e) j

  pub judge-next : {r : ℕ} → Judging goals n r → r < n → first_of (goals r) ≡ None → Judging goals n (r + 1)
  judge-next {r} j h e = record { within = omega arith; none = λ q l. go q (top q r (omega arith)) }
    where
      go : (q : ℕ) → (q ≡ r) ⊎ (q < r) → goals q ≡ []
      go q (inl i) = subst (λ k. goals k ≡ []) (sym i) (first-none (goals r) e)
      go q (inr l) = j.none q l

  pub judge-open : {r t : ℕ} → Judging goals n r → r < n → first_of (goals r) ≡ Some t → Judged goals n (Open r t)
  judge-open j h e = opens h j.none e

  pub judge-end : {r : ℕ} → Judging goals n r → n ≤ r → Judged goals n Unsatisfiable
  judge-end {r} j h = closes (λ q l. j.none q (omega arith))

-- ---- the verdict

module _ (S : Tableau) (goal : Form) where
  over_none : (k n : ℕ) → ((q : ℕ) → q < k + n → goal_types S goal q ≡ []) → verdict_over S goal (count_from k n) ≡ Ctl.unsatisfiable
  unfolding verdict_over
  over_none k zero h = refl
  over_none k (suc n) h =
      ap (λ l. elim l as (λ x. Ctl.Verdict) [ [] ↦ verdict_over S goal (count_from (suc k) n) | t ∷ ts ↦ Ctl.open' k t ]) (h k (omega arith))
      ∙ over_none (suc k) n (λ q l. h q (omega arith))

  over-open : (k n r t : ℕ) → k ≤ r → r < k + n → ((q : ℕ) → q < r → goal_types S goal q ≡ []) → first_of (goal_types S goal r) ≡ Some t → verdict_over S goal (count_from k n) ≡ Ctl.open' r t
  unfolding verdict_over
  over-open k zero r t a b h e = absurd (omega arith)
  over-open k (suc n) r t a b h e = go (dec_le r k) (λ l. over-open (suc k) n r t l (omega arith) h e)
    where
      step : (l : List ℕ) → goal_types S goal k ≡ l → verdict_over S goal (count_from k (suc n)) ≡ (elim l as (λ x. Ctl.Verdict) [ [] ↦ verdict_over S goal (count_from (suc k) n) | t ∷ ts ↦ Ctl.open' k t ])
      step l i = ap (λ l. elim l as (λ x. Ctl.Verdict) [ [] ↦ verdict_over S goal (count_from (suc k) n) | t ∷ ts ↦ Ctl.open' k t ]) i

      go : Dec (r ≤ k) → (suc k ≤ r → verdict_over S goal (count_from (suc k) n) ≡ Ctl.open' r t) → verdict_over S goal (count_from k (suc n)) ≡ Ctl.open' r t
      go (yes i) later =
          let q : k ≡ r = omega arith in
          let f = first_some (goal_types S goal r) t e in
          step (t ∷ f.0) (ap (goal_types S goal) q ∙ f.1) ∙ ap (λ x. Ctl.open' x t) q
      go (no i) later = step [] (h k (omega arith)) ∙ later (omega arith)

  pub judged-verdict : {a : Verdict} → Judged (goal_types S goal) (namings S) a → verdict S goal ≡ verdict_of a
  unfolding verdict
  judged-verdict (opens {r} {t} l h e) = over-open 0 (namings S) r t (omega arith) (omega arith) h e
  judged-verdict (closes h) = over_none 0 (namings S) (λ q l. h q (omega arith))

-- ---- from the words to the verdict

judged-as : {f g : ℕ → List ℕ} {n : ℕ} {a : Verdict} → ((r : ℕ) → f r ≡ g r) → Judged f n a → Judged g n a
judged-as i (opens {r} {t} l h e) = opens l (λ q k. sym (i q) ∙ h q k) (ap first_of (sym (i r)) ∙ e)
judged-as i (closes h) = closes (λ q k. sym (i q) ∙ h q k)

module _ {S : Tableau} {ms ln globals names values : List ℕ} (m : Matches S ms ln globals names values) (w : ℕ) (base : List ℕ) (eb : Based w (in_base ms ln globals values) names base) (top : 2 ^ length ln ≤ w * 64)
    (goal : ℕ) where
  pub goals-are : (r : ℕ) → goals_at ms ln w base names goal r ≡ goal_types S (form ms goal) r
  unfolding goals_at goal_types
  goals-are r = ap₂ (λ l k. keep (λ t. truth l t (form ms goal)) k) (sym m.lean) (surviving-types m w base eb top r)

  -- what `judge` finds is the verdict
  pub judged-is : {a : Verdict} → Judged (goals_at ms ln w base names goal) (namings S) a → verdict S (form ms goal) ≡ verdict_of a
  judged-is j = judged-verdict S (form ms goal) (judged-as goals-are j)

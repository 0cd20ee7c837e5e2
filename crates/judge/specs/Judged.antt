-- What judging finds: the first naming that has a goal type, with the first of these; or that there is none. Assumes nothing.
use Rattle.std.specs.Prelude.{◌≡◌, List, [], ℕ, Some, ◌+◌, ◌*◌, ◌^◌, ◌≤◌, ◌<◌, length}
use Rattle.ctl.specs.Lists.{keep}
use Rattle.ctl.specs.Verdict as Ctl
use Rattle.truth.specs.Truths.{true_at}
use Rattle.tableau.specs.Families.{Survivors}
use Rattle.tableau.specs.declared.words.Sheet.{Sheet}
use Rattle.start.specs.Starts.{Named, start_list}
use Rattle.goal.specs.Goals.{first_of}
use Rattle.judge.specs.declared.Verdict.{Verdict}
use Rattle.judge.specs.declared.Verdict.TheVariants.{Open, Unsatisfiable}

-- the surviving types of naming r that have the goal, which is a member of the table
unfoldable pub goals_at : List ℕ → List ℕ → ℕ → List ℕ → List ℕ → ℕ → ℕ → List ℕ
goals_at ms ln w base names goal r = keep (true_at ms ln goal) (Survivors ms ln (start_list w base names (length ln) r))

-- the same of what a sheet's tables are made from
abbrev pub goals_of : Sheet → ℕ → ℕ → List ℕ
goals_of s goal = goals_at s.ms.now s.ln.now s.words.w s.base.now s.names.now goal

-- what judging asks: room for w words in each store, and that these hold the lean's types, with the names' places among the lean's
pub record Room (w : ℕ) (first second copy todo v rest : List ℕ) : Type 0 where
  pub first-room : w ≤ length first
  pub second-room : w ≤ length second
  pub copy-room : w ≤ length copy
  pub todo-room : w ≤ length todo
  pub v-room : w ≤ length v
  pub rest-room : w ≤ length rest

pub record Places (w : ℕ) (ln names base : List ℕ) : Type 0 where
  pub named : Named names (length ln)
  pub enough : 2 ^ length ln ≤ w * 64
  pub base-room : w + w ≤ length base

abbrev pub Placed : Sheet → Type 0
Placed s = Places s.words.w s.ln.now s.names.now s.base.now

-- of namings below n, where `goals` gives the goal types of each
pub data Judged (goals : ℕ → List ℕ) (n : ℕ) : Verdict → Type 0 where
  opens : {r t : ℕ} → r < n → ((q : ℕ) → q < r → goals q ≡ []) → first_of (goals r) ≡ Some t → Judged goals n (Open r t)
  closes : ((q : ℕ) → q < n → goals q ≡ []) → Judged goals n Unsatisfiable

-- the verdict of the logic
abbrev pub verdict_of : Verdict → Ctl.Verdict
verdict_of (Open r t) = Ctl.open' r t
verdict_of Unsatisfiable = Ctl.unsatisfiable

-- What writing all pages of a sheet asks. Assumes nothing.
use Rattle.std.specs.Prelude.{◌≡◌, List, ℕ, ◌^◌, ◌≤◌}
use Rattle.ctl.specs.Tableau as Tableau
use Rattle.limits.specs.declared.Limits.{Limits}
use Rattle.limits.specs.Limits.{refusal_under}
use Rattle.prepare.specs.Prepared.{tableau_in}
use Rattle.judge.specs.declared.Verdict.{Verdict}
use Rattle.judge.specs.Judged.{Judged, goals_at, verdict_of}
use Rattle.fitted.specs.Accepted.{verdict_in}
use Rattle.pages.specs.Pages.{row_at}
use Rattle.report.specs.Text.{naming_of}

-- what the tables are filled from is that of the sheet, which is not refused
pub record Prints (l : Limits) (s newline ms ln : List ℕ) (w : ℕ) (base names : List ℕ) (goal n : ℕ) : Type 0 where
  pub accepted : refusal_under l s ≡ 0
  pub line-is : (r : ℕ) → row_at ms ln w base names newline r ≡ naming_of s newline r
  pub namings-are : n ≡ Tableau.namings (tableau_in s)
  pub few-namings : n ≤ 2 ^ 22
  pub verdict-is : {v : Verdict} → Judged (goals_at ms ln w base names goal) n v → verdict_in s ≡ verdict_of v

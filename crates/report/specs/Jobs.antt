-- What is printed of a job: a sheet under limits, each line ended by a newline. Assumes nothing.
use Rattle.std.specs.Prelude.{List, ℕ}
use Rattle.limits.specs.Limits.{refusal_under}
use Rattle.tableau.specs.declared.words.Sheet.{Sheet}
use Rattle.report.specs.declared.Job.{Job}
use Rattle.report.specs.Prints.{Prints}
use Rattle.report.specs.Text.{lines_of}

abbrev pub lines_in : Job → List (List ℕ)
lines_in j = lines_of j.limits j.sheet.now j.newline.now

abbrev pub refusal_in : Job → ℕ
refusal_in j = refusal_under j.limits j.sheet.now

-- what the tables are made from is that of the job's sheet
abbrev pub PrintsIn : Job → Sheet → ℕ → ℕ → Type 0
PrintsIn j t goal n = Prints j.limits j.sheet.now j.newline.now t.ms.now t.ln.now t.words.w t.base.now t.names.now goal n

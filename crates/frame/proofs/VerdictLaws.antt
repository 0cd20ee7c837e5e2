-- A frame is enough to judge by: what `judge` finds over it is the verdict on the sheet's goal. Assumes nothing.
use mathlib.Core.Path.{◌≡◌, sym, ap, ◌∙◌, subst}
use mathlib.Core.List.{List}
use Prim.Native.Nat.{ℕ}
use Rattle.ctl.specs.Formula.{Form}
use Rattle.ctl.specs.Tableau.{Tableau}
use Rattle.ctl.specs.Verdict.{verdict}
use Rattle.start.specs.Starts.{Based, in_base}
use Rattle.judge.specs.declared.Verdict.{Verdict}
use Rattle.judge.specs.Judged.{Judged, goals_at, verdict_of}
use Rattle.judge.proofs.JudgeLaws.{judged-is}
use Rattle.frame.specs.declared.Frame.{Frame}
use Rattle.frame.specs.Framed.{Framed}
use Rattle.frame.proofs.Stores.{enough-words}

module _ {S : Tableau} {goal : Form} {ms ln globals names values : List ℕ} {f : Frame} (x : Framed S goal ms ln globals names values f) where
  pub framed-verdict : (base : List ℕ) → Based f.words (in_base ms ln globals values) names base → {a : Verdict} → Judged (goals_at ms ln f.words base names f.goal) f.namings a → verdict S goal ≡ verdict_of a
  framed-verdict base b {a} j =
      ap (verdict S) (sym x.goal-is)
      ∙ judged-is x.matches f.words base b (enough-words x) f.goal
      (subst (λ n. Judged (goals_at ms ln f.words base names f.goal) n a) x.namings-are j)

-- What the program hands to the output of a sheet that is to be cleaned, from what Clean answers; and that it prints of a clean sheet what it prints of the sheet. Assumes nothing.
use mathlib.Core.Path.{◌≡◌, refl, sym, ap, ap₂, ◌∙◌, subst}
use mathlib.Core.Bool.{cond}
use mathlib.Core.List.{List, [], ◌∷◌, ◌++◌, map}
use Prim.Native.Nat.{ℕ, zero, suc, ◌≤◌}
use native.Mathlib.Omega.{arith}
use lib.ListN.{length, take}
use Rattle.ctl.specs.Lists.{below}
use Rattle.ctl.specs.Tableau.{namings, start_types}
use Rattle.ctl.specs.Verdict.{rounds_of, surviving_types, verdict}
use Rattle.buffer.specs.Put.{Put}
use Rattle.buffer.proofs.PutLaws.{put_front}
use Rattle.lines.specs.Lines.{heading_line, joined, naming_line, refused_line, verdict_heading, verdict_line}
use Rattle.limits.specs.declared.Limits.{Limits}
use Rattle.limits.specs.Limits.{Wider, refusal_under}
use Rattle.outcomes.proofs.WiderLimits.{wider-alike}
use Rattle.fitted.specs.Accepted.{verdict_in}
use Rattle.clean.specs.Clean.{clean_wrong}
use Rattle.std.specs.Prelude.{Result, Ok, Err}
use Rattle.refusal.specs.declared.Refusal.{Refusal}
use Rattle.refusal.specs.Number.{number_of, refused_as}
use Rattle.refusal.proofs.NumberLaws.{number-some}
use Rattle.outcomes.specs.Outcomes.{CleanIs, clean_refusal, or_else}
use Rattle.outcomes.proofs.CleanSheet.{clean_is, clean-none, clean-room, clean-same, clean-tableau, clean-under}
use Rattle.outcomes.proofs.SameOutcomes.{same-goal}
use Rattle.report.specs.Cleaned.{cleaned_by, cleaned_of}
use Rattle.report.specs.Text.{lines_by, lines_of, naming_of, text_of}

module _ {L : Limits} {s d d' : List ℕ} {o : Result ℕ Refusal} (h : CleanIs L s d o d') (long : length d ≡ 1024) where
  cleaned-by : (k : ℕ) → clean_refusal L s (length d) ≡ k → cleaned_of L s ≡ cleaned_by s k
  unfolding cleaned_of
  cleaned-by k e = ap (cleaned_by s) (ap (clean_refusal L s) (sym long) ∙ e)

  module _ {n : ℕ} (e : o ≡ Ok n) where
    is-done : CleanIs L s d (Ok n) d'
    is-done = subst (λ a. CleanIs L s d a d') e h

    pub text-within : n ≤ 1024
    text-within = let r = clean-room is-done in omega arith

    pub text-whole : take n d' ≡ cleaned_of L s
    text-whole = clean_is is-done ∙ sym (cleaned-by 0 (clean-none is-done))

  pub refused-whole : {e : Refusal} {k r : ℕ} {out out' : List ℕ} → o ≡ Err e → k ≡ number_of e → Put 0 (refused_line k (10 ∷ [])) out out' r → take r out' ≡ cleaned_of L s
  refused-whole {e} {k} {r} {out} {out'} i j p = go (number_of e) (number-some e) (sym (ap refused_as i) ∙ h.number)
    where
      go : (q : ℕ) → (q ≡ 0 → ⊥) → q ≡ clean_refusal L s (length d) → take r out' ≡ cleaned_of L s
      go zero n w = absurd (n refl)
      go (suc q) n w = let u : k ≡ suc q = j ∙ ap refused_as (sym i) ∙ h.number ∙ sym w in put_front (omega arith) p ∙ ap (λ j. refused_line j (10 ∷ [])) u ∙ sym (cleaned-by (suc q) (sym w))

-- ---- what is printed of a clean sheet

module _ {L : Limits} {s d d' : List ℕ} {n : ℕ} (h : CleanIs L s d (Ok n) d') (newline : List ℕ) where
  same_lines : (k : ℕ) → lines_by (take n d') newline k ≡ lines_by s newline k
  unfolding naming_of verdict_in
  same_lines zero =
      ap₂ (λ T p. heading_line newline ∷ (map (λ r. naming_line r (length (start_types T r)) (length (surviving_types T r)) (rounds_of T r) newline) (below (namings T)) ++ (verdict_heading newline ∷ verdict_line (verdict T p) newline ∷ [])))
      (clean-tableau h) (same-goal (clean-same h))
  same_lines (suc k) = refl

  pub clean-printed : (K : Limits) → text_of K (take n d') newline ≡ text_of K s newline
  unfolding text_of lines_of
  clean-printed K = ap joined (ap (lines_by (take n d') newline) (clean-under h K) ∙ same_lines (refusal_under K s))

-- ---- what is printed under wider limits

module _ {l m : Limits} (s : List ℕ) (w : Wider l m) (z : refusal_under l s ≡ 0) where
  pub wider-printed : (newline : List ℕ) → text_of m s newline ≡ text_of l s newline
  unfolding text_of lines_of
  wider-printed newline = ap (λ k. joined (lines_by s newline k)) (wider-alike s w z)

  pub wider-cleaned : cleaned_of m s ≡ cleaned_of l s
  unfolding cleaned_of clean_refusal
  wider-cleaned = ap (λ k. cleaned_by s (or_else k (cond (clean_wrong s 1024) 18 0))) (wider-alike s w z)

-- What is handed to the output, all writes together, is the sheet's text; and what that text is made of. Assumes nothing.
use mathlib.Core.Path.{◌≡◌, refl, sym, ap, ◌∙◌}
use mathlib.Core.List.{List, [], ◌∷◌, ◌++◌, append-nil}
use Prim.Native.Nat.{ℕ}
use native.Mathlib.Omega.{arith}
use lib.ListN.{length}
use Rattle.ctl.specs.Tableau.{namings}
use Rattle.limits.specs.declared.Limits.{Limits}
use Rattle.limits.specs.Limits.{refusal_under}
use Rattle.prepare.specs.Prepared.{tableau_in}
use Rattle.lines.specs.Lines.{heading_line, refused_line, verdict_heading, verdict_line, joined}
use Rattle.report.specs.Handed.{Handed, none, more}
use Rattle.pages.specs.Pages.{rows}
use Rattle.fitted.specs.Accepted.{verdict_in}
use Rattle.report.specs.Text.{lines_of, naming_of, text_of, up_to}
use Rattle.report.proofs.TextLaws.{accepted-count, joined-append, refused-count, refused-text, upto-length, upto-naming, upto-verdict}

handed-lines : {lines : List (List ℕ)} {n : ℕ} {writes : List (List ℕ)} → Handed lines n writes → joined writes ≡ up_to n lines
handed-lines none = refl
handed-lines (more {writes} b h e) = joined-append writes (b ∷ []) ∙ ap (λ t. joined writes ++ t) (append-nil b) ∙ ap (λ t. t ++ b) (handed-lines h) ∙ e

-- `report` hands over as many lines as the text has
pub handed-text : (L : Limits) (s newline : List ℕ) {writes : List (List ℕ)} → Handed (lines_of L s newline) (length (lines_of L s newline)) writes → joined writes ≡ text_of L s newline
handed-text L s newline h = handed-lines h ∙ upto-length L s newline

module _ (L : Limits) (s newline : List ℕ) where
  pub text-refused : (k : ℕ) → k ≡ refusal_under L s → (k ≡ 0 → ⊥) → text_of L s newline ≡ refused_line k newline
  text-refused k e n = sym (upto-length L s newline) ∙ ap (λ i. up_to i (lines_of L s newline)) (sym (refused-count L s newline k e n)) ∙ refused-text L s newline k e n

  -- the heading, the lines of all namings in their order, and the verdict under its heading
  pub text-accepted : refusal_under L s ≡ 0
      → text_of L s newline ≡ heading_line newline ++ rows (naming_of s newline) 0 (namings (tableau_in s)) ++ (verdict_heading newline ++ verdict_line (verdict_in s) newline)
  text-accepted z =
      sym (upto-length L s newline) ∙ ap (λ i. up_to i (lines_of L s newline)) (accepted-count L s newline z) ∙ upto-verdict L s newline z
      ∙ ap (λ t. t ++ (verdict_heading newline ++ verdict_line (verdict_in s) newline)) (upto-naming L s newline z (namings (tableau_in s)) (omega arith))

-- A sheet's text, cut at its lines: the lines of a refused sheet, and where the heading, the namings and the verdict stand in the others. Assumes nothing.
use mathlib.Core.Path.{◌≡◌, refl, sym, ap, ap₂, ◌∙◌}
use mathlib.Core.List.{List, [], ◌∷◌, ◌++◌, append_assoc, append-nil, map}
use Prim.Native.Nat.{ℕ, zero, suc, ◌+◌, ◌-◌, ◌≤◌}
use native.Mathlib.Numerals.{add-one}
use native.Mathlib.Omega.{arith}
use lib.ListN.{length, take, length-append}
use lib.Seq.{take-length}
use Rattle.ctl.specs.Lists.{below, count_from}
use Rattle.ctl.specs.Tableau.{namings}
use Rattle.limits.specs.declared.Limits.{Limits}
use Rattle.limits.specs.Limits.{refusal_under}
use Rattle.prepare.specs.Prepared.{tableau_in}
use Rattle.lines.specs.Lines.{heading_line, refused_line, verdict_heading, verdict_line, joined}
use Rattle.pages.specs.Pages.{rows}
use Rattle.fitted.specs.Accepted.{verdict_in}
use Rattle.report.specs.Text.{lines_by, lines_of, naming_of, text_of, up_to}

pub joined-append : (a b : List (List ℕ)) → joined (a ++ b) ≡ joined a ++ joined b
joined-append [] b = refl
joined-append (l ∷ a) b = ap (λ t. l ++ t) (joined-append a b) ∙ sym (append_assoc l (joined a) (joined b))

length_run : (f : ℕ → List ℕ) (a n : ℕ) → length (map f (count_from a n)) ≡ n
length_run f a zero = refl
length_run f a (suc n) = ap suc (length_run f (suc a) n)

take-run : (f : ℕ → List ℕ) (rest : List (List ℕ)) (a m n : ℕ) → m ≤ n → take m (map f (count_from a n) ++ rest) ≡ map f (count_from a m)
take-run f rest a zero n h = refl
take-run f rest a (suc m) zero h = absurd (omega arith)
take-run f rest a (suc m) (suc n) h = ap (λ l. f a ∷ l) (take-run f rest (suc a) m n (omega arith))

rows-first : (f : ℕ → List ℕ) (m : ℕ) → joined (map f (below m)) ≡ rows f 0 m
rows-first f m = let e : m ≡ m - 0 = omega arith in ap (λ k. joined (map f (count_from 0 k))) e

-- all lines are the text
pub upto-length : (L : Limits) (s newline : List ℕ) → up_to (length (lines_of L s newline)) (lines_of L s newline) ≡ text_of L s newline
unfolding text_of
upto-length L s newline = ap joined (take-length (lines_of L s newline))

-- ---- a refused sheet

refused-by : (s newline : List ℕ) (k : ℕ) → (k ≡ 0 → ⊥) → lines_by s newline k ≡ refused_line k newline ∷ []
refused-by s newline zero n = absurd (n refl)
refused-by s newline (suc k) n = refl

module _ (L : Limits) (s newline : List ℕ) (k : ℕ) (e : k ≡ refusal_under L s) (n : k ≡ 0 → ⊥) where
  refused-lines : lines_of L s newline ≡ refused_line k newline ∷ []
  unfolding lines_of
  refused-lines = ap (lines_by s newline) (sym e) ∙ refused-by s newline k n

  pub refused-text : up_to 1 (lines_of L s newline) ≡ refused_line k newline
  refused-text = ap (up_to 1) refused-lines ∙ append-nil (refused_line k newline)

  pub refused-count : 1 ≡ length (lines_of L s newline)
  refused-count = sym (ap length refused-lines)

-- ---- one that is not refused

module _ (L : Limits) (s newline : List ℕ) (z : refusal_under L s ≡ 0) where
  abbrev N : ℕ
  N = namings (tableau_in s)

  abbrev last : List (List ℕ)
  last = verdict_heading newline ∷ verdict_line (verdict_in s) newline ∷ []

  accepted-lines : lines_of L s newline ≡ heading_line newline ∷ (map (naming_of s newline) (below N) ++ last)
  unfolding lines_of
  accepted-lines = ap (lines_by s newline) z

  pub accepted-count : length (lines_of L s newline) ≡ N + 3
  accepted-count =
      let a : length (map (naming_of s newline) (below N) ++ last) ≡ N + 2 = length-append (map (naming_of s newline) (below N)) last ∙ ap (λ k. k + 2) (length_run (naming_of s newline) 0 N) in
      ap length accepted-lines ∙ omega arith

  -- the heading and the lines of the namings before m
  pub upto-naming : (m : ℕ) → m ≤ N → up_to (m + 1) (lines_of L s newline) ≡ heading_line newline ++ rows (naming_of s newline) 0 m
  upto-naming m h =
      ap₂ up_to (add-one m) accepted-lines
      ∙ ap (λ l. heading_line newline ++ joined l) (take-run (naming_of s newline) last 0 m N h)
      ∙ ap (λ l. heading_line newline ++ l) (rows-first (naming_of s newline) m)

  -- and behind the lines of all namings, the verdict
  pub upto-verdict : up_to (N + 3) (lines_of L s newline) ≡ up_to (N + 1) (lines_of L s newline) ++ (verdict_heading newline ++ verdict_line (verdict_in s) newline)
  upto-verdict =
      ap (λ k. up_to k (lines_of L s newline)) (sym accepted-count) ∙ ap joined (take-length (lines_of L s newline) ∙ accepted-lines)
      ∙ ap (λ t. heading_line newline ++ t)
      (joined-append (map (naming_of s newline) (below N)) last
      ∙ ap₂ ◌++◌ (rows-first (naming_of s newline) N) (ap (λ t. verdict_heading newline ++ t) (append-nil (verdict_line (verdict_in s) newline))))
      ∙ sym (append_assoc (heading_line newline) (rows (naming_of s newline) 0 N) (verdict_heading newline ++ verdict_line (verdict_in s) newline))
      ∙ ap (λ t. t ++ (verdict_heading newline ++ verdict_line (verdict_in s) newline)) (sym (upto-naming N (omega arith)))

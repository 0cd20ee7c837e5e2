-- Page after page: the lines that were handed over and those in the buffer are the first lines of the sheet's text. Assumes nothing.
use mathlib.Core.Path.{◌≡◌, refl, sym, ap, ap₂, ◌∙◌}
use mathlib.Core.List.{List, ◌++◌, append_assoc, append-nil}
use Prim.Native.Nat.{ℕ, ◌+◌, ◌≤◌, ◌<◌}
use native.Mathlib.Omega.{arith}
use lib.ListN.{length, take}
use Rattle.limits.specs.declared.Limits.{Limits}
use Rattle.naming.specs.Next.{start_of}
use Rattle.naming.specs.declared.Naming.{Naming}
use Rattle.naming.proofs.NextLaws.{start-count, start-number}
use Rattle.judge.specs.Judged.{Judged, goals_at, verdict_of}
use Rattle.judge.specs.declared.Verdict.{Verdict}
use Rattle.judge.specs.declared.Verdict.TheVariants.{Unsatisfiable}
use Rattle.lines.specs.Lines.{heading_line, verdict_heading, verdict_line}
use Rattle.buffer.specs.Put.{Put}
use Rattle.buffer.proofs.PutLaws.{put_front}
use Rattle.pages.specs.Pages.{Paged, row_at, rows}
use Rattle.report.specs.Prints.{Prints}
use Rattle.report.specs.Text.{lines_of, naming_of, up_to}
use Rattle.pages.specs.declared.Page.{Page}
use Rattle.pages.proofs.PageLaws.{judged-at, judged-none}
use Rattle.pages.proofs.RowLaws.{rows_none, rows_same, rows_split}
use Rattle.report.proofs.TextLaws.{accepted-count, upto-naming, upto-verdict}

-- the loop, before a page: `done` lines were handed over, and the buffer holds the next ones up to naming n
pub record Printing (L : Limits) (s newline : List ℕ) (goals : ℕ → List ℕ) (total : ℕ) (out₀ out : List ℕ) (done used : ℕ) (n : Naming) (v : Verdict) : Type 0 where
  pub counts : n.count ≡ total
  pub within : n.number ≤ total
  pub judged : Judged goals n.number v
  pub text : up_to done (lines_of L s newline) ++ take used out ≡ up_to (n.number + 1) (lines_of L s newline)
  pub out-same : length out ≡ length out₀
  pub room : used + 256 ≤ length out

module _ {L : Limits} {s newline ms ln : List ℕ} {w : ℕ} {base names : List ℕ} {goal total : ℕ} (x : Prints L s newline ms ln w base names goal total) where
  abbrev line : ℕ → List ℕ
  line = row_at ms ln w base names newline

  abbrev goals : ℕ → List ℕ
  goals = goals_at ms ln w base names goal

  pub printing-start : {entry out : List ℕ} {used done : ℕ} {n : Naming} → done ≡ 0 → 512 ≤ length entry → Put 0 (heading_line newline) entry out used × (used ≤ 0 + 128) → length out ≡ length entry → n ≡ start_of total
      → Printing L s newline goals total out out done used n Unsatisfiable
  printing-start {entry} {out} {used} {done} {n} d h p l e =
      let z = start-number n e in
      let b = p.1 in
      record {
        counts = start-count n e;
        within = omega arith;
        judged = judged-at judged-none (sym z);
        text =
            ap (λ k. up_to k (lines_of L s newline) ++ take used out) d ∙ put_front (omega arith) p.0 ∙ sym (append-nil (heading_line newline)) ∙ ap (λ t. heading_line newline ++ t) (sym (rows_none (naming_of s newline) 0))
            ∙ sym (upto-naming L s newline x.accepted 0 (omega arith)) ∙ ap (λ k. up_to (k + 1) (lines_of L s newline)) (sym z);
        out-same = refl;
        room = omega arith;
      }

  module _ {out₀ out : List ℕ} {done used : ℕ} {n : Naming} {v : Verdict} (p : Printing L s newline goals total out₀ out done used n v) {out' : List ℕ} {g : Page} (q : Paged line goals n used out out' g) where
    -- a page's lines stand behind those before it
    page-text : n.number ≤ g.naming.number → up_to done (lines_of L s newline) ++ take g.used out' ≡ up_to (g.naming.number + 1) (lines_of L s newline)
    page-text h =
        let a = n.number in
        let b = g.naming.number in
        let i = p.counts in
        let j = q.within in
        let k = x.namings-are in
        let f = naming_of s newline in
        ap (λ t. up_to done (lines_of L s newline) ++ t) q.text
        ∙ sym (append_assoc (up_to done (lines_of L s newline)) (take used out) (rows line a b))
        ∙ ap₂ ◌++◌ (p.text ∙ upto-naming L s newline x.accepted a (omega arith)) (rows_same line f x.line-is a b)
        ∙ append_assoc (heading_line newline) (rows f 0 a) (rows f a b)
        ∙ ap (λ t. heading_line newline ++ t) (sym (rows_split f 0 a b (omega arith) h))
        ∙ sym (upto-naming L s newline x.accepted b (omega arith))

    -- where namings are left
    pub page-next : g.naming.number < total → up_to done (lines_of L s newline) ++ take g.used out' ≡ up_to (g.naming.number + 1) (lines_of L s newline)
    page-next h = let c = p.counts in let f = q.further (omega arith) in page-text (omega arith)

    pub page-less : g.naming.number < total → (g.naming.count ≡ total) × (n.number < g.naming.number)
    page-less h = let c = p.counts in (q.same_count ∙ c, q.further (omega arith))

    pub printing-next : g.naming.number < total → 512 ≤ length out₀ → length out' ≡ length out → {done' : ℕ} → done' ≡ g.naming.number + 1 → Printing L s newline goals total out₀ out' done' 0 g.naming g.verdict
    printing-next h m l e =
        let o = p.out-same in
        record {
          counts = q.same_count ∙ p.counts;
          within = omega arith;
          judged = q.judged;
          text = append-nil _ ∙ ap (λ k. up_to k (lines_of L s newline)) e;
          out-same = l ∙ o;
          room = omega arith;
        }

    -- where none is left, the verdict's lines end the text
    module _ (h : total ≤ g.naming.number) where
      ended : g.naming.number ≡ total
      ended = let c = p.counts in let w = q.within in omega arith

      pub last-lines : g.used ≤ length out' → {out'' : List ℕ} {m : ℕ} → Put g.used (verdict_heading newline ++ verdict_line (verdict_of g.verdict) newline) out' out'' m
          → up_to done (lines_of L s newline) ++ take m out'' ≡ up_to (total + 3) (lines_of L s newline)
      last-lines r {out''} {m} u =
          let i = p.within in
          let e = ended in
          let t : List ℕ = verdict_heading newline ++ verdict_line (verdict_of g.verdict) newline in
          ap (λ l. up_to done (lines_of L s newline) ++ l) (put_front r u)
          ∙ sym (append_assoc (up_to done (lines_of L s newline)) (take g.used out') t)
          ∙ ap₂ (λ l k. l ++ (verdict_heading newline ++ verdict_line k newline))
          (page-text (omega arith) ∙ ap (λ k. up_to (k + 1) (lines_of L s newline)) (e ∙ x.namings-are))
          (sym (x.verdict-is (judged-at q.judged e)))
          ∙ sym (upto-verdict L s newline x.accepted) ∙ ap (λ k. up_to (k + 3) (lines_of L s newline)) (sym x.namings-are)

  pub all_lines : {r : ℕ} → r ≡ total + 3 → r ≡ length (lines_of L s newline)
  all_lines e = e ∙ ap (λ k. k + 3) x.namings-are ∙ sym (accepted-count L s newline x.accepted)

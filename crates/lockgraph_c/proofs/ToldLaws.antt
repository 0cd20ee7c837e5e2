-- What a caller in C is told at each return, from what the library ensures; and that the store told of is the one that the library's `part_of` reads. Assumes nothing.
use mathlib.Core.Path.{◌≡◌, refl, sym, ap, ap₂, ◌∙◌, subst}
use mathlib.Core.Bool.{Bool, true, false, cond}
use mathlib.Core.List.{List, [], ◌∷◌}
use Prim.Native.Nat.{ℕ, ◌-◌, ◌%◌}
use lib.Dec.{eqb}
use borrow.Author.Tests.{ne_eqb}
use lib.ListN.{length, take, drop}
use Rattle.layout.specs.Layout.{LastText, lines, lines_from}
use Rattle.layout.specs.Text.{part}
use Rattle.layout.specs.declared.formulas.Span.{Span}
use Rattle.layout.proofs.ScanLaws.{part_length}
use Rattle.sheet.proofs.SheetLaws.{goal-is, goal-place, goal-refused, start-refused}
use Rattle.sheet.proofs.RefusalLaws.{right-layout}
use Rattle.sheet.specs.Sheet.{goal_start, goal_under}
use Rattle.limits.specs.declared.Limits.{Limits}
use Rattle.limits.specs.Limits.{refusal_under}
use Rattle.limits.proofs.LimitLaws.{accepted-read}
use Rattle.std.specs.Prelude.{Result, Ok, Err}
use Rattle.refusal.specs.declared.Refusal.{Refusal}
use Rattle.refusal.specs.Number.{number_of, refused_as}
use Rattle.refusal.proofs.NumberLaws.{number-some}
use Rattle.judge.specs.declared.Verdict.{Verdict}
use Rattle.judge.specs.declared.Verdict.TheVariants.{Open, Unsatisfiable}
use Rattle.outcomes.specs.declared.Tabled.{Tabled}
use Rattle.outcomes.specs.declared.Booked.{Booked}
use Rattle.outcomes.specs.Demands.{SnapshotMeans, TableDemand2, TableDemand3, VerdictDemand2, VerdictDemand3}
use Rattle.outcomes.specs.Outcomes.{BookIs, CleanIs, ListIs, SnapshotIs, TableIs, part_of, verdict_of}
use Rattle.lockgraph_c.specs.Told.{BookTold, CleanTold, GoalTold, ListTold, SnapshotTold, TableTold, VerdictTold, book_numbers, count_numbers, goal_numbers, table_numbers, verdict_numbers, written_last}

-- ---- Table

module _ {l : Limits} {s : List ℕ} {r : ℕ} {first second out first' second' : List ℕ} {o : Result Tabled Refusal} (is : TableIs l s r first second o first' second') (closed : TableDemand2 s r o first' second')
    (whole : TableDemand3 l s r o first' second') where
  pub table-refused : {e : Refusal} {k : ℕ} → o ≡ Err e → k ≡ number_of e → TableTold l s r first second out k first' second' out
  table-refused e i = record {
    answer = o;
    is = is;
    closed = closed;
    whole = whole;
    number = i ∙ sym (ap refused_as e);
    numbers = sym (ap (λ a. table_numbers a out) e);
  }

  pub table_done : {t : Tabled} {last : ℕ} → o ≡ Ok t → last ≡ written_last t.rounds → TableTold l s r first second out 0 first' second' (t.words ∷ t.start ∷ t.left ∷ t.rounds ∷ last ∷ [])
  table_done {t} e h = record {
    answer = o;
    is = is;
    closed = closed;
    whole = whole;
    number = sym (ap refused_as e);
    numbers = ap (λ q. t.words ∷ t.start ∷ t.left ∷ t.rounds ∷ q ∷ []) h ∙ sym (ap (λ a. table_numbers a out) e);
  }

-- the number of a store against the choice that `part_of` makes
chosen : (b : Bool) (first second : List ℕ) → cond b second first ≡ cond (eqb (cond b 2 1) 2) second first
chosen true first second = refl
chosen false first second = refl

-- after an answer that is no refusal, the part handed back is the beginning of the store that `out` tells of
pub part-told : (t : Tabled) (first second : List ℕ) → part_of (Ok t) first second ≡ cond (eqb (written_last t.rounds) 2) (take t.words second) (take t.words first)
part-told t first second = chosen (eqb (t.rounds % 2) 0) (take t.words first) (take t.words second)

-- ---- Book

module _ {l : Limits} {s d out d' : List ℕ} {o : Result Booked Refusal} (is : BookIs l s d o d') where
  pub book-refused : {e : Refusal} {k : ℕ} → o ≡ Err e → k ≡ number_of e → BookTold l s d out k d' out
  book-refused e i = record { answer = o; is = is; number = i ∙ sym (ap refused_as e); numbers = sym (ap (λ a. book_numbers a out) e) }

  pub book-done : {b : Booked} → o ≡ Ok b → BookTold l s d out 0 d' (b.namings ∷ b.words ∷ [])
  book-done e = record { answer = o; is = is; number = sym (ap refused_as e); numbers = sym (ap (λ a. book_numbers a out) e) }

-- ---- List

module _ {l : Limits} {s : List ℕ} {r : ℕ} {d out d' : List ℕ} {o : Result ℕ Refusal} (is : ListIs l s r d o d') where
  pub list-refused : {e : Refusal} {k : ℕ} → o ≡ Err e → k ≡ number_of e → ListTold l s r d out k d' out
  list-refused e i = record { answer = o; is = is; number = i ∙ sym (ap refused_as e); numbers = sym (ap (λ a. count_numbers a out) e) }

  pub list_done : {n : ℕ} → o ≡ Ok n → ListTold l s r d out 0 d' (n ∷ [])
  list_done e = record { answer = o; is = is; number = sym (ap refused_as e); numbers = sym (ap (λ a. count_numbers a out) e) }

-- ---- Verdict

module _ {l : Limits} {s out : List ℕ} {o : Result Verdict Refusal} (is : o ≡ verdict_of l s) (which : refused_as o ≡ refusal_under l s) (closed : VerdictDemand2 l s o) (whole : VerdictDemand3 l s o) where
  told_of : {k : ℕ} {out' : List ℕ} → k ≡ refused_as o → out' ≡ verdict_numbers o out → VerdictTold l s out k out'
  told_of n ns = record {
    closed = subst (VerdictDemand2 l s) is closed;
    whole = subst (VerdictDemand3 l s) is whole;
    number = n ∙ ap refused_as is;
    refusal = n ∙ which;
    numbers = ns ∙ ap (λ a. verdict_numbers a out) is;
  }

  pub verdict-refused : {e : Refusal} {k : ℕ} → o ≡ Err e → k ≡ number_of e → VerdictTold l s out k out
  verdict-refused e i = told_of (i ∙ sym (ap refused_as e)) (sym (ap (λ a. verdict_numbers a out) e))

  pub verdict-open : {r t : ℕ} → o ≡ Ok (Open r t) → VerdictTold l s out 0 (1 ∷ r ∷ t ∷ [])
  verdict-open e = told_of (sym (ap refused_as e)) (sym (ap (λ a. verdict_numbers a out) e))

  pub verdict-none : o ≡ Ok Unsatisfiable → VerdictTold l s out 0 (2 ∷ 0 ∷ 0 ∷ [])
  verdict-none e = told_of (sym (ap refused_as e)) (sym (ap (λ a. verdict_numbers a out) e))

-- ---- Snapshot

module _ {l : Limits} {s t row out row' : List ℕ} {o : Result ℕ Refusal} (is : SnapshotIs l s t row o row') (means : SnapshotMeans l s t o row') where
  pub snapshot-refused : {e : Refusal} {k : ℕ} → o ≡ Err e → k ≡ number_of e → SnapshotTold l s t row out k row' out
  snapshot-refused e i = record { answer = o; is = is; means = means; number = i ∙ sym (ap refused_as e); numbers = sym (ap (λ a. count_numbers a out) e) }

  pub snapshot-done : {n : ℕ} → o ≡ Ok n → SnapshotTold l s t row out 0 row' (n ∷ [])
  snapshot-done e = record { answer = o; is = is; means = means; number = sym (ap refused_as e); numbers = sym (ap (λ a. count_numbers a out) e) }

-- ---- Clean

module _ {l : Limits} {s d out d' : List ℕ} {o : Result ℕ Refusal} (is : CleanIs l s d o d') where
  pub clean-refused : {e : Refusal} {k : ℕ} → o ≡ Err e → k ≡ number_of e → CleanTold l s d out k d' out
  clean-refused e i = record { answer = o; is = is; number = i ∙ sym (ap refused_as e); numbers = sym (ap (λ a. count_numbers a out) e) }

  pub clean-done : {n : ℕ} → o ≡ Ok n → CleanTold l s d out 0 d' (n ∷ [])
  clean-done e = record { answer = o; is = is; number = sym (ap refused_as e); numbers = sym (ap (λ a. count_numbers a out) e) }

-- ---- the goal's text

module _ (l : Limits) (s : List ℕ) where
  goal-by : {out out' : List ℕ} {k start long : ℕ} → k ≡ refusal_under l s → out' ≡ goal_numbers s k out → start ≡ goal_start s k → take long (drop start s) ≡ goal_under s k
      → long ≡ length (goal_under s k) → GoalTold l s out k out'
  goal-by {out} e n a g h = record {
    number = e;
    numbers = n ∙ ap (λ q. goal_numbers s q out) e;
    lies = subst (λ q. goal_under s q ≡ take (length (goal_under s q)) (drop (goal_start s q) s)) e (sym g ∙ ap₂ (λ x y. take x (drop y s)) h a);
  }

  pub goal-none : {out : List ℕ} {k : ℕ} (e : Refusal) → number_of e ≡ refusal_under l s → k ≡ number_of e → GoalTold l s out k out
  goal-none {out} {k} e i j =
      let n : k ≡ 0 → ⊥ = λ z. number-some e (sym j ∙ z) in
      goal-by (j ∙ i) (rw (ne_eqb k 0 n)) (start-refused s k n) (goal-refused s k n) (ap length (goal-refused s k n))

  pub goal-there : {out : List ℕ} (from : ℕ) (r : Span) → 0 ≡ refusal_under l s → lines_from s from ≡ drop 2 (lines s) → LastText s from r → GoalTold l s out 0 (r.start ∷ (r.end - r.start) ∷ [])
  goal-there {out} from r none q t =
      let g : part s r.start r.end ≡ goal_under s 0 = goal-is s (part s r.start r.end) 0 from refl q t.is in
      let a : r.start ≡ goal_start s 0 = goal-place s 0 from r refl q t (right-layout s (accepted-read l s (sym none))) in
      let long : r.end - r.start ≡ length (goal_under s 0) = sym (part_length s r.start r.end t.inside) ∙ ap length g in
      goal-by none (ap₂ (λ x y. x ∷ y ∷ []) a long) a g long

-- What Snapshot answers and leaves at each of its returns, and what that means. Assumes nothing.
use mathlib.Core.Path.{◌≡◌, refl, sym, ap, ap₂, ◌∙◌, subst}
use mathlib.Core.Bool.{cond}
use mathlib.Core.Logic.{◌↔◌}
use mathlib.Core.List.{List, ◌++◌, map}
use Prim.Native.Nat.{ℕ, ◌-◌, ◌*◌, ◌%◌, ◌≤◌, ◌<◌}
use native.Mathlib.Omega.{arith}
use lib.ListN.{length, get_or, take, drop, replicate, get_or-append}
use lib.Seq.{get_or-take, length-take-le}
use borrow.Author.Tests.{le-ltb, lt-ltb}
use Rattle.ctl.specs.Lists.{◌∈◌}
use Rattle.ctl.specs.Meaning.{HoldsRaw}
use Rattle.ctl.specs.Positive.{positive}
use Rattle.ctl.specs.Raw.{Raw}
use Rattle.ctl.specs.Snapshot.{Legal, of_lines}
use Rattle.evaluator.proofs.RowMeaning.{globals-bit, goal-bit, row-length}
use Rattle.evaluator.specs.Rows.{row_of}
use Rattle.head.proofs.HeadLaws.{line_first}
use Rattle.head.proofs.Spellings.{sheet-spellings}
use Rattle.layout.specs.Layout.{line_of}
use Rattle.head.specs.Head.{kinds}
use Rattle.layout.specs.Text.{end_of}
use Rattle.sheet.proofs.RefusalLaws.{right-kinds, some-symbols}
use Rattle.sheet.specs.Reading.{formulas, globals_of, goal_of, is_name, values_in}
use Rattle.snapshot.proofs.AnsweredLaws.{answered, nodes-held}
use Rattle.snapshot.specs.Answered.{Answered}
use Rattle.snapshot_text.specs.Lines.{line_store}
use Rattle.snapshot.specs.Read.{Few, read_snapshot}
use Rattle.snapshot_text.specs.Store.{of_store}
use Rattle.snapshot_text.specs.Text.{Text}
use Rattle.std.specs.Prelude.{Result, Ok, Err}
use Rattle.refusal.specs.declared.Refusal.{Refusal}
use Rattle.refusal.specs.declared.Refusal.TheVariants as Refusing
use Rattle.refusal.specs.Number.{number_of, refused_as}
use Rattle.refusal.proofs.NumberLaws.{number-some}
use Rattle.truth.specs.Tables.{Table, form}
use Rattle.reader.specs.Reader.{Says}
use Rattle.limits.specs.declared.Limits.{Limits}
use Rattle.limits.specs.Limits.{refusal_under}
use Rattle.limits.proofs.LimitLaws.{accepted-read}
use Rattle.reader.specs.declared.Reading as Reader
use Rattle.prepare.proofs.Bridge.{formulas-some, global-inside, globals-map, goal, goal-inside, table, table-length}
use Rattle.prepare.specs.Prepared.{kinds_of, table_of}
use Rattle.sheet.specs.Refusal.{read_refusal}
use Rattle.sheet.proofs.SizeLaws.{formulas-many, texts-five}
use Rattle.outcomes.specs.Demands.{RowMeans, SnapshotMeans}
use Rattle.outcomes.specs.Outcomes.{SnapshotIs, entries_in, nodes_of, row_in, row_refusal, snapshot_answer, snapshot_read, snapshot_refusal, snapshot_row}
use Rattle.outcomes.proofs.RefusalLaws.{else-next, else-none, refused-answer, refused-store, sheet-first}

pub whole : 128 ≤ 128
whole = omega arith

-- ---- the text under an accepted sheet

module _ (L : Limits) (s : List ℕ) (z : refusal_under L s ≡ 0) where
  some-kinds : 1 ≤ length (kinds s)
  some-kinds = let r = accepted-read L s z in let a = right-kinds s r in let b = some-symbols s r in omega arith

  pub few-kinds : length (kinds s) ≤ 8
  few-kinds = let r = accepted-read L s z in let a = right-kinds s r in let b = (sheet-spellings s).few in omega arith

  pub reads_as : (t : List ℕ) → Answered (line_of s 0) (kinds s) t (entries_in s t) (snapshot_read s t)
  reads_as t = answered (line_of s 0) (kinds s) t some-kinds few-kinds

-- ---- call by call

module _ (L : Limits) (s t row : List ℕ) where
  -- a refusal leaves the row alone
  refused-by : (e : Refusal) → number_of e ≡ snapshot_refusal L s t (length row) → SnapshotIs L s t row (Err e) row
  refused-by e i = record {
    answer = refused-answer e i (snapshot_answer s t) (λ q. refl);
    number = i;
    row-holds = refused-store e i row (λ q. snapshot_row s t q row) (λ q. refl);
  }

  pub snapshot-refused : (e : Refusal) → number_of e ≡ refusal_under L s → SnapshotIs L s t row (Err e) row
  unfolding snapshot_refusal
  snapshot-refused e i = refused-by e (sheet-first e _ i)

module _ (L : Limits) {s : List ℕ} (z : refusal_under L s ≡ 0) {r : Reader.Reading} (sy : Says s r) where
  right : read_refusal s ≡ 0
  right = accepted-read L s z

  pub kinds-few : length (kinds_of r) ≤ 8
  kinds-few = subst (λ l. length l ≤ 8) (sym sy.kinds-are) (few-kinds L s z)

  pub some-formula : 1 ≤ r.formulas
  some-formula = let a = formulas-some s right in let b = sy.many in omega arith

  pub last-few : r.formulas - 1 < 5
  last-few = let a = texts-five s right in let b = formulas-many s right in let c = sy.many in let d = some-formula in omega arith

  module _ (at : ℕ) (i : (at ≡ end_of 10 s 0) × ((0 ≤ at) × (at ≤ length s))) (t : List ℕ) (a : Result ℕ Refusal) (out' : List ℕ)
      (y : (a ≡ read_snapshot (take at s) (kinds_of r) t (replicate 128 0)) × ((out' ≡ line_store (take at s) (length (kinds_of r)) t (replicate 128 0)) × Few a)) (row : List ℕ) where
    first-line : take at s ≡ line_of s 0
    first-line = let j : at ≡ at - 0 = omega arith in ap (λ n. take n s) j ∙ line_first s 0 at i.0 (omega arith) i.1.1

    read_is : a ≡ snapshot_read s t
    read_is = y.0 ∙ ap₂ (λ l ks. read_snapshot l ks t (replicate 128 0)) first-line sy.kinds-are

    store_is : out' ≡ entries_in s t
    store_is = y.1.0 ∙ ap₂ (λ l ks. line_store l (length ks) t (replicate 128 0)) first-line sy.kinds-are

    -- by what the text answered
    number_is : {b : Result ℕ Refusal} → a ≡ b → row_refusal b (length row) ≡ snapshot_refusal L s t (length row)
    unfolding snapshot_refusal
    number_is j = ap (λ b. row_refusal b (length row)) (sym j ∙ read_is) ∙ sym (else-next (refusal_under L s) _ z)

    pub text-refused : {e : Refusal} → a ≡ Err e → SnapshotIs L s t row (Err e) row
    text-refused {e} j = refused-by L s t row e (number_is j)

    module _ {n : ℕ} (j : a ≡ Ok n) where
      pub nodes-few : n ≤ 16
      nodes-few = subst Few j y.1.1

      pub row-short : length row < n → SnapshotIs L s t row (Err Refusing.Row) row
      row-short h = refused-by L s t row Refusing.Row (sym (ap (λ b. cond b 16 0) (lt-ltb (length row) n h)) ∙ number_is j)

      pub fill-asked : length out' ≡ 128 → length r.members ≡ 136 → length r.places ≡ 5 → n ≤ length row
          → ((n ≤ 16) × ((n * 8 ≤ length out') × ((length (table_of r) ≤ 136) × Table (table_of r))))
          × ((n ≤ length row) × ((get_or r.places (r.formulas - 1) 0 < length (table_of r)) × ((g : ℕ) → g < length (take (r.formulas - 1) r.places) → get_or (take (r.formulas - 1) r.places) g 0 < length (table_of r))))
      fill-asked a b c h =
          let f = nodes-few in
          let m = table-length s r sy in
          let w = sy.tabled.room in
          ((f, (omega arith, (omega arith, table s r sy))), (h, (goal-inside s r sy right, λ g l. subst (λ p. p < length (table_of r)) (sym (place g (few g l))) (global-inside s r sy right g (few g l)))))
        where
          many : length (take (r.formulas - 1) r.places) ≡ r.formulas - 1
          many = let q = last-few in length-take-le (r.formulas - 1) r.places (omega arith)

          few : (g : ℕ) → g < length (take (r.formulas - 1) r.places) → g < r.formulas - 1
          few g l = let q = many in omega arith

          place : (g : ℕ) → g < r.formulas - 1 → get_or (take (r.formulas - 1) r.places) g 0 ≡ get_or r.places g 0
          place g l = get_or-take (r.formulas - 1) r.places g 0 l

      pub snapshot-done : {row' : List ℕ} → length r.places ≡ 5 → n ≤ length row
          → row' ≡ row_of (of_store n out') (form (table_of r) (get_or r.places (r.formulas - 1) 0)) (map (form (table_of r)) (take (r.formulas - 1) r.places)) ++ drop n row
          → SnapshotIs L s t row (Ok n) row'
      snapshot-done {row'} c h i =
          let none : 0 ≡ snapshot_refusal L s t (length row) = sym (ap (λ b. cond b 16 0) (le-ltb (length row) n h)) ∙ number_is j in
          let many : n ≡ nodes_of (snapshot_read s t) = ap nodes_of (sym j ∙ read_is) in
          let globals : map (form (table_of r)) (take (r.formulas - 1) r.places) ≡ map positive (globals_of (formulas s)) =
          globals-map s r sy right (take (r.formulas - 1) r.places) (let q = last-few in length-take-le (r.formulas - 1) r.places (omega arith)) (λ g l. get_or-take (r.formulas - 1) r.places g 0 l) in
          let row_is : row_of (of_store n out') (form (table_of r) (get_or r.places (r.formulas - 1) 0)) (map (form (table_of r)) (take (r.formulas - 1) r.places)) ≡ row_in s t n =
          ap (λ o. row_of (of_store n o) (form (table_of r) (get_or r.places (r.formulas - 1) 0)) (map (form (table_of r)) (take (r.formulas - 1) r.places))) store_is
          ∙ ap₂ (λ g gs. row_of (of_store n (entries_in s t)) g gs) (goal s r sy right) globals in
          record {
            answer = ap Ok many ∙ ap (snapshot_answer s t) none;
            number = none;
            row-holds = i ∙ ap₂ ◌++◌ (row_is ∙ ap (row_in s t) many) (ap (λ q. drop q row) many) ∙ ap (λ q. snapshot_row s t q row) none;
          }

-- ---- what it means

module _ (L : Limits) (s t : List ℕ) where
  -- the bits of the row of n nodes, where the store holds these lines
  bits : (lines : List (List ℕ)) (n : ℕ) (row : List ℕ) → length lines ≡ n → of_store n (entries_in s t) ≡ of_lines lines → RowMeans s lines (row_in s t n ++ drop n row)
  unfolding of_store
  bits lines n row c same = record { goal-bit = λ i h. moved i h (λ v. (v % 2 ≡ 1)) (goal-at i h); globals-bit = λ i h. moved i h (λ v. (2 ≤ v)) (globals-at i h) }
    where
      G : Raw
      G = goal_of (formulas s)

      Gs : List Raw
      Gs = globals_of (formulas s)

      byte : (i : ℕ) → i < length lines → get_or (row_in s t n ++ drop n row) i 0 ≡ get_or (row_in s t n) i 0
      byte i h = get_or-append (row_in s t n) (drop n row) 0 i (let l = row-length (of_store n (entries_in s t)) (positive G) (map positive Gs) in omega arith)

      moved : (i : ℕ) → i < length lines → (P : ℕ → Type 0) {Q : Type 0} → P (get_or (row_in s t n) i 0) ↔ Q → P (get_or (row_in s t n ++ drop n row) i 0) ↔ Q
      moved i h P {Q} w = subst (λ v. P v ↔ Q) (sym (byte i h)) w

      goal-at : (i : ℕ) → i < length lines → (get_or (row_in s t n) i 0 % 2 ≡ 1) ↔ HoldsRaw (of_lines lines) G i
      goal-at i h = subst (λ g. (get_or (row_in s t n) i 0 % 2 ≡ 1) ↔ HoldsRaw g G i) same (goal-bit (of_store n (entries_in s t)) G Gs i (omega arith))

      globals-at : (i : ℕ) → i < length lines → (2 ≤ get_or (row_in s t n) i 0) ↔ ((g : Raw) → g ∈ Gs → HoldsRaw (of_lines lines) g i)
      globals-at i h = subst (λ q. (2 ≤ get_or (row_in s t n) i 0) ↔ ((g : Raw) → g ∈ Gs → HoldsRaw q g i)) same (globals-bit (of_store n (entries_in s t)) G Gs i (omega arith))

  pub snapshot-means : {row : List ℕ} {o : Result ℕ Refusal} {row' : List ℕ} → SnapshotIs L s t row o row' → SnapshotMeans L s t o row'
  unfolding snapshot_refusal
  snapshot-means {row} {o} {row'} x = record { reads = λ z. reads_as L s z t; judges = judges }
    where
      Judges : ℕ → Type 0
      Judges n = (lines : List (List ℕ)) × Text (line_of s 0) (length (kinds s)) t lines × (length lines ≡ n) × Legal (is_name s) (values_in s) (of_lines lines) × RowMeans s lines row'

      -- the text was read as n nodes
      of-read : (a : Result ℕ Refusal) → snapshot_read s t ≡ a → refusal_under L s ≡ 0 → row_refusal a (length row) ≡ 0 → (n : ℕ) → n ≡ nodes_of a → row' ≡ row_in s t (nodes_of a) ++ drop (nodes_of a) row → Judges n
      of-read (Err e) i z none n k r = absurd (number-some e none)
      of-read (Ok m) i z none n e r =
          let h = nodes-held (subst (Answered (line_of s 0) (kinds s) t (entries_in s t)) i (reads_as L s z t)) in
          (h.lines, h.text, h.count ∙ sym e, h.legal, subst (RowMeans s h.lines) (sym r) (bits h.lines m row h.count h.same))

      judges : (n : ℕ) → o ≡ Ok n → Judges n
      judges n e =
          let z : snapshot_refusal L s t (length row) ≡ 0 = sym x.number ∙ ap refused_as e in
          let i = else-none (refusal_under L s) (row_refusal (snapshot_read s t) (length row)) z in
          let a : ◌≡◌ {A = Result ℕ Refusal} (Ok n) (Ok (nodes_of (snapshot_read s t))) = sym e ∙ x.answer ∙ ap (snapshot_answer s t) z in
          of-read (snapshot_read s t) refl i.0 i.1 n (cc) (x.row-holds ∙ ap (λ k. snapshot_row s t k row) z)

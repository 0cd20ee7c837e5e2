-- Sheets that say the same, and of which neither is refused before the other, have the same outcome of every operation. Assumes nothing.
use mathlib.Core.Path.{◌≡◌, refl, sym, ap, ap₂, ◌∙◌, subst}
use mathlib.Core.Logic.{◌↔◌}
use mathlib.Core.List.{List, [], ◌∷◌, ◌++◌, map}
use Prim.Native.Nat.{ℕ, zero, suc, ◌*◌, ◌<◌}
use lib.ListN.{length, drop, get_or, replicate}
use lib.Dec.{eqb}
use Rattle.ctl.specs.Lists.{elem}
use Rattle.ctl.specs.Formula.{Form, tru}
use Rattle.ctl.specs.Raw.{Raw}
use Rattle.ctl.specs.Positive.{positive, signed}
use Rattle.ctl.specs.Snapshot.{Snapshot, values_of}
use Rattle.ctl.specs.Meaning.{Holds, HoldsRaw}
use Rattle.ctl.specs.Sorting.{sort}
use Rattle.ctl.specs.TypeOrder.{fewest_first}
use Rattle.ctl.specs.Tableau.{Tableau, namings, start_types, tableau_of}
use Rattle.ctl.specs.Verdict as Ctl
use Rattle.ctl.specs.Verdict.{rounds_of, surviving_types}
use Rattle.ctl.specs.Demand3.{sheet_tableau}
use Rattle.ctl.proofs.PositiveLaws.{positive-iff}
use Rattle.wordset.specs.Words.{packed}
use Rattle.layout.specs.Layout.{line_of}
use Rattle.head.specs.Head.{kinds_of, names_of}
use Rattle.sheet.specs.Reading.{formulas, globals_of, goal_of}
use Rattle.limits.specs.declared.Limits.{Limits}
use Rattle.limits.specs.Limits.{refusal_under}
use Rattle.prepare.specs.Prepared.{tableau_in}
use Rattle.prepare.specs.Width.{words_for}
use Rattle.booking.specs.Booked.{tables_by}
use Rattle.evaluator.specs.Rows.{row_of}
use Rattle.snapshot_text.specs.Lines.{line_store}
use Rattle.snapshot_text.specs.Store.{of_store}
use Rattle.snapshot.specs.Read.{read_snapshot}
use Rattle.fitted.specs.Accepted.{holding, listed_in, verdict_in, words_in}
use Rattle.clean.specs.Same.{SameSheet}
use Rattle.std.specs.Prelude.{Result, Ok}
use Rattle.refusal.specs.declared.Refusal.{Refusal}
use Rattle.outcomes.specs.declared.Booked.{Booked}
use Rattle.outcomes.specs.declared.Tabled.{Tabled}
use Rattle.outcomes.specs.Outcomes.{BookIs, ListIs, SnapshotIs, TableIs, book_answer, book_refusal, book_store, entries_in, list_answer, list_refusal, list_store, naming_refusal, nodes_of, or_else, row_in, row_refusal, snapshot_answer, snapshot_read, snapshot_refusal, snapshot_row, store_refusal, table_answer, table_refusal, table_store, verdict_answer, verdict_by, verdict_of}

-- a result under a number is also that of the other sheet under its number
pub moved : {A : Type 0} {f g : ℕ → A} {k l : ℕ} {o : A} → k ≡ l → ((n : ℕ) → f n ≡ g n) → o ≡ g l → o ≡ f k
moved {f = f} {l = l} e h q = q ∙ sym (h l) ∙ ap f (sym e)

-- document 01's W of a tableau
abbrev words_by : Tableau → ℕ
words_by T = words_for (length T.ln)

-- the globals and the goal of formulas in positive form
abbrev front : List Form → List Form
front [] = []
front (p ∷ []) = []
front (p ∷ q ∷ r) = p ∷ front (q ∷ r)

abbrev last : List Form → Form
last [] = tru
last (p ∷ []) = p
last (p ∷ q ∷ r) = last (q ∷ r)

front-is : (l : List Raw) → map positive (globals_of l) ≡ front (map positive l)
unfolding globals_of
front-is [] = refl
front-is (p ∷ []) = refl
front-is (p ∷ q ∷ r) = ap (λ k. positive p ∷ k) (front-is (q ∷ r))

last-is : (l : List Raw) → positive (goal_of l) ≡ last (map positive l)
unfolding goal_of signed
last-is [] = refl
last-is (p ∷ []) = refl
last-is (p ∷ q ∷ r) = last-is (q ∷ r)

-- the tableau of two first lines, globals and a goal
abbrev by : List ℕ → List ℕ → List Form → Form → Tableau
by l m globals goal = tableau_of (λ k. get_or (names_of l) k []) (λ k. eqb (get_or (kinds_of m) k 0) 2) (values_of (λ k. eqb (get_or (kinds_of m) k 0) 4) (length (kinds_of m))) globals (goal ∷ [])

-- formulas of one positive form hold at the same nodes
pub one_form : (g : Snapshot) (p q : Raw) → positive p ≡ positive q → (i : ℕ) → i < g.n → HoldsRaw g p i ↔ HoldsRaw g q i
one_form g p q e i h =
    let a = positive-iff g p i h in
    let b = positive-iff g q i h in
    (λ x. b.1 (subst (λ f. Holds g f i) e (a.0 x)), λ x. a.1 (subst (λ f. Holds g f i) (sym e) (b.0 x)))

module _ {s t : List ℕ} (x : SameSheet s t) where
  globals-same : map positive (globals_of (formulas t)) ≡ map positive (globals_of (formulas s))
  globals-same = front-is (formulas t) ∙ ap front x.forms-same ∙ sym (front-is (formulas s))

  pub same-goal : positive (goal_of (formulas t)) ≡ positive (goal_of (formulas s))
  same-goal = last-is (formulas t) ∙ ap last x.forms-same ∙ sym (last-is (formulas s))

  -- closure, lean, names, values and globals
  pub same-tableau : tableau_in t ≡ tableau_in s
  unfolding sheet_tableau
  same-tableau =
      ap (λ l. by l (line_of t 1) (map positive (globals_of (formulas t))) (positive (goal_of (formulas t)))) x.line-one
      ∙ ap (λ l. by (line_of s 0) l (map positive (globals_of (formulas t))) (positive (goal_of (formulas t)))) x.line-two
      ∙ ap₂ (by (line_of s 0) (line_of s 1)) globals-same same-goal

  -- ---- the operations

  table-told : (r k : ℕ) → table_answer t r k ≡ table_answer s r k
  unfolding words_in
  table-told r zero = ap (λ T. Ok (record { words = words_by T; start = length (start_types T r); left = length (surviving_types T r); rounds = rounds_of T r })) same-tableau
  table-told r (suc k) = refl

  table-left : (r : ℕ) (d : List ℕ) (k : ℕ) → table_store t r k d ≡ table_store s r k d
  unfolding holding words_in
  table-left r d zero = ap (λ T. packed (words_by T) (λ u. elem u (surviving_types T r)) d) same-tableau
  table-left r d (suc k) = refl

  -- where the number is the same
  pub same-tabled : {K L : Limits} {r : ℕ} {d e d' e' : List ℕ} {o : Result Tabled Refusal} → table_refusal K t r (length d) (length e) ≡ table_refusal L s r (length d) (length e) → TableIs L s r d e o d' e' → TableIs K t r d e o d' e'
  same-tabled {r = r} {d} {e} k h = record { answer = moved k (table-told r) h.answer; number = h.number ∙ sym k; first_holds = moved k (table-left r d) h.first_holds; second_holds = moved k (table-left r e) h.second_holds }

  table-number : (L : Limits) → refusal_under L t ≡ refusal_under L s → (r m n : ℕ) → table_refusal L t r m n ≡ table_refusal L s r m n
  unfolding table_refusal
  table-number L a r m n = ap₂ (λ k T. or_else k (or_else (naming_refusal (namings T) r) (or_else (store_refusal (words_for L.lean) m) (store_refusal (words_for L.lean) n)))) a same-tableau

  pub same-table : (L : Limits) → refusal_under L t ≡ refusal_under L s → {r : ℕ} {d e d' e' : List ℕ} {o : Result Tabled Refusal} → TableIs L s r d e o d' e' → TableIs L t r d e o d' e'
  same-table L a {r} {d} {e} = same-tabled (table-number L a r (length d) (length e))

  -- the others ask nothing of their stores that goes by the limits, so these may differ
  module _ (K L : Limits) (a : refusal_under K t ≡ refusal_under L s) where
    book-number : (n : ℕ) → book_refusal K t n ≡ book_refusal L s n
    unfolding book_refusal words_in
    book-number n = ap₂ (λ k T. or_else k (store_refusal (namings T * words_by T) n)) a same-tableau

    book-told : (k : ℕ) → book_answer t k ≡ book_answer s k
    unfolding words_in
    book-told zero = ap (λ T. Ok (record { namings = namings T; words = words_by T })) same-tableau
    book-told (suc k) = refl

    book-left : (d : List ℕ) (k : ℕ) → book_store t k d ≡ book_store s k d
    unfolding words_in
    book-left d zero = ap (λ T. tables_by (words_by T) (λ r u. elem u (surviving_types T r)) (namings T) ++ drop (namings T * words_by T) d) same-tableau
    book-left d (suc k) = refl

    pub same-book : {d d' : List ℕ} {o : Result Booked Refusal} → BookIs L s d o d' → BookIs K t d o d'
    same-book {d} h = let k = book-number (length d) in record { answer = moved k book-told h.answer; number = h.number ∙ sym k; store-holds = moved k (book-left d) h.store-holds }

    list-number : (r n : ℕ) → list_refusal K t r n ≡ list_refusal L s r n
    unfolding list_refusal
    list-number r n = ap₂ (λ k T. or_else k (or_else (naming_refusal (namings T) r) (store_refusal (length (surviving_types T r)) n))) a same-tableau

    list-told : (r k : ℕ) → list_answer t r k ≡ list_answer s r k
    list-told r zero = ap (λ T. Ok (length (surviving_types T r))) same-tableau
    list-told r (suc k) = refl

    list_left : (r : ℕ) (d : List ℕ) (k : ℕ) → list_store t r k d ≡ list_store s r k d
    unfolding listed_in
    list_left r d zero = ap (λ T. sort (fewest_first (length T.ln)) (surviving_types T r) ++ drop (length (surviving_types T r)) d) same-tableau
    list_left r d (suc k) = refl

    pub same-list : {r : ℕ} {d d' : List ℕ} {o : Result ℕ Refusal} → ListIs L s r d o d' → ListIs K t r d o d'
    same-list {r} {d} h = let k = list-number r (length d) in record { answer = moved k (list-told r) h.answer; number = h.number ∙ sym k; store-holds = moved k (list_left r d) h.store-holds }

    verdict-told : (k : ℕ) → verdict_answer t k ≡ verdict_answer s k
    unfolding verdict_in
    verdict-told zero = ap₂ (λ T p. Ok (verdict_by (Ctl.verdict T p))) same-tableau same-goal
    verdict-told (suc k) = refl

    pub same-verdict : verdict_of K t ≡ verdict_of L s
    unfolding verdict_of
    same-verdict = ap (verdict_answer t) a ∙ verdict-told (refusal_under L s)

    snapshot-read : (u : List ℕ) → snapshot_read t u ≡ snapshot_read s u
    snapshot-read u = ap₂ (λ l m. read_snapshot l (kinds_of m) u (replicate 128 0)) x.line-one x.line-two

    entries-same : (u : List ℕ) → entries_in t u ≡ entries_in s u
    entries-same u = ap₂ (λ l m. line_store l (length (kinds_of m)) u (replicate 128 0)) x.line-one x.line-two

    snapshot-number : (u : List ℕ) (n : ℕ) → snapshot_refusal K t u n ≡ snapshot_refusal L s u n
    unfolding snapshot_refusal
    snapshot-number u n = ap₂ (λ k q. or_else k (row_refusal q n)) a (snapshot-read u)

    snapshot-told : (u : List ℕ) (k : ℕ) → snapshot_answer t u k ≡ snapshot_answer s u k
    snapshot-told u zero = ap (λ q. Ok (nodes_of q)) (snapshot-read u)
    snapshot-told u (suc k) = refl

    row_same : (u : List ℕ) (n : ℕ) → row_in t u n ≡ row_in s u n
    row_same u n = ap₂ (λ q l. row_of (of_store n q) (positive (goal_of (formulas t))) l) (entries-same u) globals-same ∙ ap (λ p. row_of (of_store n (entries_in s u)) p (map positive (globals_of (formulas s)))) same-goal

    row-left : (u row : List ℕ) (k : ℕ) → snapshot_row t u k row ≡ snapshot_row s u k row
    row-left u row zero = ap (λ q. row_in t u (nodes_of q) ++ drop (nodes_of q) row) (snapshot-read u) ∙ ap (λ l. l ++ drop (nodes_of (snapshot_read s u)) row) (row_same u (nodes_of (snapshot_read s u)))
    row-left u row (suc k) = refl

    pub same-snapshot : {u row row' : List ℕ} {o : Result ℕ Refusal} → SnapshotIs L s u row o row' → SnapshotIs K t u row o row'
    same-snapshot {u} {row} h = let k = snapshot-number u (length row) in record { answer = moved k (snapshot-told u) h.answer; number = h.number ∙ sym k; row-holds = moved k (row-left u row) h.row-holds }

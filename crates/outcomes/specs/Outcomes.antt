-- What each operation answers and leaves, from its arguments: the limits, the sheet's bytes, the number of a naming, and the stores as they were. Of an operation without limits they are
-- document 01's (`limits` Limits, usual). Assumes nothing.
use Rattle.std.specs.Prelude.{◌≡◌, cond, List, [], ◌++◌, map, ℕ, zero, suc, ◌*◌, ◌%◌, eqb, ltb, length, take, drop, replicate, Result, Ok, Err}
use Rattle.ctl.specs.Positive.{positive}
use Rattle.ctl.specs.Tableau.{start_types}
use Rattle.ctl.specs.Verdict as Ctl
use Rattle.ctl.specs.Verdict.{rounds_of}
use Rattle.layout.specs.Layout.{line_of}
use Rattle.head.specs.Head.{kinds}
use Rattle.sheet.specs.Reading.{formulas, globals_of, goal_of}
use Rattle.limits.specs.declared.Limits.{Limits}
use Rattle.limits.specs.Limits.{refusal_under}
use Rattle.prepare.specs.Prepared.{tableau_in}
use Rattle.prepare.specs.Width.{words_for}
use Rattle.evaluator.specs.Rows.{row_of}
use Rattle.fitted.specs.Accepted.{book_in, holding, listed_in, namings_in, survivors_in, verdict_in, words_in}
use Rattle.clean.specs.Clean.{clean_text, clean_wrong}
use Rattle.snapshot_text.specs.Lines.{line_store}
use Rattle.snapshot.specs.Read.{read_snapshot}
use Rattle.snapshot_text.specs.Store.{of_store}
use Rattle.refusal.specs.declared.Refusal.{Refusal}
use Rattle.refusal.specs.Number.{number_of, refusal_by, refused_as}
use Rattle.judge.specs.declared.Verdict.{Verdict}
use Rattle.judge.specs.declared.Verdict.TheVariants as Judging
use Rattle.outcomes.specs.declared.Tabled.{Tabled}
use Rattle.outcomes.specs.declared.Booked.{Booked}

-- ---- refusals: the first that applies, in the order of their numbers but for 17, which is asked before 16, for 18, which comes after 10, and for 19, which is the first of all

-- a number, or the next where it is 0
abbrev pub or_else : ℕ → ℕ → ℕ
or_else k later = cond (eqb k 0) later k

-- 11, naming: not below the number of namings
abbrev pub naming_refusal : ℕ → ℕ → ℕ
naming_refusal n r = cond (ltb r n) 0 11

-- 12, store: shorter than what is needed
abbrev pub store_refusal : ℕ → ℕ → ℕ
store_refusal needed long = cond (ltb long needed) 12 0

-- each store of Table has room for the types over as many places as the limit allows, whatever the sheet needs
unfoldable pub table_refusal : Limits → List ℕ → ℕ → ℕ → ℕ → ℕ
unfolding refusal_under words_for
table_refusal l s r a b = or_else (refusal_under l s) (or_else (naming_refusal (namings_in s) r) (or_else (store_refusal (words_for l.lean) a) (store_refusal (words_for l.lean) b)))

unfoldable pub book_refusal : Limits → List ℕ → ℕ → ℕ
unfolding refusal_under words_in
book_refusal l s d = or_else (refusal_under l s) (store_refusal (namings_in s * words_in s) d)

unfoldable pub list_refusal : Limits → List ℕ → ℕ → ℕ → ℕ
unfolding refusal_under
list_refusal l s r d = or_else (refusal_under l s) (or_else (naming_refusal (namings_in s) r) (store_refusal (length (survivors_in s r)) d))

-- ---- Table

abbrev pub table_answer : List ℕ → ℕ → ℕ → Result Tabled Refusal
table_answer s r zero = Ok (record { words = words_in s; start = length (start_types (tableau_in s) r); left = length (survivors_in s r); rounds = rounds_of (tableau_in s) r })
table_answer s r (suc k) = Err (refusal_by (suc k))

-- a store afterwards, where the refusal is k
abbrev pub table_store : List ℕ → ℕ → ℕ → List ℕ → List ℕ
table_store s r zero d = holding s r d
table_store s r (suc k) d = d

pub record TableIs (l : Limits) (s : List ℕ) (r : ℕ) (first second : List ℕ) (o : Result Tabled Refusal) (first' second' : List ℕ) : Type 0 where
  pub answer : o ≡ table_answer s r (table_refusal l s r (length first) (length second))
  pub number : refused_as o ≡ table_refusal l s r (length first) (length second)
  pub first_holds : first' ≡ table_store s r (table_refusal l s r (length first) (length second)) first
  pub second_holds : second' ≡ table_store s r (table_refusal l s r (length first) (length second)) second

-- The part handed back: the first W words of the store that was written last. Round 1 writes the second, each round the other, and the last round, which eliminates
-- nothing, is the one after `rounds`: so it is the second if they are even. Empty with a refusal
abbrev pub part_of : Result Tabled Refusal → List ℕ → List ℕ → List ℕ
part_of (Err e) first second = []
part_of (Ok t) first second = cond (eqb (t.rounds % 2) 0) (take t.words second) (take t.words first)

-- where it lies: at that store's beginning; the empty one at the first's
abbrev pub place_of : Result Tabled Refusal → ℕ × ℕ → ℕ × ℕ → ℕ × ℕ
place_of (Err e) first second = first
place_of (Ok t) first second = cond (eqb (t.rounds % 2) 0) second first

-- ---- Book

abbrev pub book_answer : List ℕ → ℕ → Result Booked Refusal
book_answer s zero = Ok (record { namings = namings_in s; words = words_in s })
book_answer s (suc k) = Err (refusal_by (suc k))

-- the store afterwards, where the refusal is k
abbrev pub book_store : List ℕ → ℕ → List ℕ → List ℕ
book_store s zero d = book_in s d
book_store s (suc k) d = d

pub record BookIs (l : Limits) (s d : List ℕ) (o : Result Booked Refusal) (d' : List ℕ) : Type 0 where
  pub answer : o ≡ book_answer s (book_refusal l s (length d))
  pub number : refused_as o ≡ book_refusal l s (length d)
  pub store-holds : d' ≡ book_store s (book_refusal l s (length d)) d

-- ---- List

abbrev pub list_answer : List ℕ → ℕ → ℕ → Result ℕ Refusal
list_answer s r zero = Ok (length (survivors_in s r))
list_answer s r (suc k) = Err (refusal_by (suc k))

-- the store afterwards, where the refusal is k: the surviving types in their order, and the rest as it was
abbrev pub list_store : List ℕ → ℕ → ℕ → List ℕ → List ℕ
list_store s r zero d = listed_in s r ++ drop (length (survivors_in s r)) d
list_store s r (suc k) d = d

pub record ListIs (l : Limits) (s : List ℕ) (r : ℕ) (d : List ℕ) (o : Result ℕ Refusal) (d' : List ℕ) : Type 0 where
  pub answer : o ≡ list_answer s r (list_refusal l s r (length d))
  pub number : refused_as o ≡ list_refusal l s r (length d)
  pub store-holds : d' ≡ list_store s r (list_refusal l s r (length d)) d

-- ---- Verdict

-- each case with document 01's values: open with the least naming, then its least goal type; or unsatisfiable
abbrev pub verdict_by : Ctl.Verdict → Verdict
verdict_by Ctl.unsatisfiable = Judging.Unsatisfiable
verdict_by (Ctl.open' r t) = Judging.Open r t

abbrev pub verdict_answer : List ℕ → ℕ → Result Verdict Refusal
verdict_answer s zero = Ok (verdict_by (verdict_in s))
verdict_answer s (suc k) = Err (refusal_by (suc k))

unfoldable pub verdict_of : Limits → List ℕ → Result Verdict Refusal
unfolding refusal_under verdict_in
verdict_of l s = verdict_answer s (refusal_under l s)

-- ---- Clean

-- 18, after 10: a line or the text is too long, or the store too short
unfoldable pub clean_refusal : Limits → List ℕ → ℕ → ℕ
unfolding refusal_under clean_wrong
clean_refusal l s long = or_else (refusal_under l s) (cond (clean_wrong s long) 18 0)

abbrev pub clean_answer : List ℕ → ℕ → Result ℕ Refusal
clean_answer s zero = Ok (length (clean_text s))
clean_answer s (suc k) = Err (refusal_by (suc k))

-- the store afterwards, where the refusal is k: the clean text, and the rest as it was
abbrev pub clean_store : List ℕ → ℕ → List ℕ → List ℕ
clean_store s zero d = clean_text s ++ drop (length (clean_text s)) d
clean_store s (suc k) d = d

pub record CleanIs (l : Limits) (s d : List ℕ) (o : Result ℕ Refusal) (d' : List ℕ) : Type 0 where
  pub answer : o ≡ clean_answer s (clean_refusal l s (length d))
  pub number : refused_as o ≡ clean_refusal l s (length d)
  pub store-holds : d' ≡ clean_store s (clean_refusal l s (length d)) d

-- ---- Snapshot

-- a snapshot's text, read under line 1 and the kinds of a sheet: its refusal 13, 14, 15 or 17 or its node count, and the store of its entries
abbrev pub snapshot_read : List ℕ → List ℕ → Result ℕ Refusal
snapshot_read s t = read_snapshot (line_of s 0) (kinds s) t (replicate 128 0)

abbrev pub entries_in : List ℕ → List ℕ → List ℕ
entries_in s t = line_store (line_of s 0) (length (kinds s)) t (replicate 128 0)

abbrev pub nodes_of : Result ℕ Refusal → ℕ
nodes_of (Err e) = 0
nodes_of (Ok n) = n

-- 13, 14, 15, 17; then 16, row: shorter than the node count
abbrev pub row_refusal : Result ℕ Refusal → ℕ → ℕ
row_refusal (Err e) long = number_of e
row_refusal (Ok n) long = cond (ltb long n) 16 0

unfoldable pub snapshot_refusal : Limits → List ℕ → List ℕ → ℕ → ℕ
unfolding refusal_under read_snapshot
snapshot_refusal l s t long = or_else (refusal_under l s) (row_refusal (snapshot_read s t) long)

abbrev pub snapshot_answer : List ℕ → List ℕ → ℕ → Result ℕ Refusal
snapshot_answer s t zero = Ok (nodes_of (snapshot_read s t))
snapshot_answer s t (suc k) = Err (refusal_by (suc k))

-- a byte for each of n nodes: 1 if the goal holds there, plus 2 if all globals do
abbrev pub row_in : List ℕ → List ℕ → ℕ → List ℕ
row_in s t n = row_of (of_store n (entries_in s t)) (positive (goal_of (formulas s))) (map positive (globals_of (formulas s)))

-- the row afterwards, where the refusal is k
abbrev pub snapshot_row : List ℕ → List ℕ → ℕ → List ℕ → List ℕ
snapshot_row s t zero row = row_in s t (nodes_of (snapshot_read s t)) ++ drop (nodes_of (snapshot_read s t)) row
snapshot_row s t (suc k) row = row

pub record SnapshotIs (l : Limits) (s t row : List ℕ) (o : Result ℕ Refusal) (row' : List ℕ) : Type 0 where
  pub answer : o ≡ snapshot_answer s t (snapshot_refusal l s t (length row))
  pub number : refused_as o ≡ snapshot_refusal l s t (length row)
  pub row-holds : row' ≡ snapshot_row s t (snapshot_refusal l s t (length row)) row

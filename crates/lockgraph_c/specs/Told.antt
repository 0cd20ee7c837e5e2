-- What a caller in C is told of each answer of the library under limits (without any, `usual`): the refusal's number, or 0 (`refused_as`), and what the lent array `out` then holds, which is what it held before where the answer is a refusal. Assumes nothing.
use Rattle.std.specs.Prelude.{◌≡◌, cond, List, [], ◌∷◌, ℕ, ◌%◌, eqb, length, take, drop, Result, Ok, Err}
use Rattle.sheet.specs.Sheet.{goal_start, goal_under}
use Rattle.limits.specs.declared.Limits.{Limits}
use Rattle.limits.specs.Limits.{refusal_under}
use Rattle.refusal.specs.declared.Refusal.{Refusal}
use Rattle.refusal.specs.Number.{refused_as}
use Rattle.judge.specs.declared.Verdict.{Verdict}
use Rattle.judge.specs.declared.Verdict.TheVariants.{Open, Unsatisfiable}
use Rattle.outcomes.specs.declared.Tabled.{Tabled}
use Rattle.outcomes.specs.declared.Booked.{Booked}
use Rattle.outcomes.specs.Demands.{SnapshotMeans, TableDemand2, TableDemand3, VerdictDemand2, VerdictDemand3}
use Rattle.outcomes.specs.Outcomes.{BookIs, CleanIs, ListIs, SnapshotIs, TableIs, verdict_of}

-- ---- Table

-- the store that was written last, of which the library's `part_of` hands back the beginning: 2 for the second, 1 for the first
abbrev pub written_last : ℕ → ℕ
written_last rounds = cond (eqb (rounds % 2) 0) 2 1

-- what `out` holds then, of what it held before
abbrev pub table_numbers : Result Tabled Refusal → List ℕ → List ℕ
table_numbers (Err e) out = out
table_numbers (Ok t) out = t.words ∷ t.start ∷ t.left ∷ t.rounds ∷ written_last t.rounds ∷ []

-- k and out' are told of the one answer that the library gives, and the stores are as it leaves them
pub record TableTold (l : Limits) (s : List ℕ) (r : ℕ) (first second out : List ℕ) (k : ℕ) (first' second' out' : List ℕ) : Type 0 where
  pub answer : Result Tabled Refusal
  pub is : TableIs l s r first second answer first' second'
  pub closed : TableDemand2 s r answer first' second'
  pub whole : TableDemand3 l s r answer first' second'
  pub number : k ≡ refused_as answer
  pub numbers : out' ≡ table_numbers answer out

-- ---- Book

abbrev pub book_numbers : Result Booked Refusal → List ℕ → List ℕ
book_numbers (Err e) out = out
book_numbers (Ok b) out = b.namings ∷ b.words ∷ []

pub record BookTold (l : Limits) (s d out : List ℕ) (k : ℕ) (d' out' : List ℕ) : Type 0 where
  pub answer : Result Booked Refusal
  pub is : BookIs l s d answer d'
  pub number : k ≡ refused_as answer
  pub numbers : out' ≡ book_numbers answer out

-- ---- List, Snapshot and Clean are told by one number each

abbrev pub count_numbers : Result ℕ Refusal → List ℕ → List ℕ
count_numbers (Err e) out = out
count_numbers (Ok n) out = n ∷ []

-- ---- List

pub record ListTold (l : Limits) (s : List ℕ) (r : ℕ) (d out : List ℕ) (k : ℕ) (d' out' : List ℕ) : Type 0 where
  pub answer : Result ℕ Refusal
  pub is : ListIs l s r d answer d'
  pub number : k ≡ refused_as answer
  pub numbers : out' ≡ count_numbers answer out

-- ---- Verdict

-- 1, the naming and the type for an open goal; 2 and two zeros for an unsatisfiable one
abbrev pub verdict_numbers : Result Verdict Refusal → List ℕ → List ℕ
verdict_numbers (Err e) out = out
verdict_numbers (Ok (Open r t)) out = 1 ∷ r ∷ t ∷ []
verdict_numbers (Ok Unsatisfiable) out = 2 ∷ 0 ∷ 0 ∷ []

pub record VerdictTold (l : Limits) (s out : List ℕ) (k : ℕ) (out' : List ℕ) : Type 0 where
  pub closed : VerdictDemand2 l s (verdict_of l s)
  pub whole : VerdictDemand3 l s (verdict_of l s)
  pub number : k ≡ refused_as (verdict_of l s)
  pub refusal : k ≡ refusal_under l s
  pub numbers : out' ≡ verdict_numbers (verdict_of l s) out

-- ---- Snapshot

pub record SnapshotTold (l : Limits) (s t row out : List ℕ) (k : ℕ) (row' out' : List ℕ) : Type 0 where
  pub answer : Result ℕ Refusal
  pub is : SnapshotIs l s t row answer row'
  pub means : SnapshotMeans l s t answer row'
  pub number : k ≡ refused_as answer
  pub numbers : out' ≡ count_numbers answer out

-- ---- Clean

pub record CleanTold (l : Limits) (s d out : List ℕ) (k : ℕ) (d' out' : List ℕ) : Type 0 where
  pub answer : Result ℕ Refusal
  pub is : CleanIs l s d answer d'
  pub number : k ≡ refused_as answer
  pub numbers : out' ≡ count_numbers answer out

-- ---- the goal's text

-- where it begins and how long it is
abbrev pub goal_numbers : List ℕ → ℕ → List ℕ → List ℕ
goal_numbers s k out = cond (eqb k 0) (goal_start s k ∷ length (goal_under s k) ∷ []) out

-- that is told of it, and it is that part of the sheet
pub record GoalTold (l : Limits) (s out : List ℕ) (k : ℕ) (out' : List ℕ) : Type 0 where
  pub number : k ≡ refusal_under l s
  pub numbers : out' ≡ goal_numbers s (refusal_under l s) out
  pub lies : goal_under s (refusal_under l s) ≡ take (length (goal_under s (refusal_under l s))) (drop (goal_start s (refusal_under l s)) s)

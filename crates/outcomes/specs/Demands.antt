-- Demands 2 and 3 of the workshop, as records over what Table, Verdict and Snapshot answer and leave. They speak of the formulas as typed, and of nodes through the meaning over
-- maximal paths alone. Assumes nothing.
use Rattle.std.specs.Prelude.{◌≡◌, ◌↔◌, List, ℕ, ◌-◌, ◌*◌, ◌%◌, ◌≤◌, ◌<◌, T, length, get_or, Result, Ok}
use Rattle.ctl.specs.Lists.{◌∈◌}
use Rattle.ctl.specs.Positive.{positive}
use Rattle.ctl.specs.Raw.{Raw}
use Rattle.ctl.specs.Snapshot.{Snapshot, Legal, of_lines}
use Rattle.ctl.specs.Meaning.{HoldsRaw}
use Rattle.ctl.specs.Tableau.{start_types}
use Rattle.ctl.specs.Verdict as Ctl
use Rattle.ctl.specs.Verdict.{ClosedIn, HasGoal, family_of}
use Rattle.ctl.specs.Demand3 as Whole
use Rattle.ctl.specs.Demand3.{Fits, GlobalsHold, NodeType}
use Rattle.wordset.specs.Words.{member}
use Rattle.layout.specs.Layout.{line_of}
use Rattle.head.specs.Head.{kinds}
use Rattle.snapshot.specs.Answered.{Answered}
use Rattle.snapshot_text.specs.Text.{Text}
use Rattle.sheet.specs.Reading.{formulas, globals_of, goal_of, is_name, spell_of, values_in}
use Rattle.limits.specs.declared.Limits.{Limits}
use Rattle.limits.specs.Limits.{refusal_under}
use Rattle.prepare.specs.Prepared.{tableau_in}
use Rattle.refusal.specs.declared.Refusal.{Refusal}
use Rattle.judge.specs.declared.Verdict.{Verdict}
use Rattle.judge.specs.declared.Verdict.TheVariants as Judging
use Rattle.outcomes.specs.declared.Tabled.{Tabled}
use Rattle.outcomes.specs.Outcomes.{entries_in, snapshot_read}
use Rattle.fitted.specs.Accepted.{namings_in}

-- ---- Demand 2

-- a type's bit is set in a store exactly if the type belongs to some closed family under naming r
abbrev pub StandsByClosed : List ℕ → ℕ → ℕ → List ℕ → Type 0
StandsByClosed s r w d = (t : ℕ) → t < w * 64 → T (member d t) ↔ ((fam : List ℕ) × ClosedIn (tableau_in s) r fam × (t ∈ fam))

pub record TableDemand2 (s : List ℕ) (r : ℕ) (o : Result Tabled Refusal) (first' second' : List ℕ) : Type 0 where
  pub in-first : (t : Tabled) → o ≡ Ok t → StandsByClosed s r t.words first'
  pub in-second : (t : Tabled) → o ≡ Ok t → StandsByClosed s r t.words second'

-- the answer is open exactly if under some naming a surviving type makes the goal true
pub record VerdictDemand2 (l : Limits) (s : List ℕ) (v : Result Verdict Refusal) : Type 0 where
  pub open-iff : refusal_under l s ≡ 0 → ((r : ℕ) × (t : ℕ) × (v ≡ Ok (Judging.Open r t))) ↔ ((r : ℕ) × (t : ℕ) × (r < namings_in s) × HasGoal (tableau_in s) (positive (goal_of (formulas s))) r t)

-- in a given snapshot a formula holds at a node exactly as its meaning over maximal paths says: the lines are those of the snapshot's text, and byte i of the row has its bits by the
-- goal and the globals as typed, at node i
pub record RowMeans (s : List ℕ) (lines : List (List ℕ)) (row' : List ℕ) : Type 0 where
  pub goal-bit : (i : ℕ) → i < length lines → (get_or row' i 0 % 2 ≡ 1) ↔ HoldsRaw (of_lines lines) (goal_of (formulas s)) i
  pub globals-bit : (i : ℕ) → i < length lines → (2 ≤ get_or row' i 0) ↔ ((g : Raw) → g ∈ globals_of (formulas s) → HoldsRaw (of_lines lines) g i)

-- 13 to 15 and 17 in the documents' words (`Answered`); and after an answer that is no refusal, that the lines keep the rules on names and values, and what the row says
pub record SnapshotMeans (l : Limits) (s t : List ℕ) (o : Result ℕ Refusal) (row' : List ℕ) : Type 0 where
  pub reads : refusal_under l s ≡ 0 → Answered (line_of s 0) (kinds s) t (entries_in s t) (snapshot_read s t)
  pub judges : (n : ℕ) → o ≡ Ok n → (lines : List (List ℕ)) × Text (line_of s 0) (length (kinds s)) t lines × (length lines ≡ n) × Legal (is_name s) (values_in s) (of_lines lines) × RowMeans s lines row'

-- ---- Demand 3

-- the single claim about the whole elimination, with a verdict of the logic
abbrev pub WholeClaim : List ℕ → Ctl.Verdict → Type 0
WholeClaim s v = Whole.Demand3 (spell_of s) (is_name s) (values_in s) (globals_of (formulas s)) (goal_of (formulas s)) v

-- a snapshot that the demand speaks of: each name is on at most one node, each node holds exactly one of the values, if any is declared, and every global holds at every node
abbrev pub Speaks : List ℕ → Snapshot → Type 0
Speaks s g = Legal (is_name s) (values_in s) g × GlobalsHold (globals_of (formulas s)) g

-- What Table answers and leaves: few rounds; and in every snapshot of any size that the demand speaks of and naming r fits, the type of every node is there at the start, is
-- there after every round, and stands at the end: its bit is set in both stores
pub record TableDemand3 (l : Limits) (s : List ℕ) (r : ℕ) (o : Result Tabled Refusal) (first' second' : List ℕ) : Type 0 where
  pub whole : refusal_under l s ≡ 0 → WholeClaim s (Ctl.verdict (tableau_in s) (positive (goal_of (formulas s))))
  pub few-rounds : (a : Tabled) → o ≡ Ok a → a.rounds ≤ a.start - a.left
  pub stands : (a : Tabled) → o ≡ Ok a → (g : Snapshot) → Speaks s g → Fits (tableau_in s) r g → (i t : ℕ) → i < g.n → NodeType (tableau_in s) g i t
      → (t ∈ start_types (tableau_in s) r) × (((k : ℕ) → t ∈ family_of (tableau_in s) r k) × (T (member first' t) × T (member second' t)))

-- what Verdict answers is a verdict of the logic
pub data Tells : Result Verdict Refusal → Ctl.Verdict → Type 0 where
  tells-open : (r t : ℕ) → Tells (Ok (Judging.Open r t)) (Ctl.open' r t)
  tells-unsatisfiable : Tells (Ok Judging.Unsatisfiable) Ctl.unsatisfiable

-- Where the sheet is not refused, the single claim holds of the answer. In particular after unsatisfiable no snapshot that the demand speaks of has the goal at any node
pub record VerdictDemand3 (l : Limits) (s : List ℕ) (v : Result Verdict Refusal) : Type 0 where
  pub whole : refusal_under l s ≡ 0 → (a : Ctl.Verdict) × Tells v a × WholeClaim s a
  pub nowhere : v ≡ Ok Judging.Unsatisfiable → (g : Snapshot) → Speaks s g → (i : ℕ) → i < g.n → ¬ HoldsRaw g (goal_of (formulas s)) i

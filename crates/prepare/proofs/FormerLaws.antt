-- What sheets keep that have nothing of what a request brings. Without values their places and tableau are document 01's, and where at most one name occurs so are namings, start types,
-- families, rounds, survivors and verdict; with symbols of single letters besides, their tableau is the one by letters. And no goal that was unsatisfiable comes back. Assumes nothing.
use mathlib.Core.Path.{◌≡◌, refl, ap, ◌∙◌, subst}
use mathlib.Core.Logic.{◌↔◌}
use mathlib.Core.List.Memᴰ
use mathlib.Core.List.{List, [], ◌∷◌, ◌++◌, map}
use Prim.Native.Nat.{ℕ, ◌≤◌, ◌<◌}
use native.Mathlib.Omega.{arith}
use lib.ListN.{length, get_or}
use Rattle.ctl.specs.Lists.{◌∈◌, below}
use Rattle.ctl.specs.Formula.{Form}
use Rattle.ctl.specs.Positive.{positive}
use Rattle.ctl.specs.Closure.{closure}
use Rattle.ctl.specs.Lean.{with_values, lean}
use Rattle.ctl.specs.Snapshot.{Snapshot}
use Rattle.ctl.specs.Tableau.{tableau_of, name_places, namings, obeys}
use Rattle.ctl.specs.Verdict.{unsatisfiable, verdict}
use Rattle.ctl.specs.Judging.{former_start, verdict_from, JudgedFrom}
use Rattle.ctl.specs.Demand3.{Fits, sheet_tableau}
use Rattle.ctl.specs.Published
use Rattle.ctl.proofs.Crossed.{unsatisfiable-stays}
use Rattle.ctl.proofs.Unchanged.{as-published, one-fits, one_name, tableau-without, without-values}
use Rattle.ctl.specs.Former.{former_tableau}
use Rattle.ctl.proofs.FormerLaws.{tableau-former}
use Rattle.layout.specs.Text.{split as words}
use Rattle.layout.specs.Layout.{line_of}
use Rattle.head.specs.Head.{space, spellings, kinds, name_count}
use Rattle.head.specs.Former.{NoValue, former_kinds}
use Rattle.head.proofs.FormerLaws.{kinds-former}
use Rattle.head.proofs.Spellings.{sheet-spellings}
use Rattle.sheet.specs.Refusal.{read_refusal}
use Rattle.sheet.specs.Reading.{formulas, globals_of, goal_of, is_name, spell_of}
use Rattle.sheet.proofs.DeclaredLaws.{formulas-over}
use Rattle.sheet.proofs.FormerLaws.{no-values}
use Rattle.reader.specs.Reader.{members, places}
use Rattle.prepare.specs.Prepared.{tableau_in}
use Rattle.prepare.proofs.Bridge.{globals-goal, formulas-some}
use Rattle.prepare.proofs.NameCount.{names-declared}

-- every symbol has one letter
abbrev pub Single : List ℕ → Type 0
Single s = (k : ℕ) → k < length (spellings s) → length (spell_of s k) ≡ 1

-- that letter
abbrev pub letter_of : List ℕ → ℕ → ℕ
letter_of s k = get_or (spell_of s k) 0 0

one-letter : (w : List ℕ) → length w ≡ 1 → w ≡ get_or w 0 0 ∷ []
one-letter [] e = absurd (omega arith)
one-letter (b ∷ []) e = refl
one-letter (b ∷ (c ∷ w)) e = absurd (omega arith)

-- line 2 has no word `value`
abbrev pub WithoutValues : List ℕ → Type 0
WithoutValues s = NoValue (words space (line_of s 1))

module _ (s : List ℕ) (none : WithoutValues s) where
  pub kinds-before : kinds s ≡ former_kinds (line_of s 1)
  kinds-before = kinds-former (line_of s 1) none

  pub places-before : places s ≡ lean (spell_of s) (members s)
  unfolding with_values
  places-before = ap (λ vs. lean (spell_of s) (with_values vs (members s))) (no-values s none)

  tableau-none : tableau_in s ≡ sheet_tableau (spell_of s) (is_name s) [] (globals_of (formulas s)) (goal_of (formulas s))
  tableau-none = ap (λ vs. sheet_tableau (spell_of s) (is_name s) vs (globals_of (formulas s)) (goal_of (formulas s))) (no-values s none)

  -- the globals in positive form, and the closure of these and the goal
  abbrev globals : List Form
  globals = map positive (globals_of (formulas s))

  abbrev closed : List Form
  closed = closure (globals ++ (positive (goal_of (formulas s)) ∷ []))

  pub tableau-before : tableau_in s ≡ record { cl = closed; ln = lean (spell_of s) closed; name = is_name s; values = []; globals = globals }
  unfolding sheet_tableau
  tableau-before = tableau-none ∙ tableau-without (spell_of s) (is_name s) globals (positive (goal_of (formulas s)) ∷ [])

  values-before : (tableau_in s).values ≡ []
  unfolding sheet_tableau tableau_of
  values-before = no-values s none

  -- its start types are those that obey the naming and make all globals true, and everything else comes from these
  pub judged-before : JudgedFrom (tableau_in s) (former_start (tableau_in s) (obeys (tableau_in s))) (namings (tableau_in s))
  judged-before = without-values (tableau_in s) values-before

-- ---- where at most one name occurs

-- of the lean's places at most one is a name
abbrev pub OneName : List ℕ → Type 0
OneName s = length (name_places (tableau_in s)) ≤ 1

-- so in every sheet that declares at most one
pub one-declared : (s : List ℕ) → name_count (kinds s) ≤ 1 → OneName s
one-declared s h = let a = names-declared s in omega arith

module _ (s : List ℕ) (one : OneName s) where
  -- namings, start types, families, rounds, survivors and verdict are the published ones, and the same namings fit a snapshot
  pub judged-published : JudgedFrom (tableau_in s) (Published.start_types (tableau_in s)) (Published.namings (tableau_in s))
  judged-published = one_name (tableau_in s) one

  pub fits-published : (r : ℕ) (g : Snapshot) → Fits (tableau_in s) r g ↔ Published.Fits (tableau_in s) r g
  fits-published = one-fits (tableau_in s) one

  -- without values they are document 01's
  pub judged-document : WithoutValues s → JudgedFrom (tableau_in s) (former_start (tableau_in s) (Published.obeys (tableau_in s))) (Published.namings (tableau_in s))
  judged-document none = as-published (tableau_in s) one (values-before s none)

-- ---- whatever names occur

-- a goal that was unsatisfiable by the published namings is so still
pub unsatisfiable-before : (s : List ℕ) (goal : Form) → (let S = tableau_in s in verdict_from S.cl S.ln (Published.start_types S) goal (below (Published.namings S)) ≡ unsatisfiable) → verdict (tableau_in s) goal ≡ unsatisfiable
unsatisfiable-before s goal = unsatisfiable-stays (tableau_in s) goal

-- ---- with symbols of single letters

module _ (s : List ℕ) (z : read_refusal s ≡ 0) where
  split : globals_of (formulas s) ++ (goal_of (formulas s) ∷ []) ≡ formulas s
  split = globals-goal (formulas s) (formulas-some s z)

  pub tableau-single : Single s → WithoutValues s → tableau_in s ≡ former_tableau (letter_of s) (is_name s) (globals_of (formulas s)) (goal_of (formulas s))
  tableau-single one none = tableau-none s none ∙ tableau-former (spell_of s) (letter_of s) (length (spellings s)) (sheet-spellings s).few (λ k h. one-letter (spell_of s k) (one k h)) (is_name s) (globals_of (formulas s)) (goal_of (formulas s))
      (λ p m. formulas-over s z p (subst (λ l. p ∈ l) split (Memᴰ.append_left (goal_of (formulas s) ∷ []) m)))
      (formulas-over s z (goal_of (formulas s)) (subst (λ l. goal_of (formulas s) ∈ l) split (Memᴰ.append_right (globals_of (formulas s)) (Memᴰ.head refl))))

-- What is read off a sheet for judging it, once for all namings: what finding it asks, and what it gives; and what the words ask that are
-- computed from it. Assumes nothing.
use Rattle.std.specs.Prelude.{◌≡◌, List, ℕ, ◌+◌, ◌*◌, ◌^◌, ◌≤◌, ◌<◌, length, get_or, take}
use Rattle.ctl.specs.Formula.{Form}
use Rattle.ctl.specs.Positive.{positive}
use Rattle.ctl.specs.Tableau.{Tableau, namings}
use Rattle.sheet.specs.Refusal.{read_refusal}
use Rattle.sheet.specs.Reading.{formulas, goal_of}
use Rattle.conditions.specs.Conditions.{Placed}
use Rattle.tableau.specs.Matches.{Matches}
use Rattle.truth.specs.Tables.{Leans, Table, form}
use Rattle.reader.specs.declared.Reading.{Reading}
use Rattle.reader.specs.Reader.{Says}
use Rattle.prepare.specs.Prepared.{kinds_of, lean_of, table_of, tableau_in}
use Rattle.prepare.specs.Width.{words_for}
use Rattle.start.specs.Starts.{Named}
use Rattle.frame.specs.declared.Frame.{Frame}

-- the table, the lean, the kinds and the formulas' places are those of a sheet that was read
pub record Given (ms ln kinds places : List ℕ) (s : List ℕ) (r : Reading) : Type 0 where
  pub says : Says s r
  pub read : read_refusal s ≡ 0
  pub table_is : ms ≡ table_of r
  pub lean-is : ln ≡ lean_of r
  pub kinds-are : kinds ≡ kinds_of r
  pub places-are : places ≡ take r.formulas r.places
  pub many : length places ≡ r.formulas

-- what is asked: these, within their limits, and room in the stores
pub record Frames (ms ln kinds places globals names values : List ℕ) : Type 0 where
  pub sheet : List ℕ
  pub reading : Reading
  pub given : Given ms ln kinds places sheet reading
  pub few : reading.formulas ≤ 5
  pub narrow : reading.width ≤ 12
  pub small : reading.count ≤ 136
  pub globals-room : 8 ≤ length globals
  pub names-room : 12 ≤ length names
  pub values-room : 12 ≤ length values

-- a table with its lean, in which each EX and AX over one mode has a place, globals of it, and value places
pub record Sound (ms ln globals values : List ℕ) : Type 0 where
  pub table : Table ms
  pub few : length ms ≤ 136
  pub leans : Leans ms ln
  pub narrow : length ln ≤ 12
  pub places : Placed ms ln
  pub globals-in : (i : ℕ) → i < length globals → get_or globals i 0 < length ms
  pub values-in : (i : ℕ) → i < length values → get_or values i 0 ≤ 60

-- and what is given
pub record Framed (S : Tableau) (goal : Form) (ms ln globals names values : List ℕ) (f : Frame) : Type 0 where
  pub sound : Sound ms ln globals values
  pub matches : Matches S ms ln globals names values
  pub words_are : f.words ≡ words_for (length ln)
  pub goal-inside : f.goal < length ms
  pub goal-is : form ms f.goal ≡ goal
  pub namings-are : f.namings ≡ namings S
  pub few-namings : f.namings ≤ 2 ^ 22
  pub few-globals : f.globals ≤ 8
  pub few-places : (f.names ≤ 2) × (f.values ≤ 12)
  pub named : Named names (length ln)

-- for whichever sheet and reading they are of
abbrev pub FramedAs : List ℕ → List ℕ → List ℕ → List ℕ → List ℕ → List ℕ → List ℕ → Frame → Type 0
FramedAs ms ln kinds places globals' names' values' f =
    (s : List ℕ) (r : Reading) → Given ms ln kinds places s r
    → Framed (tableau_in s) (positive (goal_of (formulas s))) ms ln (take f.globals globals') (take f.names names') (take f.values values') f

-- how many words each of these stores has at least
pub record Sizes (count w tw cw ns base : ℕ) : Type 0 where
  pub blocks : (count + 9) * w ≤ tw
  pub entries : w * 64 + 16 ≤ cw
  pub needs : count + 8 ≤ ns
  pub families : w + w ≤ base

-- the stores that the words ask for, which are computed from so many members over w words: a block for each member and nine for the fields, the entries of conditions with the modes' sets, the
-- needs, and two families
pub record Stores (count w : ℕ) (tw cw ns base : List ℕ) : Type 0 where
  pub blocks : (count + 9) * w ≤ length tw
  pub entries : w * 64 + 16 ≤ length cw
  pub needs : count + 8 ≤ length ns
  pub families : w + w ≤ length base

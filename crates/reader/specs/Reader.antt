-- What a sheet says, with its closure and lean, or the lowest of the refusals 1 to 10. Assumes nothing.
use Rattle.std.specs.Prelude.{◌≡◌, List, [], ◌∷◌, ◌++◌, map, ℕ, ◌-◌, ◌^◌, ◌<◌, length, get_or, take, ltb, Result, Ok, Err}
use Rattle.ctl.specs.Formula.{Form, tru}
use Rattle.ctl.specs.Positive.{positive}
use Rattle.ctl.specs.Lists.{◌∈◌}
use Rattle.ctl.specs.Print.{print}
use Rattle.ctl.specs.Closure.{closure}
use Rattle.ctl.specs.Lean.{with_values, lean}
use Rattle.head.specs.Head.{spellings, kinds}
use Rattle.spelling.specs.Spelling.{word}
use Rattle.sheet.specs.Refusal.{conditions, first_of}
use Rattle.sheet.specs.Reading.{formulas, spell_of, values_in}
use Rattle.members.specs.Members as Members
use Rattle.members.specs.Grown.{Tabled}
use Rattle.closure.specs.Closed.{Placed}
use Rattle.refusal.specs.declared.Refusal.{Refusal}
use Rattle.refusal.specs.Number.{number_of}
use Rattle.reader.specs.declared.Reading.{Reading}

-- the formulas in positive form, their closure, that with the values that do not occur, and its lean
abbrev pub forms : List ℕ → List Form
forms s = map positive (formulas s)

abbrev pub members : List ℕ → List Form
members s = closure (forms s)

abbrev pub tabled : List ℕ → List Form
tabled s = with_values (values_in s) (members s)

abbrev pub places : List ℕ → List Form
places s = lean (spell_of s) (tabled s)

-- the lowest of the refusals 1 to 10 that applies, over the whole sheet, where the closure may have `most` members and the lean `wide` places: 9, closure: over its limit; 10, lean: over its limit
unfoldable pub refusal_within : ℕ → ℕ → List ℕ → ℕ
unfolding conditions
refusal_within most wide s = first_of 1 (conditions s ++ (ltb most (length (members s)) ∷ ltb wide (length (places s)) ∷ []))

abbrev pub refusal_of : List ℕ → ℕ
refusal_of s = refusal_within 64 8 s

-- ---- what the reader answers

-- what a sheet that is accepted says; of its closure members and values no print is too long to be measured
pub record Says (s : List ℕ) (r : Reading) : Type 0 where
  pub symbols : r.symbols ≡ length (spellings s)
  pub words_are : take r.symbols r.words ≡ map word (spellings s)
  pub kinds-are : take r.symbols r.kinds ≡ kinds s
  pub many : r.formulas ≡ length (formulas s)
  pub brief : (p : Form) → p ∈ tabled s → length (print (spell_of s) p) < 2 ^ 32
  pub tabled : Tabled (tabled s) r.members r.count
  pub placed : Placed (forms s) r.members r.places r.count
  pub lean-many : r.width ≡ length (places s)
  pub lean-are : map (λ i. get_or (Members.forms (take r.count r.members)) i tru) (take r.width r.lean) ≡ places s

-- what it says, where no refusal applies; else the lowest that does
abbrev pub ReadIs : ℕ → ℕ → List ℕ → Result Reading Refusal → Type 0
ReadIs most wide s (Ok r) = (refusal_within most wide s ≡ 0) × Says s r
ReadIs most wide s (Err e) = refusal_within most wide s ≡ number_of e

-- the place before each end
pub record RootsAre (ends r : List ℕ) : Type 0 where
  pub five : length r ≡ 5
  pub each : (i : ℕ) → i < 5 → get_or r i 0 ≡ get_or ends i 0 - 1

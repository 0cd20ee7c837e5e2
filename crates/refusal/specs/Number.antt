-- The documents' number of each refusal, and the refusal of a number. Assumes nothing: these are definitions.
use Rattle.std.specs.Prelude.{[], ◌∷◌, ℕ, suc, get_or, Option, Some, None, Result, Ok, Err}
use Rattle.refusal.specs.declared.Refusal.{Refusal}
use Rattle.refusal.specs.declared.Refusal.TheVariants.{Length, Byte, Layout, Names, Kinds, Grammar, Symbol, Braces, Closure, Lean, Naming, Store, Snapshot, Entry, Twice, Row, Held, Clean, Limits}

abbrev pub number_of : Refusal → ℕ
number_of Length = 1
number_of Byte = 2
number_of Layout = 3
number_of Names = 4
number_of Kinds = 5
number_of Grammar = 6
number_of Symbol = 7
number_of Braces = 8
number_of Closure = 9
number_of Lean = 10
number_of Naming = 11
number_of Store = 12
number_of Snapshot = 13
number_of Entry = 14
number_of Twice = 15
number_of Row = 16
number_of Held = 17
number_of Clean = 18
number_of Limits = 19

-- the refusal of a number; of one that is none's, the last
abbrev pub refusal_by : ℕ → Refusal
refusal_by ℕ.zero = Limits
refusal_by (suc k) = get_or (Length ∷ Byte ∷ Layout ∷ Names ∷ Kinds ∷ Grammar ∷ Symbol ∷ Braces ∷ Closure ∷ Lean ∷ Naming ∷ Store ∷ Snapshot ∷ Entry ∷ Twice ∷ Row ∷ Held ∷ Clean ∷ []) k Limits

-- what a call that may be refused is told by number: the refusal's, 0 for none
abbrev pub refused_as : {A : Type 0} → Result A Refusal → ℕ
refused_as (Ok a) = 0
refused_as (Err e) = number_of e

-- the number of a refusal, 0 for none
abbrev pub number_if : Option Refusal → ℕ
number_if None = 0
number_if (Some e) = number_of e

-- The refusal of a refusal's number is that refusal, and no refusal has the number 0. Assumes nothing.
use mathlib.Core.Path.{◌≡◌, refl, sym, ap, ◌∙◌}
use Prim.Native.Nat.{ℕ}
use native.Mathlib.Omega.{arith}
use Rattle.refusal.specs.declared.Refusal.{Refusal}
use Rattle.refusal.specs.declared.Refusal.TheVariants.{Length, Byte, Layout, Names, Kinds, Grammar, Symbol, Braces, Closure, Lean, Naming, Store, Snapshot, Entry, Twice, Row, Held, Clean, Limits}
use Rattle.refusal.specs.Number.{number_of, refusal_by}

pub refusal-by-number : (e : Refusal) → refusal_by (number_of e) ≡ e
refusal-by-number Length = refl
refusal-by-number Byte = refl
refusal-by-number Layout = refl
refusal-by-number Names = refl
refusal-by-number Kinds = refl
refusal-by-number Grammar = refl
refusal-by-number Symbol = refl
refusal-by-number Braces = refl
refusal-by-number Closure = refl
refusal-by-number Lean = refl
refusal-by-number Naming = refl
refusal-by-number Store = refl
refusal-by-number Snapshot = refl
refusal-by-number Entry = refl
refusal-by-number Twice = refl
refusal-by-number Row = refl
refusal-by-number Held = refl
refusal-by-number Clean = refl
refusal-by-number Limits = refl

-- the refusal of 0 is the one of 19
pub number-some : (e : Refusal) → number_of e ≡ 0 → ⊥
number-some e z = let i : ◌≡◌ {A = ℕ} 19 0 = ap number_of (ap refusal_by (sym z) ∙ refusal-by-number e) ∙ z in omega arith

-- Two sheets that say the same have the same symbols, declarations, closure and lean; where neither is refused by 1 to 8 they are refused alike, and they are written clean alike. Assumes nothing.
use mathlib.Core.Path.{◌≡◌, sym, ap, ap₂, ◌∙◌}
use mathlib.Core.Bool.{◌||◌}
use mathlib.Core.List.{List, [], ◌∷◌}
use Prim.Native.Nat.{ℕ}
use lib.Dec.{eqb, ltb}
use lib.ListN.{length, get_or}
use Rattle.ctl.specs.Snapshot.{values_of}
use Rattle.ctl.specs.Closure.{closure}
use Rattle.ctl.specs.Lean.{with_values, lean}
use Rattle.layout.specs.Layout.{any_long, unlines}
use Rattle.head.specs.Head.{names_of, kinds_of, spellings, kinds}
use Rattle.sheet.specs.Refusal.{first_of, read_refusal}
use Rattle.sheet.specs.Reading.{spell_of, values_in}
use Rattle.reader.specs.Reader.{members, tabled, places, refusal_within}
use Rattle.reader.proofs.NumberLaws.{within-rest}
use Rattle.clean.specs.Clean.{formula_lines, clean_lines, clean_text, clean_wrong}
use Rattle.clean.specs.Same.{SameSheet}

module _ {s t : List ℕ} (x : SameSheet s t) where
  -- ---- the symbols
  pub same-spellings : spellings t ≡ spellings s
  same-spellings = ap names_of x.line-one

  pub same-kinds : kinds t ≡ kinds s
  same-kinds = ap kinds_of x.line-two

  pub same-spell : spell_of t ≡ spell_of s
  same-spell = ap {B = ℕ → List ℕ} (λ (ws : List (List ℕ)) k. get_or ws k []) same-spellings

  pub same-values : values_in t ≡ values_in s
  same-values = ap (λ (ks : List ℕ). values_of (λ k. eqb (get_or ks k 0) 4) (length ks)) same-kinds

  -- ---- the closure, and the lean
  pub same-members : members t ≡ members s
  same-members = ap closure x.forms-same

  pub same-tabled : tabled t ≡ tabled s
  same-tabled = ap₂ with_values same-values same-members

  pub same-places : places t ≡ places s
  same-places = ap₂ lean same-spell same-tabled

  -- ---- written clean
  pub same_lines : clean_lines t ≡ clean_lines s
  same_lines = ap₂ ◌∷◌ x.line-one (ap₂ ◌∷◌ x.line-two (ap₂ formula_lines same-spell x.forms-same))

  pub same_text : clean_text t ≡ clean_text s
  unfolding clean_text
  same_text = ap unlines same_lines

  pub same-wrong : (long : ℕ) → clean_wrong t long ≡ clean_wrong s long
  unfolding clean_wrong
  same-wrong long = ap₂ (λ ls w. any_long ls || ltb 1024 (length w) || ltb long (length w)) same_lines same_text

-- ---- the refusals
pub same-within : {s t : List ℕ} → read_refusal s ≡ 0 → read_refusal t ≡ 0 → SameSheet s t → (most wide : ℕ) → refusal_within most wide t ≡ refusal_within most wide s
same-within {s} {t} zs zt x most wide =
    within-rest most wide t zt ∙ ap₂ (λ ms ps. first_of 9 (ltb most (length ms) ∷ ltb wide (length ps) ∷ [])) (same-members x) (same-places x) ∙ sym (within-rest most wide s zs)

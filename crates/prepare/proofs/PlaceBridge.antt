-- The lean of a sheet that was read: the places of names and of values that `kind_places` finds are the tableau's. Assumes nothing.
use mathlib.Core.Path.{◌≡◌, refl, sym, ap, ap₂, ◌∙◌, subst}
use mathlib.Core.Bool.{Bool, ◌&&◌}
use mathlib.Core.List.{List, map}
use Prim.Native.Nat.{ℕ, ◌≤◌, ◌<◌}
use native.Mathlib.Omega.{arith}
use lib.Dec.{eqb}
use lib.ListN.{length, get_or}
use Rattle.ctl.specs.Lists.{below, elem, keep}
use Rattle.ctl.specs.Formula.{Form, tru}
use Rattle.ctl.specs.Equality.{tag, num}
use Rattle.ctl.specs.Positive.{positive}
use Rattle.ctl.specs.Lean.{is_letter}
use Rattle.ctl.specs.Tableau.{Tableau, is_name, is_value, name_places, value_places, tableau_of}
use Rattle.ctl.specs.Demand3.{sheet_tableau}
use Rattle.ctl.proofs.BoolLaws.{both_ways}
use Rattle.ctl.proofs.ListLaws.{below_out, elem_in, elem_out, keep_same, kept-below}
use Rattle.head.specs.Head.{kinds}
use Rattle.sheet.specs.Refusal.{read_refusal}
use Rattle.sheet.specs.Reading.{formulas, globals_of, values_in}
use Rattle.truth.specs.Tables.{form}
use Rattle.tableau.specs.Matches.{Matches}
use Rattle.reader.specs.declared.Reading.{Reading}
use Rattle.reader.specs.Reader.{Says}
use Rattle.prepare.specs.Prepared.{kinds_of, lean_of, table_of, tableau_in}
use Rattle.prepare.specs.Places.{kind_at, kind_word, places_by, Sought}
use Rattle.prepare.proofs.Bridge.{lean-form, lean-inside, lean-length, matches, member-word, tableau-lean}
use Rattle.prepare.proofs.NameCount.{kind-within}

module _ (s : List ℕ) (r : Reading) (x : Says s r) where
  abbrev ms : List ℕ
  ms = table_of r

  abbrev ln : List ℕ
  ln = lean_of r

  abbrev ks : List ℕ
  ks = kinds_of r

  abbrev S : Tableau
  S = tableau_in s

  -- what finding places asks, with room for the lean in the store
  pub sought : (store : List ℕ) → r.width ≤ 60 → r.width ≤ length store → Sought ms ln store
  sought store h i = let n = lean-length s r x in record { short = omega arith; inside = lean-inside s r x; room = omega arith }

  module _ (z : read_refusal s ≡ 0) where
    -- lean place k is a symbol of kind q exactly if the lean's formula k is
    kind-form : (q k : ℕ) → k < length ln → kind_word ks q (get_or ms (get_or ln k 0) 0) ≡ (is_letter (get_or S.ln k tru) && eqb (get_or (kinds s) (num (get_or S.ln k tru)) 0) q)
    unfolding kind_word
    kind-form q k h =
        let w = member-word x.tabled.members (get_or ln k 0) (lean-inside s r x k h) in
        ap₂ (λ t a. eqb t 2 && eqb (get_or ks a 0) q) (sym w.0) (sym w.1)
        ∙ ap (λ l. eqb (tag (form ms (get_or ln k 0))) 2 && eqb (get_or l (num (form ms (get_or ln k 0))) 0) q) x.kinds-are
        ∙ ap (λ p. is_letter p && eqb (get_or (kinds s) (num p) 0) q) (lean-form s r x k h ∙ ap (λ l. get_or l k tru) (sym (tableau-lean s r x z)))

    -- a declared value is a symbol of kind 4
    value-kind : (k : ℕ) → elem k (values_in s) ≡ eqb (get_or (kinds s) k 0) 4
    value-kind k = both_ways _ _ (λ t. ((kept-below (λ j. eqb (get_or (kinds s) j 0) 4) (length (kinds s)) k).0 (elem_out k (values_in s) t)).1)
        (λ t. elem_in ((kept-below (λ j. eqb (get_or (kinds s) j 0) 4) (length (kinds s)) k).1 (kind-within (kinds s) 4 (omega arith) k t, t)))

    name-form : (p : Form) → is_name S p ≡ (is_letter p && eqb (get_or (kinds s) (num p) 0) 2)
    unfolding sheet_tableau tableau_of
    name-form p = refl

    value-form : (p : Form) → is_value S p ≡ (is_letter p && eqb (get_or (kinds s) (num p) 0) 4)
    unfolding sheet_tableau tableau_of
    value-form p = ap (λ b. is_letter p && b) (value-kind (num p))

    lean-many : length ln ≡ length S.ln
    lean-many = lean-length s r x ∙ x.lean-many ∙ ap length (sym (tableau-lean s r x z))

    -- the places found are those of the lean whose formulas pass the test
    places-are : (q : ℕ) (P : Form → Bool) → ((p : Form) → P p ≡ (is_letter p && eqb (get_or (kinds s) (num p) 0) q)) → places_by q ms ln ks ≡ keep (λ i. P (get_or S.ln i tru)) (below (length S.ln))
    unfolding places_by kind_at
    places-are q P f =
        keep_same (kind_at q ms ln ks) (λ i. P (get_or S.ln i tru)) (below (length ln)) (λ k m. kind-form q k (below_out (length ln) m) ∙ sym (f (get_or S.ln k tru)))
        ∙ ap (λ n. keep (λ i. P (get_or S.ln i tru)) (below n)) lean-many

    pub names-are : places_by 2 ms ln ks ≡ name_places S
    unfolding name_places
    names-are = places-are 2 (is_name S) name-form

    pub values-are : places_by 4 ms ln ks ≡ value_places S
    unfolding value_places
    values-are = places-are 4 (is_value S) value-form

    -- lists of these places, with the sheet's globals, match the tableau
    pub found-matches : {names values : List ℕ} → names ≡ places_by 2 ms ln ks → values ≡ places_by 4 ms ln ks → (globals : List ℕ)
        → map (form ms) globals ≡ map positive (globals_of (formulas s)) → Matches S ms ln globals names values
    found-matches {names} {values} a b globals e =
        subst (λ l. Matches S ms ln globals l values) (sym (a ∙ names-are))
        (subst (λ l. Matches S ms ln globals (name_places S) l) (sym (b ∙ values-are)) (matches s r x z globals e))

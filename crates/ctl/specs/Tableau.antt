-- The tableau of some formulas: closure and lean, namings and start types. Assumes nothing.
use Rattle.std.specs.Prelude.{Bool, not, ◌&&◌, ℕ, ◌-◌, ◌*◌, ◌/◌, ◌%◌, ◌^◌, get_or, eqb}
use Rattle.std.proofs.Math.Bool.{true}
use mathlib.Core.List.{List, [], ◌∷◌, ◌++◌, map}
use Rattle.std.proofs.Math.ListN.{length}
use Rattle.ctl.specs.Lists.{all_of, keep, imp, elem, below}
use Rattle.ctl.specs.Numbers.{number}
use Rattle.ctl.specs.Formula.{Form, tru}
use Rattle.ctl.specs.Equality.{num}
use Rattle.ctl.specs.Closure.{closure}
use Rattle.ctl.specs.Lean.{is_letter, with_values, lean}
use Rattle.ctl.specs.Types.{in_type, truth}

-- what the elimination goes by: the closure, the lean, which symbols are names, the declared values, the globals
pub record Tableau : Type 0 where
  pub cl : List Form
  pub ln : List Form
  pub name : ℕ → Bool
  pub values : List ℕ
  pub globals : List Form

-- that of globals and goals, where `spell` gives the symbols' spellings, `name` says which symbols are names and `values` are the declared values: all of these are in
-- the lean, whether they occur or not, and one that does not occur is no closure member
unfoldable pub tableau_of : (ℕ → List ℕ) → (ℕ → Bool) → List ℕ → List Form → List Form → Tableau
unfolding lean with_values closure
tableau_of spell name values globals goals =
    let c = closure (globals ++ goals) in
    record { cl = c; ln = lean spell (with_values values c); name = name; values = values; globals = globals }

-- if any value is declared, exactly one is held
abbrev pub one_held : List ℕ → List ℕ → Bool
one_held [] held = true
one_held (v ∷ vs) held = eqb (length held) 1

-- some places of a type as a number: the first counts 1, the next 2, and so on
unfoldable pub pack : List ℕ → ℕ → ℕ
unfolding number
pack l t = number (map (in_type t) l)

module _ (S : Tableau) where
  abbrev pub is_name : Form → Bool
  is_name p = is_letter p && S.name (num p)

  -- the lean places that are names
  unfoldable pub name_places : List ℕ
  name_places = keep (λ i. is_name (get_or S.ln i tru)) (below (length S.ln))

  -- the lean places that a name's set covers: all but the name itself; and how many they are
  unfoldable pub places_but : ℕ → List ℕ
  places_but v = keep (λ i. not (eqb i v)) (below (length S.ln))

  abbrev pub set_bits : ℕ
  set_bits = length S.ln - 1

  -- how many namings there are
  unfoldable pub namings : ℕ
  unfolding name_places
  namings = 2 ^ (set_bits * length name_places)

  -- A type obeys naming r for some names: where it has a name, its other places, other names among them, are that name's set. The first name's set is the lowest bits of r
  unfoldable pub obeys_from : List ℕ → ℕ → ℕ → Bool
  unfolding places_but pack
  obeys_from [] r t = true
  obeys_from (v ∷ vs) r t =
      let rest = obeys_from vs (r / 2 ^ set_bits) t in
      imp (in_type t v) (eqb (pack (places_but v) t) (r % 2 ^ set_bits)) && rest

  unfoldable pub obeys : ℕ → ℕ → Bool
  unfolding obeys_from name_places
  obeys r t = obeys_from name_places r t

  abbrev pub is_value : Form → Bool
  is_value p = is_letter p && elem (num p) S.values

  -- the lean places that are values
  unfoldable pub value_places : List ℕ
  unfolding elem
  value_places = keep (λ i. is_value (get_or S.ln i tru)) (below (length S.ln))

  -- a type holds exactly one of the values, if any is declared
  unfoldable pub valued : ℕ → Bool
  unfolding value_places
  valued t = one_held S.values (keep (in_type t) value_places)

  -- the start types under naming r: those that obey it, hold exactly one of the values, if any is declared, and make all globals true
  unfoldable pub starts : ℕ → ℕ → Bool
  unfolding obeys valued truth
  starts r t = obeys r t && (valued t && all_of (truth S.ln t) S.globals)

  unfoldable pub start_types : ℕ → List ℕ
  unfolding starts
  start_types r = keep (starts r) (below (2 ^ length S.ln))

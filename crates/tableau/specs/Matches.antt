-- What a table of members, a lean, globals and places have to do with a tableau of the logic. Assumes nothing.
use Rattle.std.specs.Prelude.{◌≡◌, ◌⊎◌, List, [], map, ℕ, T}
use Rattle.ctl.specs.Lists.{◌∈◌}
use Rattle.ctl.specs.Formula.{Form}
use Rattle.ctl.specs.Lean.{is_letter}
use Rattle.ctl.specs.Tableau.{Tableau, name_places, value_places}
use Rattle.members.specs.Members.{forms}
use Rattle.truth.specs.Tables.{form, lean_forms}

-- The table has the closure's members, in any order, and symbols besides. The lean, the globals and the places of names and of values are the tableau's, and where there is no value
-- place no value is declared
pub record Matches (S : Tableau) (ms ln globals names values : List ℕ) : Type 0 where
  pub closure-in : (p : Form) → p ∈ S.cl → p ∈ forms ms
  pub closure-has : (p : Form) → p ∈ forms ms → (p ∈ S.cl) ⊎ T (is_letter p)
  pub lean : S.ln ≡ lean_forms ms ln
  pub globals-are : S.globals ≡ map (form ms) globals
  pub names-are : name_places S ≡ names
  pub values-are : value_places S ≡ values
  pub values-none : values ≡ [] → S.values ≡ []

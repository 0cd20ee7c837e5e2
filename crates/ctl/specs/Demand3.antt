-- Demand 3 as one record over a sheet's formulas as typed: one claim about the whole elimination with its verdict, for every naming and every snapshot of any size.
-- It speaks of nodes through the meaning over maximal paths alone. Assumes nothing.
use Rattle.std.specs.Prelude.{◌≡◌, ◌↔◌, Bool, List, [], ◌∷◌, map, ℕ, suc, ◌-◌, ◌^◌, ◌≤◌, ◌<◌, length, get_or, T}
use Rattle.ctl.specs.Lists.{◌∈◌}
use Rattle.ctl.specs.Formula.{tru}
use Rattle.ctl.specs.Raw.{Raw}
use Rattle.ctl.specs.Positive.{positive, signed}
use Rattle.ctl.specs.Snapshot.{Snapshot, NamesSingle, Legal}
use Rattle.ctl.specs.Meaning.{Holds, HoldsRaw}
use Rattle.ctl.specs.Types.{in_type}
use Rattle.ctl.specs.Tableau.{Tableau, tableau_of, namings, obeys, start_types}
use Rattle.ctl.specs.Verdict.{Verdict, unsatisfiable, MeetsIn, family_of, rounds_of, surviving_types, HasGoal}

-- t is the type of node i: the set of the lean places that hold there by their meaning
pub record NodeType (S : Tableau) (s : Snapshot) (i t : ℕ) : Type 0 where
  pub small : t < 2 ^ length S.ln
  pub place : (k : ℕ) → k < length S.ln → T (in_type t k) ↔ Holds s (get_or S.ln k tru) i

-- Naming r fits the snapshot: each occurring name that a node carries has, as its set, all other places of the node's type. That is, the type of every node obeys.
abbrev pub Fits : Tableau → ℕ → Snapshot → Type 0
Fits S r s = (i t : ℕ) → i < s.n → NodeType S s i t → T (obeys S r t)

-- every global holds at every node
abbrev pub GlobalsHold : List Raw → Snapshot → Type 0
GlobalsHold globals s = (g : Raw) → g ∈ globals → (i : ℕ) → i < s.n → HoldsRaw s g i

-- the tableau of a sheet with one goal
unfoldable pub sheet_tableau : (ℕ → List ℕ) → (ℕ → Bool) → List ℕ → List Raw → Raw → Tableau
unfolding tableau_of signed
sheet_tableau spell name values globals goal = tableau_of spell name values (map positive globals) (positive goal ∷ [])

-- `spell` gives the symbols' spellings, `name` says which symbols are names, `values` are the declared values
module _ (spell : ℕ → List ℕ) (name : ℕ → Bool) (values : List ℕ) (globals : List Raw) (goal : Raw) where
  abbrev S : Tableau
  S = sheet_tableau spell name values globals goal

  pub record Demand3 (answer : Verdict) : Type 0 where
    -- (a) unsatisfiable is said exactly when under no naming a surviving type makes the goal true
    pub unsatisfiable-iff : (answer ≡ unsatisfiable) ↔ ((r t : ℕ) → r < namings S → HasGoal S (positive goal) r t → ⊥)
    -- (b) under every naming family 0 is the start types, and each next family is the one before less those that fail against it. Rounds is the least k for which family k + 1 equals
    -- family k, the survivors are that family, and there are at most as many rounds as types at start less those left
    pub family-zero : (r : ℕ) → family_of S r 0 ≡ start_types S r
    pub family-next : (r k t : ℕ) → (t ∈ family_of S r (suc k)) ↔ ((t ∈ family_of S r k) × MeetsIn S (family_of S r k) t)
    pub rounds-stay : (r : ℕ) → family_of S r (suc (rounds_of S r)) ≡ family_of S r (rounds_of S r)
    pub rounds-first : (r k : ℕ) → family_of S r (suc k) ≡ family_of S r k → rounds_of S r ≤ k
    pub surviving-is : (r : ℕ) → surviving_types S r ≡ family_of S r (rounds_of S r)
    pub rounds-few : (r : ℕ) → rounds_of S r ≤ length (start_types S r) - length (surviving_types S r)
    -- (c) every node has one type; where every global holds at every node, the snapshot is legal (each name is on at most one node, each node holds exactly one of the values, if any
    -- is declared) and the naming fits, that type is there at the start, after every round and at the end
    pub one_type : (s : Snapshot) (i : ℕ) → i < s.n → (t : ℕ) × NodeType S s i t × ((u : ℕ) → NodeType S s i u → u ≡ t)
    pub at-start : (s : Snapshot) → Legal name values s → GlobalsHold globals s → (r : ℕ) → Fits S r s → (i t : ℕ) → i < s.n → NodeType S s i t → t ∈ start_types S r
    pub after-rounds : (s : Snapshot) → Legal name values s → GlobalsHold globals s → (r : ℕ) → Fits S r s → (i t : ℕ) → i < s.n → NodeType S s i t → (k : ℕ) → t ∈ family_of S r k
    pub at-end : (s : Snapshot) → Legal name values s → GlobalsHold globals s → (r : ℕ) → Fits S r s → (i t : ℕ) → i < s.n → NodeType S s i t → t ∈ surviving_types S r
    -- (d) some naming fits every snapshot in which each name is on at most one node
    pub some-naming : (s : Snapshot) → NamesSingle name s → (r : ℕ) × (r < namings S) × Fits S r s
    -- (e) so after unsatisfiable no legal snapshot where every global holds at every node has the goal at any node
    pub goal-nowhere : answer ≡ unsatisfiable → (s : Snapshot) → Legal name values s → GlobalsHold globals s → (i : ℕ) → i < s.n → ¬ HoldsRaw s goal i

-- Demand 3 holds of every sheet's formulas and the verdict on them. Assumes nothing.
use mathlib.Core.Path.{refl, sym, subst}
use mathlib.Core.Bool.{Bool}
use mathlib.Core.List.Memᴰ
use mathlib.Core.List.{List, [], ◌∷◌, ◌++◌, map}
use Prim.Native.Nat.{ℕ, ◌<◌}
use lib.Dec.{T}
use Rattle.ctl.specs.Lists.{◌∈◌}
use Rattle.ctl.specs.Formula.{Form}
use Rattle.ctl.specs.Raw.{Raw}
use Rattle.ctl.specs.Positive.{positive}
use Rattle.ctl.specs.Snapshot.{Snapshot, NamesSingle, ValuesSingle}
use Rattle.ctl.specs.Meaning.{HoldsRaw}
use Rattle.ctl.specs.Tableau.{Tableau, tableau_of, namings, obeys, start_types}
use Rattle.ctl.specs.Verdict.{family_of, surviving_types, HasGoal, verdict}
use Rattle.ctl.specs.Demand3.{NodeType, Fits, GlobalsHold, sheet_tableau, Demand3}
use Rattle.ctl.specs.Evaluator.{sat}
use Rattle.ctl.proofs.BoolLaws.{T_true}
use Rattle.ctl.proofs.ListLaws.{map-out}
use Rattle.ctl.proofs.ClosureLaws.{closure-has}
use Rattle.ctl.proofs.TableauLaws.{Proper, tableau-proper}
use Rattle.ctl.proofs.VerdictLaws.{family-next, family-zero, rounds-few, rounds-first, rounds-stay, surviving-is, unsatisfiable-iff}
use Rattle.ctl.proofs.PositiveLaws.{raw-sat}
use Rattle.ctl.proofs.NodeTypes.{node_type, type-is, type-only, true-node}
use Rattle.ctl.proofs.Soundness.{starts-node, in-families, survives}
use Rattle.ctl.proofs.NamingLaws.{some-naming}

module _ (spell : ℕ → List ℕ) (name : ℕ → Bool) (values : List ℕ) (globals : List Raw) (goal : Raw) where
  abbrev S : Tableau
  S = sheet_tableau spell name values globals goal

  proper : Proper S
  unfolding sheet_tableau
  proper = tableau-proper spell name values (map positive globals) (positive goal ∷ [])

  goal-in : positive goal ∈ S.cl
  unfolding sheet_tableau tableau_of
  goal-in = closure-has (map positive globals ++ (positive goal ∷ [])) (Memᴰ.append_right (map positive globals) (Memᴰ.head refl))

  -- a fitting naming for a snapshot with its names single, whether or not the globals hold in it
  fitting : (s : Snapshot) → NamesSingle name s → (r : ℕ) × (r < namings S) × Fits S r s
  unfolding sheet_tableau tableau_of
  fitting s single =
      let w = some-naming S s single in
      (w.0, w.1, λ i t l h. subst (λ u. T (obeys S w.0 u)) (sym (type-only S s i t l h)) (w.2 i l))

  -- the rule on values, as the tableau has them
  rule-on : (s : Snapshot) → ValuesSingle values s → ValuesSingle S.values s
  unfolding sheet_tableau tableau_of
  rule-on s rule = rule

  module _ (s : Snapshot) (rule : ValuesSingle values s) (hold : GlobalsHold globals s) where
    -- the globals at the nodes, in positive form
    globals-sat : (p : Form) → p ∈ S.globals → (i : ℕ) → i < s.n → T (sat s p i)
    unfolding sheet_tableau tableau_of
    globals-sat p m i l =
        let w = map-out positive globals m in
        T_true (sat s p i) (rw w.2 ((raw-sat s w.0 i l).1 (hold w.0 w.1 i l)))

    module _ (r : ℕ) (fits : Fits S r s) where
      obeying : (i : ℕ) → i < s.n → T (obeys S r (node_type S s i))
      obeying i l = fits i (node_type S s i) l (type-is S s i l)

      -- the type of a node is in a family where its computed type is
      by-type : (fam : List ℕ) (i t : ℕ) → i < s.n → NodeType S s i t → node_type S s i ∈ fam → t ∈ fam
      by-type fam i t l h m = subst (λ u. u ∈ fam) (sym (type-only S s i t l h)) m

      start-there : (i t : ℕ) → i < s.n → NodeType S s i t → t ∈ start_types S r
      start-there i t l h = by-type (start_types S r) i t l h (starts-node S proper s (rule-on s rule) globals-sat r obeying i l)

      family-there : (i t : ℕ) → i < s.n → NodeType S s i t → (k : ℕ) → t ∈ family_of S r k
      family-there i t l h k = by-type (family_of S r k) i t l h (in-families S proper s (rule-on s rule) globals-sat r obeying k i l)

      end-there : (i t : ℕ) → i < s.n → NodeType S s i t → t ∈ surviving_types S r
      end-there i t l h = by-type (surviving_types S r) i t l h (survives S proper s (rule-on s rule) globals-sat r obeying i l)

    -- a node with the goal gives a surviving type with the goal, under a naming that fits
    goal-type : NamesSingle name s → (i : ℕ) → i < s.n → HoldsRaw s goal i → (r : ℕ) × (t : ℕ) × (r < namings S) × HasGoal S (positive goal) r t
    goal-type single i l h =
        let w = fitting s single in
        let t = node_type S s i in
        (w.0, t, w.1, (end-there w.0 w.2 i t l (type-is S s i l), true-node S proper s (positive goal) i l goal-in (T_true (sat s (positive goal) i) ((raw-sat s goal i l).1 h))))

  pub demand-3 : Demand3 spell name values globals goal (verdict S (positive goal))
  demand-3 = record {
    unsatisfiable-iff = unsatisfiable-iff S (positive goal);
    family-zero = family-zero S;
    family-next = family-next S;
    rounds-stay = rounds-stay S;
    rounds-first = rounds-first S;
    surviving-is = surviving-is S;
    rounds-few = rounds-few S;
    one_type = λ s i l. (node_type S s i, type-is S s i l, λ u h. type-only S s i u l h);
    at-start = λ s legal hold r fits. start-there s legal.values-single hold r fits;
    after-rounds = λ s legal hold r fits. family-there s legal.values-single hold r fits;
    at-end = λ s legal hold r fits. end-there s legal.values-single hold r fits;
    some-naming = fitting;
    goal-nowhere = λ e s legal hold i l h. (let w = goal-type s legal.values-single hold legal.names-single i l h in (unsatisfiable-iff S (positive goal)).0 e w.0 w.1 w.2 w.3);
  }

-- Document 01's namings as published, before request §4: a name's set covers the lean places that are no names. Where at most one name occurs they are those of Tableau: what
-- proofs/Unchanged says, which alone cites this, beside a computed sheet. Assumes nothing.
use Rattle.std.specs.Prelude.{Bool, not, ◌&&◌, ℕ, ◌*◌, ◌/◌, ◌%◌, ◌^◌, ◌<◌, get_or, T, eqb}
use Rattle.std.proofs.Math.Bool.{true}
use mathlib.Core.List.{List, [], ◌∷◌}
use Rattle.std.proofs.Math.ListN.{length}
use Rattle.ctl.specs.Lists.{all_of, keep, imp, below}
use Rattle.ctl.specs.Formula.{tru}
use Rattle.ctl.specs.Snapshot.{Snapshot}
use Rattle.ctl.specs.Types.{in_type, truth}
use Rattle.ctl.specs.Tableau.{Tableau, is_name, name_places, pack, valued}
use Rattle.ctl.specs.Demand3.{NodeType}

module _ (S : Tableau) where
  -- the lean places that are no names
  unfoldable pub other_places : List ℕ
  other_places = keep (λ i. not (is_name S (get_or S.ln i tru))) (below (length S.ln))

  -- how many namings there are
  unfoldable pub namings : ℕ
  unfolding name_places other_places
  namings = 2 ^ (length other_places * length (name_places S))

  -- A type obeys naming r for some names: where it has a name, its non-name places are that name's set. The first name's set is the low bits of r, as many as there
  -- are non-name places
  unfoldable pub obeys_from : List ℕ → ℕ → ℕ → Bool
  unfolding other_places pack
  obeys_from [] r t = true
  obeys_from (v ∷ vs) r t =
      let rest = obeys_from vs (r / 2 ^ length other_places) t in
      imp (in_type t v) (eqb (pack other_places t) (r % 2 ^ length other_places)) && rest

  unfoldable pub obeys : ℕ → ℕ → Bool
  unfolding obeys_from name_places
  obeys r t = obeys_from (name_places S) r t

  -- the start types under naming r
  unfoldable pub starts : ℕ → ℕ → Bool
  unfolding obeys valued truth
  starts r t = obeys r t && (valued S t && all_of (truth S.ln t) S.globals)

  unfoldable pub start_types : ℕ → List ℕ
  unfolding starts
  start_types r = keep (starts r) (below (2 ^ length S.ln))

  -- naming r fits the snapshot: each occurring name that a node carries has the non-name places of the node's type
  abbrev pub Fits : ℕ → Snapshot → Type 0
  Fits r s = (i t : ℕ) → i < s.n → NodeType S s i t → T (obeys r t)

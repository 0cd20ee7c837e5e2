-- Request §4 brings no goal back: what was unsatisfiable by the published namings is unsatisfiable. For each naming there is a published one under which all its start types are start types,
-- and more start types leave no fewer. Assumes nothing.
use mathlib.Core.Path.{◌≡◌, refl, ap}
use mathlib.Core.Bool.{Bool, ◌&&◌}
use mathlib.Core.List.Memᴰ
use mathlib.Core.List.{List, [], ◌∷◌}
use Prim.Native.Nat.{ℕ, ◌+◌, ◌*◌, ◌/◌, ◌%◌, ◌^◌, ◌<◌}
use lib.Dec.{T, eqb, eqb→eq}
use lib.ListN.{length}
use lib.Pow.{pow_pos}
use Rattle.ctl.specs.Lists.{◌∈◌, all_of, below, imp}
use Rattle.ctl.specs.Formula.{Form}
use Rattle.ctl.specs.Numbers.{with_place}
use Rattle.ctl.specs.Types.{in_type, truth}
use Rattle.ctl.specs.Links.{link_by}
use Rattle.ctl.specs.Tableau.{Tableau, name_places, places_but, set_bits, pack, obeys_from, obeys, valued, starts, start_types}
use Rattle.ctl.specs.Elimination.{survivors}
use Rattle.ctl.specs.Verdict.{unsatisfiable, surviving_types, verdict}
use Rattle.ctl.specs.Judging.{verdict_from}
use Rattle.ctl.specs.Published
use Rattle.ctl.proofs.BoolLaws.{and_0, and-1, and_in, imp-out}
use Rattle.ctl.proofs.ListLaws.{below_in, below_out, keep-in, keep_out}
use Rattle.ctl.proofs.NamingLaws.{digit_lt, digits_in, name-lt, pack-lt}
use Rattle.ctl.proofs.NamedTypes.{named-type}
use Rattle.ctl.proofs.EliminationLaws.{survives-iff}
use Rattle.ctl.proofs.VerdictLaws.{none_from, unsatisfiable-iff}

-- more start types leave no fewer
survivors-more : (cl : List Form) (tr : ℕ → Form → Bool) (lk : ℕ → ℕ → ℕ → Bool) (a b : List ℕ) → ((t : ℕ) → t ∈ a → t ∈ b) → (t : ℕ) → t ∈ survivors cl tr lk a → t ∈ survivors cl tr lk b
survivors-more cl tr lk a b sub t m =
    let c = (survives-iff cl tr lk a t).0 m in
    (survives-iff cl tr lk b t).1 (c.0, record { within = λ u i. sub u (c.1.within u i); meets = c.1.meets }, c.2)

module _ (S : Tableau) where
  abbrev c : ℕ
  c = length (Published.other_places S)

  -- a published naming of some names that every type obeys which obeys naming r
  Wider : List ℕ → ℕ → Type 0
  Wider vs r = (q : ℕ) × (q < 2 ^ (c * length vs)) × ((t : ℕ) → t < 2 ^ length S.ln → T (obeys_from S vs r t) → T (Published.obeys_from S vs q t))

  one_more : (v : ℕ) (vs : List ℕ) (r : ℕ) → v ∈ name_places S → Wider vs (r / 2 ^ set_bits S) → Wider (v ∷ vs) r
  unfolding Wider obeys_from Published.obeys_from
  one_more v vs r m rec = (
    rec.0 * 2 ^ c + set,
    digit_lt c (length vs) set rec.0 small rec.1,
    λ t l h. digits_in (in_type t v) (pack (Published.other_places S) t) (λ q. Published.obeys_from S vs q t) c set rec.0 small (λ i. ap (pack (Published.other_places S)) (own t l h i)) (rec.2 t l (and-1 (mine t) (obeys_from S vs (r / 2 ^ set_bits S) t) h)),
  )
    where
      set : ℕ
      set = pack (Published.other_places S) (with_place v (r % 2 ^ set_bits S))

      small : set < 2 ^ c
      small = pack-lt (Published.other_places S) (with_place v (r % 2 ^ set_bits S))

      mine : ℕ → Bool
      mine t = imp (in_type t v) (eqb (pack (places_but S v) t) (r % 2 ^ set_bits S))

      -- a type that obeys and has the name is the name's own
      own : (t : ℕ) → t < 2 ^ length S.ln → T (mine t && obeys_from S vs (r / 2 ^ set_bits S) t) → T (in_type t v) → t ≡ with_place v (r % 2 ^ set_bits S)
      own t l h i = (named-type S v t (name-lt S m) l (r % 2 ^ set_bits S)).0 (i, eqb→eq (pack (places_but S v) t) (r % 2 ^ set_bits S) (imp-out (in_type t v) (eqb (pack (places_but S v) t) (r % 2 ^ set_bits S)) (and_0 (mine t) (obeys_from S vs (r / 2 ^ set_bits S) t) h) i))

  wider : (vs : List ℕ) → ((v : ℕ) → v ∈ vs → v ∈ name_places S) → (r : ℕ) → Wider vs r
  unfolding Wider Published.obeys_from
  wider [] sub r = (0, pow_pos (c * 0), λ t l h. tt)
  wider (v ∷ vs) sub r = one_more v vs r (sub v (Memᴰ.head refl)) (wider vs (λ w m. sub w (Memᴰ.tail m)) (r / 2 ^ set_bits S))

  -- for each naming a published one that has all its start types
  starts-within : (r : ℕ) → (q : ℕ) × (q < Published.namings S) × ((t : ℕ) → t ∈ start_types S r → t ∈ Published.start_types S q)
  unfolding Wider obeys Published.obeys Published.namings start_types starts Published.start_types Published.starts
  starts-within r =
      let w = wider (name_places S) (λ v m. m) r in (
        w.0,
        w.1,
        λ t m.
            let k = keep_out (starts S r) (below (2 ^ length S.ln)) m in
            let asks = valued S t && all_of (truth S.ln t) S.globals in
            keep-in (Published.starts S w.0) k.0 (and_in (Published.obeys S w.0 t) asks (w.2 t (below_out (2 ^ length S.ln) k.0) (and_0 (obeys S r t) asks k.1)) (and-1 (obeys S r t) asks k.1)),
      )

  -- what was unsatisfiable is so still
  pub unsatisfiable-stays : (goal : Form) → verdict_from S.cl S.ln (Published.start_types S) goal (below (Published.namings S)) ≡ unsatisfiable → verdict S goal ≡ unsatisfiable
  unfolding surviving_types
  unsatisfiable-stays goal e = (unsatisfiable-iff S goal).1 (λ r t l h.
      let q = starts-within r in
      none_from S.cl S.ln (Published.start_types S) goal (below (Published.namings S)) e q.0 t (below_in q.1)
      (survivors-more S.cl (truth S.ln) (link_by S.cl S.ln) (start_types S r) (Published.start_types S q.0) q.2 t h.0) h.1)

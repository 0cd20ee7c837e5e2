-- A type holds exactly one of the values, in the request's words; and so does the type of a node where the snapshot keeps the rule. Assumes nothing.
use mathlib.Core.Path.{◌≡◌, refl, sym, ap, ◌∙◌, subst}
use mathlib.Core.Logic.{◌↔◌}
use mathlib.Core.Bool.{◌&&◌}
use mathlib.Core.List.Memᴰ
use mathlib.Core.List.{List, [], ◌∷◌}
use Prim.Native.Nat.{ℕ, ◌^◌, ◌<◌}
use native.Mathlib.Omega.{arith}
use lib.ListN.{length, get_or}
use lib.Dec.{T, eqb, eqb→eq, eqb_refl}
use Rattle.ctl.specs.Lists.{◌∈◌, all_of, keep, elem, below, ExactlyOne}
use Rattle.ctl.specs.Formula.{tru, lit}
use Rattle.ctl.specs.Equality.{tag, num}
use Rattle.ctl.specs.Snapshot.{Snapshot, ValuesSingle}
use Rattle.ctl.specs.Types.{in_type, index_of, holds, truth}
use Rattle.ctl.specs.Tableau.{Tableau, one_held, obeys, is_value, value_places, valued, starts, start_types}
use Rattle.ctl.proofs.BoolLaws.{true-T, T_true, T-cast⁻, and_0, and-1}
use Rattle.ctl.proofs.ListLaws.{none_in, keep-in, keep_out, below_in, below_out, elem_in, elem_out, Ascending, ascending-count, ascending-keep}
use Rattle.ctl.proofs.SortLaws.{ascending-same}
use Rattle.ctl.proofs.FormulaLaws.{is-lit}
use Rattle.ctl.proofs.TableauLaws.{Proper, index-place}
use Rattle.ctl.proofs.EvaluatorLaws.{sat-lit}
use Rattle.ctl.proofs.NodeTypes.{index-lt, index_at, node_type, holds-node}

one_only : (l : List ℕ) → length l ≡ 1 → (a : ℕ) × (l ≡ a ∷ [])
one_only [] e = absurd (omega arith)
one_only (a ∷ []) e = (a, refl)
one_only (a ∷ (b ∷ l)) e = absurd (omega arith)

-- where any value is declared, as many as one is asked for
one-asked : (values held : List ℕ) {v : ℕ} → v ∈ values → T (one_held values held) → length held ≡ 1
one-asked [] held m h = absurd (Memᴰ.not-nil m)
one-asked (v ∷ vs) held m h = eqb→eq (length held) 1 h

module _ (S : Tableau) (proper : Proper S) where
  open S use {ln, values}
  open proper use {value, once}

  -- a value's place in the lean is a value place
  value-place : (k : ℕ) → k ∈ values → index_of (lit k) ln ∈ value_places S
  unfolding value_places
  value-place k m = keep-in (λ i. is_value S (get_or ln i tru)) (below_in (index-lt (lit k) ln (value k m))) (subst (λ p. T (is_value S p)) (sym (index_at (lit k) ln (value k m))) (elem_in m))

  -- where no place is a value's, no value is declared
  pub places-none : value_places S ≡ [] → values ≡ []
  places-none e = none_in values (λ k m. Memᴰ.not-nil (subst (λ l. index_of (lit k) ln ∈ l) e (value-place k m)))

  module _ (t : ℕ) where
    -- the value places that the type has
    abbrev held : List ℕ
    held = keep (in_type t) (value_places S)

    -- a value that is true in the type is held at its place
    held_in : (k : ℕ) → k ∈ values → T (truth ln t (lit k)) → index_of (lit k) ln ∈ held
    unfolding truth holds
    held_in k m h = keep-in (in_type t) (value-place k m) h

    -- and no other place is held
    held_out : {a : ℕ} → a ∈ held → (k : ℕ) × (k ∈ values) × T (truth ln t (lit k)) × (index_of (lit k) ln ≡ a)
    unfolding value_places truth holds
    held_out {a} m =
        let x = keep_out (in_type t) (value_places S) m in
        let y = keep_out (λ i. is_value S (get_or ln i tru)) (below (length ln)) x.0 in
        let p = get_or ln a tru in
        let e = is-lit p (and_0 (eqb (tag p) 2) (elem (num p) values) y.1) in
        let i = ap (λ q. index_of q ln) (sym e) ∙ index-place ln once a (below_out (length ln) y.0) in
        (num p, elem_out (num p) values (and-1 (eqb (tag p) 2) (elem (num p) values) y.1), T-cast⁻ (ap (in_type t) i) x.1, i)

    held-ascends : Ascending 0 held
    unfolding value_places
    held-ascends = ascending-keep (in_type t) 0 (value_places S) (ascending-keep (λ i. is_value S (get_or ln i tru)) 0 (below (length ln)) (ascending-count 0 (length ln)))

    -- values at one place are one
    place-once : (j k : ℕ) → j ∈ values → k ∈ values → index_of (lit j) ln ≡ index_of (lit k) ln → j ≡ k
    place-once j k m n e = ap num (sym (index_at (lit j) ln (value j m)) ∙ ap (λ a. get_or ln a tru) e ∙ index_at (lit k) ln (value k n))

    -- a type holds exactly one of the values, if any is declared
    pub valued-iff : T (valued S t) ↔ ExactlyOne values (λ k. T (truth ln t (lit k)))
    unfolding valued
    valued-iff = (there, λ f. back f values refl)
      where
        there : T (one_held values held) → ExactlyOne values (λ k. T (truth ln t (lit k)))
        there h v m =
            let o = one_only held (one-asked values held m h) in
            let w = held_out {a = o.0} (subst (λ l. o.0 ∈ l) (sym o.1) (Memᴰ.head refl)) in
            (w.0, w.1, w.2, λ j n f. place-once j w.0 n w.1 (Memᴰ.eq_of_singleton (subst (λ l. index_of (lit j) ln ∈ l) o.1 (held_in j n f)) ∙ sym w.3))

        back : ExactlyOne values (λ k. T (truth ln t (lit k))) → (vs : List ℕ) → values ≡ vs → T (one_held vs held)
        back f [] e = tt
        back f (v ∷ vs) e =
            let w = f v (subst (λ l. v ∈ l) (sym e) (Memᴰ.head refl)) in
            let a = index_of (lit w.0) ln in
            let same : held ≡ a ∷ [] =
            ascending-same 0 held (a ∷ []) held-ascends (omega arith, tt)
            (λ x m. (let u = held_out m in Memᴰ.head (sym u.3 ∙ ap (λ k. index_of (lit k) ln) (w.3 u.0 u.1 u.2))))
            (λ x m. subst (λ b. b ∈ held) (sym (Memᴰ.eq_of_singleton m)) (held_in w.0 w.1 w.2)) in
            subst (λ l. T (eqb (length l) 1)) (sym same) (eqb_refl 1)

  -- a start type holds exactly one of the values, if any is declared
  pub start-valued : (r t : ℕ) → t ∈ start_types S r → ExactlyOne values (λ k. T (truth ln t (lit k)))
  unfolding start_types starts
  start-valued r t m =
      let w = keep_out (starts S r) (below (2 ^ length ln)) m in
      let h = and-1 (obeys S r t) (valued S t && all_of (truth ln t) S.globals) w.1 in
      (valued-iff t).0 (and_0 (valued S t) (all_of (truth ln t) S.globals) h)

  -- the type of a node, where the snapshot keeps the rule
  pub valued-node : (s : Snapshot) → ValuesSingle values s → (i : ℕ) → i < s.n → T (valued S (node_type S s i))
  unfolding truth
  valued-node s rule i l = (valued-iff (node_type S s i)).1 (λ v m.
      let w = rule i l v m in
      (w.0, w.1, T_true (truth ln (node_type S s i) (lit w.0)) (at w.0 w.1 ∙ w.2), λ j n t. w.3 j n (sym (at j n) ∙ true-T (truth ln (node_type S s i) (lit j)) t)))
    where
      at : (k : ℕ) → k ∈ values → truth ln (node_type S s i) (lit k) ≡ s.on k i
      at k m = holds-node S proper s (lit k) i (value k m) ∙ sat-lit s k i l

-- The places that a name's set covers; and some naming fits every snapshot in which each name is on at most one node. Assumes nothing.
use mathlib.Core.Path.{◌≡◌, refl, sym, ap, ap₂, ◌∙◌, subst}
use mathlib.Core.Logic.{◌⊎◌, inl, inr}
use mathlib.Core.Bool.{Bool, not, ◌&&◌}
use mathlib.Core.List.Memᴰ
use mathlib.Core.List.{List, [], ◌∷◌, ◌++◌, map}
use Prim.Native.Nat.{ℕ, suc, ◌+◌, ◌-◌, ◌*◌, ◌/◌, ◌%◌, ◌^◌, ◌<◌}
use native.Mathlib.Nat.{mul-suc, mul-le-mul_right}
use native.Mathlib.Omega.{arith}
use lib.Pow.{pow_pos, pow-add, high, low}
use lib.ListN.{length, get_or, length-append, length-map}
use lib.Dec.{T, eqb, eqb_refl}
use borrow.Author.Tests.{ne_eqb}
use Rattle.ctl.specs.Lists.{◌∈◌, any_of, count_from, imp, keep, below, put}
use Rattle.ctl.specs.Formula.{tru, lit}
use Rattle.ctl.specs.Equality.{tag, num}
use Rattle.ctl.specs.Snapshot.{Snapshot, NamesSingle}
use Rattle.ctl.specs.Types.{in_type}
use Rattle.ctl.specs.Tableau.{Tableau, is_name, name_places, places_but, set_bits, pack, namings, obeys_from, obeys}
use Rattle.ctl.specs.Evaluator.{sat}
use Rattle.ctl.proofs.BoolLaws.{true-T, T_true, T-cast, decide_T, and_in, and_0, and-1, imp-in}
use Rattle.ctl.proofs.ListLaws.{any-in, any_out, count_from-out, keep_all, keep-count, keep_out, below_in, below_out, length-count}
use Rattle.ctl.proofs.NumberLaws.{number_lt}
use Rattle.ctl.proofs.FormulaLaws.{is-lit}
use Rattle.ctl.proofs.EvaluatorLaws.{sat-lit}
use Rattle.ctl.proofs.NodeTypes.{node_type, type-place}

pub digit_lt : (c k s r : ℕ) → s < 2 ^ c → r < 2 ^ (c * k) → r * 2 ^ c + s < 2 ^ (c * suc k)
digit_lt c k s r h l = rw (mul-suc c k, pow-add 2 (c * k) c) (omega (arith, mul-le-mul_right (2 ^ c) l))

-- a set before the sets of later names: what asks for the first set, and what asks for the others, find them there
pub digits_in : (a : Bool) (x : ℕ) (rest : ℕ → Bool) (c s r : ℕ) → s < 2 ^ c → (T a → x ≡ s) → T (rest r) → T (imp a (eqb x ((r * 2 ^ c + s) % 2 ^ c)) && rest ((r * 2 ^ c + s) / 2 ^ c))
digits_in a x rest c s r l f h =
    and_in (imp a (eqb x ((r * 2 ^ c + s) % 2 ^ c))) (rest ((r * 2 ^ c + s) / 2 ^ c)) (imp-in a (eqb x ((r * 2 ^ c + s) % 2 ^ c)) (λ t. rw (low r c l, f t) (eqb_refl s))) (rw (high r c l) h)

pub pack-lt : (l : List ℕ) (t : ℕ) → pack l t < 2 ^ length l
unfolding pack
pack-lt l t = subst (λ k. pack l t < 2 ^ k) (length-map l (in_type t)) (number_lt (map (in_type t) l))

-- ---- the places that a name's set covers

-- the numbers below v + 1 + m but v
but-split : (v m : ℕ) → keep (λ i. not (eqb i v)) (below (v + suc m)) ≡ below v ++ count_from (suc v) m
but-split v m =
    let others : (a n : ℕ) → ((i : ℕ) → i ∈ count_from a n → i ≡ v → ⊥) → keep (λ i. not (eqb i v)) (count_from a n) ≡ count_from a n =
    λ a n f. keep_all (λ i. not (eqb i v)) (count_from a n) (λ i h. T_true (not (eqb i v)) (ap not (ne_eqb i v (f i h)))) in
    sym (keep-count (λ i. not (eqb i v)) 0 v (suc m) v (v + suc m) (omega arith) refl)
    ∙ ap₂ (λ k l. k ++ l) (others 0 v (λ i h e. let b = count_from-out 0 v h in omega arith))
    (ap (λ b. put (not b) v (keep (λ i. not (eqb i v)) (count_from (suc v) m))) (true-T (eqb v v) (eqb_refl v)) ∙ others (suc v) m (λ i h e. let b = count_from-out (suc v) m h in omega arith))

module _ (S : Tableau) where
  pub name-lt : {v : ℕ} → v ∈ name_places S → v < length S.ln
  unfolding name_places
  name-lt m = below_out (length S.ln) (keep_out (λ i. is_name S (get_or S.ln i tru)) (below (length S.ln)) m).0

  -- those before the name, and those after it
  pub places-but : (v : ℕ) → v < length S.ln → places_but S v ≡ below v ++ count_from (suc v) (set_bits S - v)
  unfolding places_but
  places-but v h = let e : v + suc (set_bits S - v) ≡ length S.ln = omega arith in ap (λ n. keep (λ i. not (eqb i v)) (below n)) (sym e) ∙ but-split v (set_bits S - v)

  pub but-length : (v : ℕ) → v < length S.ln → length (places_but S v) ≡ set_bits S
  but-length v h =
      ap length (places-but v h) ∙ length-append (below v) (count_from (suc v) (set_bits S - v)) ∙ ap₂ (λ a b. a + b) (length-count 0 v) (length-count (suc v) (set_bits S - v)) ∙ omega arith

  set-lt : (v t : ℕ) → v ∈ name_places S → pack (places_but S v) t < 2 ^ set_bits S
  set-lt v t m = subst (λ k. pack (places_but S v) t < 2 ^ k) (but-length v (name-lt m)) (pack-lt (places_but S v) t)

-- ---- a naming for a snapshot

module _ (S : Tableau) (s : Snapshot) (single : NamesSingle S.name s) where
  open S use {ln, name}

  abbrev ty : ℕ → ℕ
  ty i = node_type S s i

  -- a name's place is on at most one node
  name-place : (v i j : ℕ) → v ∈ name_places S → i < s.n → j < s.n → T (in_type (ty i) v) → T (in_type (ty j) v) → i ≡ j
  unfolding name_places
  name-place v i j m il jl hi hj =
      let w = keep_out (λ i. is_name S (get_or ln i tru)) (below (length ln)) m in
      let p = get_or ln v tru in
      let isn = w.1 in
      let e = is-lit p (and_0 (eqb (tag p) 2) (name (num p)) isn) in
      let at : (k : ℕ) → T (in_type (ty k) v) → T (sat s (lit (num p)) k) = λ k h. T-cast (type-place S s k v (below_out (length ln) w.0) ∙ ap (λ q. sat s q k) e) h in
      single (num p) (and-1 (eqb (tag p) 2) (name (num p)) isn) i j il jl
      (sym (sat-lit s (num p) i il) ∙ true-T (sat s (lit (num p)) i) (at i hi)) (sym (sat-lit s (num p) j jl) ∙ true-T (sat s (lit (num p)) j) (at j hj))

  Places : List ℕ → Type 0
  Places vs = (r : ℕ) × (r < 2 ^ (set_bits S * length vs)) × ((i : ℕ) → i < s.n → T (obeys_from S vs r (ty i)))

  find-naming : (vs : List ℕ) → ((v : ℕ) → v ∈ vs → v ∈ name_places S) → Places vs
  unfolding Places obeys_from
  find-naming [] sub = (0, pow_pos (set_bits S * 0), λ i l. tt)
  find-naming (v ∷ vs) sub = go (decide_T (any_of (λ i. in_type (ty i) v) (below s.n))) (find-naming vs (λ w m. sub w (Memᴰ.tail m)))
    where
      c : ℕ
      c = set_bits S

      -- the name's set before the sets of the later names
      with-set : (w : ℕ) → w < 2 ^ c → ((i : ℕ) → i < s.n → T (in_type (ty i) v) → pack (places_but S v) (ty i) ≡ w) → Places vs → Places (v ∷ vs)
      with-set w l f rec = (
        rec.0 * 2 ^ c + w,
        digit_lt c (length vs) w rec.0 l rec.1,
        λ i il. digits_in (in_type (ty i) v) (pack (places_but S v) (ty i)) (λ q. obeys_from S vs q (ty i)) c w rec.0 l (f i il) (rec.2 i il),
      )

      go : T (any_of (λ i. in_type (ty i) v) (below s.n)) ⊎ (T (any_of (λ i. in_type (ty i) v) (below s.n)) → ⊥) → Places vs → Places (v ∷ vs)
      go (inl h) rec =
          let w = any_out (λ i. in_type (ty i) v) (below s.n) h in
          with-set (pack (places_but S v) (ty w.0)) (set-lt S v (ty w.0) (sub v (Memᴰ.head refl)))
          (λ i il k. ap (λ x. pack (places_but S v) (ty x)) (name-place v i w.0 (sub v (Memᴰ.head refl)) il (below_out s.n w.1) k w.2)) rec
      go (inr h) rec = with-set 0 (pow_pos c) (λ i il k. absurd (h (any-in (λ i. in_type (ty i) v) (below_in il) k))) rec

  -- some naming fits the snapshot
  pub some-naming : (r : ℕ) × (r < namings S) × ((i : ℕ) → i < s.n → T (obeys S r (ty i)))
  unfolding namings obeys Places
  some-naming = find-naming (name_places S) (λ v m. m)

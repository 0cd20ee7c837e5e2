-- The type of a node, and that a closure member is true in it exactly if it holds at the node. Assumes nothing.
use mathlib.Core.Path.{◌≡◌, refl, sym, ap, ap₂, ◌∙◌, subst}
use mathlib.Core.Logic.{◌⊎◌, inl, inr}
use mathlib.Core.Bool.{Bool, true, false, not, ◌&&◌, ◌||◌}
use mathlib.Core.List.Memᴰ
use mathlib.Core.List.{List, [], ◌∷◌, map}
use Prim.Native.Nat.{ℕ, zero, suc, ◌^◌, ◌<◌}
use native.Mathlib.Omega.{arith}
use lib.ListN.{length, get_or, length-map}
use lib.Dec.{T}
use Rattle.ctl.specs.Lists.{◌∈◌}
use Rattle.ctl.specs.Numbers.{number}
use Rattle.ctl.specs.Formula.{Form, tru, fls, lit, nlit, and, or, ex, ax, eu, au, er, ar}
use Rattle.ctl.specs.Modes.{modes}
use Rattle.ctl.specs.Equality.{form_eq}
use Rattle.ctl.specs.Expansion.{or_all, and_all, expand, parts}
use Rattle.ctl.specs.Snapshot.{Snapshot}
use Rattle.ctl.specs.Types.{in_type, index_of, holds, ex_some, ax_every, truth}
use Rattle.ctl.specs.Tableau.{Tableau}
use Rattle.ctl.specs.Demand3.{NodeType}
use Rattle.ctl.specs.Evaluator.{sat}
use Rattle.ctl.proofs.BoolLaws.{T_true, true-T, T-cast, T-cast⁻, both_ways}
use Rattle.ctl.proofs.ListLaws.{any_same, all_same}
use Rattle.ctl.proofs.NumberLaws.{number-place, number_lt, same-places}
use Rattle.ctl.proofs.FormulaLaws.{form_eq-out, form_eq-refl}
use Rattle.ctl.proofs.ModeLaws.{modes-in, single-in}
use Rattle.ctl.proofs.TableauLaws.{Proper}
use Rattle.ctl.proofs.EvaluatorLaws.{sat-tru, sat-fls, sat-and, sat-or, sat-iff}
use Rattle.ctl.proofs.ExpansionLaws.{ex-modes, ax-modes}
use Rattle.ctl.proofs.NodeLaws.{sat-not, eu-unfold, ar-unfold, au-unfold, er-unfold}

-- ---- the place of a formula

index_is : (p : Form) (l : List Form) → p ∈ l → (index_of p l < length l) × (get_or l (index_of p l) tru ≡ p)
unfolding index_of
index_is p [] m = absurd (Memᴰ.not-nil m)
index_is p (q ∷ l) m = go (form_eq q p) refl (Memᴰ.cases_cons m) (index_is p l)
  where
    place : Bool → ℕ
    place b = elim b as (λ c. ℕ) [ true ↦ 0 | false ↦ suc (index_of p l) ]

    go : (b : Bool) → form_eq q p ≡ b → (p ≡ q) ⊎ (p ∈ l) → (p ∈ l → (index_of p l < length l) × (get_or l (index_of p l) tru ≡ p)) → (place b < length (q ∷ l)) × (get_or (q ∷ l) (place b) tru ≡ p)
    go true e c rec = (omega arith, form_eq-out q p (T_true (form_eq q p) e))
    go false e (inl i) rec = absurd (subst T (ap (λ x. form_eq x p) i ∙ e) (form_eq-refl p))
    go false e (inr k) rec = let r = rec k in (omega arith, r.1)

pub index-lt : (p : Form) (l : List Form) → p ∈ l → index_of p l < length l
index-lt p l m = (index_is p l m).0

pub index_at : (p : Form) (l : List Form) → p ∈ l → get_or l (index_of p l) tru ≡ p
index_at p l m = (index_is p l m).1

-- ---- the type of a node

-- the lean places that hold at node i
unfoldable pub node_type : Tableau → Snapshot → ℕ → ℕ
unfolding number
node_type S s i = number (map (λ p. sat s p i) S.ln)

at_place : (s : Snapshot) (l : List Form) (i k : ℕ) → k < length l → get_or (map (λ p. sat s p i) l) k false ≡ sat s (get_or l k tru) i
at_place s [] i k h = absurd (omega arith)
at_place s (p ∷ l) i zero h = refl
at_place s (p ∷ l) i (suc k) h = at_place s l i k (omega arith)

module _ (S : Tableau) (s : Snapshot) where
  pub type-place : (i k : ℕ) → k < length S.ln → in_type (node_type S s i) k ≡ sat s (get_or S.ln k tru) i
  unfolding node_type
  type-place i k h = number-place (map (λ p. sat s p i) S.ln) k ∙ at_place s S.ln i k h

  pub type-lt : (i : ℕ) → node_type S s i < 2 ^ length S.ln
  unfolding node_type
  type-lt i = subst (λ k. node_type S s i < 2 ^ k) (length-map S.ln (λ p. sat s p i)) (number_lt (map (λ p. sat s p i) S.ln))

  -- it is the type by the meaning, and no other number is
  pub type-is : (i : ℕ) → i < s.n → NodeType S s i (node_type S s i)
  type-is i l = record {
    small = type-lt i;
    place = λ k h.
        let p = get_or S.ln k tru in (
          λ t. (sat-iff s p i l).0 (sym (type-place i k h) ∙ true-T (in_type (node_type S s i) k) t),
          λ m. T_true (in_type (node_type S s i) k) (type-place i k h ∙ (sat-iff s p i l).1 m),
        );
  }

  pub type-only : (i t : ℕ) → i < s.n → NodeType S s i t → t ≡ node_type S s i
  type-only i t l h = same-places (length S.ln) t (node_type S s i) h.small (type-lt i) (λ k lk.
      let here = (type-is i l).place k lk in
      both_ways (in_type t k) (in_type (node_type S s i) k) (λ a. here.1 ((h.place k lk).0 a)) (λ a. (h.place k lk).1 (here.0 a)))

-- ---- truth in it

module _ (S : Tableau) (proper : Proper S) (s : Snapshot) where
  open S use {cl, ln, globals}
  open proper use {part, expansion, globals-in, letter, single-ex, single-ax}

  abbrev ty : ℕ → ℕ
  ty i = node_type S s i

  -- a lean member is true in the type of a node if it holds there
  pub holds-node : (p : Form) (i : ℕ) → p ∈ ln → holds ln (ty i) p ≡ sat s p i
  unfolding holds
  holds-node p i m = type-place S s i (index_of p ln) (index-lt p ln m) ∙ ap (λ q. sat s q i) (index_at p ln m)

  or_parts : (f : ℕ → Form) (ms : List ℕ) → or_all (map f ms) ∈ cl → (m : ℕ) → m ∈ ms → f m ∈ cl
  unfolding parts
  or_parts f [] h m k = absurd (Memᴰ.not-nil k)
  or_parts f (a ∷ []) h m k = subst (λ x. f x ∈ cl) (sym (Memᴰ.eq_of_singleton k)) h
  or_parts f (a ∷ (b ∷ r)) h m k = go (Memᴰ.cases_cons k) (or_parts f (b ∷ r) (part (or (f a) (or_all (map f (b ∷ r)))) (or_all (map f (b ∷ r))) h (Memᴰ.tail (Memᴰ.head refl))) m)
    where
      go : (m ≡ a) ⊎ (m ∈ b ∷ r) → (m ∈ b ∷ r → f m ∈ cl) → f m ∈ cl
      go (inl e) rec = part (or (f a) (or_all (map f (b ∷ r)))) (f m) h (Memᴰ.head (ap f e))
      go (inr j) rec = rec j

  and_parts : (f : ℕ → Form) (ms : List ℕ) → and_all (map f ms) ∈ cl → (m : ℕ) → m ∈ ms → f m ∈ cl
  unfolding parts
  and_parts f [] h m k = absurd (Memᴰ.not-nil k)
  and_parts f (a ∷ []) h m k = subst (λ x. f x ∈ cl) (sym (Memᴰ.eq_of_singleton k)) h
  and_parts f (a ∷ (b ∷ r)) h m k = go (Memᴰ.cases_cons k) (and_parts f (b ∷ r) (part (and (f a) (and_all (map f (b ∷ r)))) (and_all (map f (b ∷ r))) h (Memᴰ.tail (Memᴰ.head refl))) m)
    where
      go : (m ≡ a) ⊎ (m ∈ b ∷ r) → (m ∈ b ∷ r → f m ∈ cl) → f m ∈ cl
      go (inl e) rec = part (and (f a) (and_all (map f (b ∷ r)))) (f m) h (Memᴰ.head (ap f e))
      go (inr j) rec = rec j

  some-node : (A : ℕ) (p : Form) (i : ℕ) → i < s.n → ex A p ∈ cl → ex_some ln (ty i) A p ≡ sat s (ex A p) i
  unfolding ex_some expand
  some-node A p i l m =
      any_same (λ m. holds ln (ty i) (ex (2 ^ m) p)) (λ m. sat s (ex (2 ^ m) p) i) (modes A)
      (λ a k. holds-node (ex (2 ^ a) p) i (single-ex (2 ^ a) p (or_parts (λ m. ex (2 ^ m) p) (modes A) (expansion (ex A p) m) a k) (single-in (modes-in A k).0)))
      ∙ sym (ex-modes s A p i l)

  every-node : (A : ℕ) (p : Form) (i : ℕ) → i < s.n → ax A p ∈ cl → ax_every ln (ty i) A p ≡ sat s (ax A p) i
  unfolding ax_every expand
  every-node A p i l m =
      all_same (λ m. holds ln (ty i) (ax (2 ^ m) p)) (λ m. sat s (ax (2 ^ m) p) i) (modes A)
      (λ a k. holds-node (ax (2 ^ a) p) i (single-ax (2 ^ a) p (and_parts (λ m. ax (2 ^ m) p) (modes A) (expansion (ax A p) m) a k) (single-in (modes-in A k).0)))
      ∙ sym (ax-modes s A p i l)

  -- the first and the second part of a closure member
  pub part-0 : (p : Form) {q : Form} {r : List Form} → p ∈ cl → parts p ≡ q ∷ r → q ∈ cl
  part-0 p {q} m e = part p q m (subst (λ l. q ∈ l) (sym e) (Memᴰ.head refl))

  pub part-1 : (p : Form) {q q' : Form} {r : List Form} → p ∈ cl → parts p ≡ q' ∷ (q ∷ r) → q ∈ cl
  part-1 p {q} m e = part p q m (subst (λ l. q ∈ l) (sym e) (Memᴰ.tail (Memᴰ.head refl)))

  -- a closure member is true in the type of a node exactly if it holds there
  pub truth-node : (p : Form) (i : ℕ) → i < s.n → p ∈ cl → truth ln (ty i) p ≡ sat s p i
  unfolding truth parts expand
  truth-node tru i l m = sym (sat-tru s i l)
  truth-node fls i l m = sym (sat-fls s i l)
  truth-node (lit k) i l m = holds-node (lit k) i (letter k m)
  truth-node (nlit k) i l m = ap not (holds-node (lit k) i (letter k (part-0 (nlit k) m refl))) ∙ sym (sat-not s k i l)
  truth-node (and p q) i l m = ap₂ ◌&&◌ (truth-node p i l (part-0 (and p q) m refl)) (truth-node q i l (part-1 (and p q) m refl)) ∙ sym (sat-and s p q i l)
  truth-node (or p q) i l m = ap₂ ◌||◌ (truth-node p i l (part-0 (or p q) m refl)) (truth-node q i l (part-1 (or p q) m refl)) ∙ sym (sat-or s p q i l)
  truth-node (ex A p) i l m = some-node A p i l m
  truth-node (ax A p) i l m = every-node A p i l m
  truth-node (eu A p q) i l m =
      let φ = eu A p q in
      let k = part-1 (and p (ex A φ)) (part-1 (or q (and p (ex A φ))) (expansion φ m) refl) refl in
      ap₂ ◌||◌ (truth-node q i l (part-1 φ m refl)) (ap₂ ◌&&◌ (truth-node p i l (part-0 φ m refl)) (some-node A φ i l k)) ∙ sym (eu-unfold s A p q i l)
  truth-node (ar A p q) i l m =
      let φ = ar A p q in
      let k = part-1 (or p (ax A φ)) (part-1 (and q (or p (ax A φ))) (expansion φ m) refl) refl in
      ap₂ ◌&&◌ (truth-node q i l (part-1 φ m refl)) (ap₂ ◌||◌ (truth-node p i l (part-0 φ m refl)) (every-node A φ i l k)) ∙ sym (ar-unfold s A p q i l)
  truth-node (au A p q) i l m =
      let φ = au A p q in
      let b = and (ex A tru) (ax A φ) in
      let k = part-1 (and p b) (part-1 (or q (and p b)) (expansion φ m) refl) refl in
      ap₂ ◌||◌ (truth-node q i l (part-1 φ m refl)) (ap₂ ◌&&◌ (truth-node p i l (part-0 φ m refl)) (ap₂ ◌&&◌ (some-node A tru i l (part-0 b k refl)) (every-node A φ i l (part-1 b k refl))))
      ∙ sym (au-unfold s A p q i l)
  truth-node (er A p q) i l m =
      let φ = er A p q in
      let b = or (ax A fls) (ex A φ) in
      let k = part-1 (or p b) (part-1 (and q (or p b)) (expansion φ m) refl) refl in
      ap₂ ◌&&◌ (truth-node q i l (part-1 φ m refl)) (ap₂ ◌||◌ (truth-node p i l (part-0 φ m refl)) (ap₂ ◌||◌ (every-node A fls i l (part-0 b k refl)) (some-node A φ i l (part-1 b k refl))))
      ∙ sym (er-unfold s A p q i l)

  pub true-node : (p : Form) (i : ℕ) → i < s.n → p ∈ cl → T (sat s p i) → T (truth ln (ty i) p)
  true-node p i l m h = T-cast⁻ (truth-node p i l m) h

  pub node-true : (p : Form) (i : ℕ) → i < s.n → p ∈ cl → T (truth ln (ty i) p) → T (sat s p i)
  node-true p i l m h = T-cast (truth-node p i l m) h

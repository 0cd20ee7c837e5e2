-- Maximal paths: their places, how to build one in a finite graph, and chains, the finite part of a path that shows pUq. Assumes nothing.
use Prim.Native.Nat.{ℕ, zero, suc, ◌≤◌, ◌<◌, suc-le-suc, zero-le}
use native.Mathlib.Nat.{le_of_suc-le-suc, not-suc-le-zero, eq-or-lt_of_le}
use native.Mathlib.Omega.{arith}
use mathlib.Core.Path.{◌≡◌, refl, sym, ap, ◌∙◌, subst}
use mathlib.Core.Logic.{◌⊎◌, inl, inr}
use mathlib.Core.Bool.{Bool, true, false}
use mathlib.Core.Option.{Option, none, some, get_or}
use Rattle.ctl.specs.Meaning.{MaxPath, infinite, finite, At, Until}
use Rattle.ctl.proofs.BoolLaws.{decide, true-and-false}
use Rattle.ctl.proofs.ListLaws.{find}
use Rattle.ctl.proofs.Fixpoint.{after, after-zero, after-suc, fixed}

-- The relation R between nodes below n, with a test for it
pub record Graph (n : ℕ) (edge : ℕ → ℕ → Bool) (R : ℕ → ℕ → Type 0) : Type 0 where
  pub sound : (i j : ℕ) → edge i j ≡ true → R i j
  pub complete : (i j : ℕ) → R i j → edge i j ≡ true
  pub inside : (i j : ℕ) → R i j → j < n

-- A finite chain of R-steps from node i, P at all its nodes but the last, Q at the last
pub data Chain (R : ℕ → ℕ → Type 0) (P Q : ℕ → Type 0) : ℕ → Type 0 where
  here : {i : ℕ} → Q i → Chain R P Q i
  there : {i : ℕ} (j : ℕ) → P i → R i j → Chain R P Q j → Chain R P Q i

-- ---- the places of a path
module _ {R : ℕ → ℕ → Type 0} {i : ℕ} where
  pub at-start : (π : MaxPath R i) → At π 0 i
  at-start (infinite node s t) = s
  at-start (finite last node s t e) = (zero-le, s)

  pub at-unique : (π : MaxPath R i) (k j j' : ℕ) → At π k j → At π k j' → j ≡ j'
  at-unique (infinite node s t) k j j' a b = sym a ∙ b
  at-unique (finite last node s t e) k j j' a b = sym a.1 ∙ b.1

  pub at_before : (π : MaxPath R i) (k j : ℕ) → At π (suc k) j → (j' : ℕ) × At π k j' × R j' j
  at_before (infinite node s t) k j a = (node k, refl, subst (R (node k)) a (t k))
  at_before (finite last node s t e) k j a = (node k, (omega (arith, a.0), refl), subst (R (node k)) a.1 (t k a.0))

  pub at_next : (π : MaxPath R i) (k j : ℕ) → At π k j → ((j' : ℕ) × At π (suc k) j' × R j j') ⊎ ((j' : ℕ) → ¬ R j j')
  at_next (infinite node s t) k j a = inl (node (suc k), refl, subst (λ x. R x (node (suc k))) a (t k))
  at_next (finite last node s t e) k j a = go (eq-or-lt_of_le a.0)
    where
      go : (k ≡ last) ⊎ (k < last) → ((j' : ℕ) × ((suc k ≤ last) × (node (suc k) ≡ j')) × R j j') ⊎ ((j' : ℕ) → ¬ R j j')
      go (inl p) = inr (subst (λ x. (j' : ℕ) → ¬ R x j') (ap node (sym p) ∙ a.1) e)
      go (inr l) = inl (node (suc k), (l, refl), subst (λ x. R x (node (suc k))) a.1 (t k l))

  pub at-inside : {n : ℕ} → ((i j : ℕ) → R i j → j < n) → i < n → (π : MaxPath R i) (k j : ℕ) → At π k j → j < n
  at-inside {n} c h π zero j a = subst (λ x. x < n) (at-unique π 0 i j (at-start π) a) h
  at-inside c h π (suc k) j a = let b = at_before π k j a in c b.0 j b.2

  -- the part of a path up to place k, in front of a chain from there
  pub chain-down : {P Q : ℕ → Type 0} (π : MaxPath R i) (k j : ℕ) → At π k j → ((k' j' : ℕ) → k' < k → At π k' j' → P j') → Chain R P Q j → Chain R P Q i
  chain-down {P} {Q} π zero j a h c = subst (Chain R P Q) (at-unique π 0 j i a (at-start π)) c
  chain-down π (suc k) j a h c =
      let b = at_before π k j a in
      chain-down π k b.0 b.1 (λ k' j' l. h k' j' (omega arith)) (there j (h k b.0 (omega arith) b.1) b.2 c)

-- ---- a node in front of a path
cons_node : ℕ → (ℕ → ℕ) → ℕ → ℕ
cons_node i node zero = i
cons_node i node (suc k) = node k

module _ {R : ℕ → ℕ → Type 0} where
  pub cons : {i j : ℕ} → R i j → MaxPath R j → MaxPath R i
  unfolding cons_node
  cons {i} {j} r (infinite node s t) = infinite (cons_node i node) refl (λ k. elim k as (λ m. R (cons_node i node m) (cons_node i node (suc m))) [ zero ↦ subst (R i) (sym s) r | suc m ↦ t m ])
  cons {i} {j} r (finite last node s t e) =
      finite (suc last) (cons_node i node) refl (λ k. elim k as (λ m. m < suc last → R (cons_node i node m) (cons_node i node (suc m))) [ zero ↦ λ l. subst (R i) (sym s) r | suc m ↦ λ l. t m (le_of_suc-le-suc l) ]) e

  module _ {P Q : ℕ → Type 0} where
    pub until-here : {i : ℕ} (π : MaxPath R i) → Q i → Until P Q π
    until-here {i} π h = (0, i, at-start π, h, λ k j l. absurd (not-suc-le-zero l))

    pub until-cons : (i : ℕ) {j : ℕ} (r : R i j) (π : MaxPath R j) → P i → Until P Q π → Until P Q (cons r π)
    unfolding cons cons_node
    until-cons i r (infinite node s t) h u = (
      suc u.0,
      u.1,
      u.2,
      u.3,
      λ k. elim k as (λ m. (j' : ℕ) → m < suc u.0 → At (cons r (infinite node s t)) m j' → P j') [
        | zero ↦ λ j' l a. subst P a h
        | suc m ↦ λ j' l a. u.4 m j' (le_of_suc-le-suc l) a
      ],
    )
    until-cons i r (finite last node s t e) h u = (
      suc u.0,
      u.1,
      (suc-le-suc u.2.0, u.2.1),
      u.3,
      λ k. elim k as (λ m. (j' : ℕ) → m < suc u.0 → At (cons r (finite last node s t e)) m j' → P j') [
        | zero ↦ λ j' l a. subst P a.1 h
        | suc m ↦ λ j' l a. u.4 m j' (le_of_suc-le-suc l) (le_of_suc-le-suc a.0, a.1)
      ],
    )

-- ---- the path that a choice of the next node makes, in a finite graph
-- A walk goes where the choice says. It ends where the choice is none.
data Walk (pick : ℕ → Option ℕ) (i : ℕ) : Type 0 where
  endless : (node : ℕ → ℕ) → node 0 ≡ i → ((k : ℕ) → pick (node k) ≡ some (node (suc k))) → Walk pick i
  ending : (last : ℕ) (node : ℕ → ℕ) → node 0 ≡ i → ((k : ℕ) → k < last → pick (node k) ≡ some (node (suc k))) → pick (node last) ≡ none → Walk pick i

-- x at the chosen node; true if none is chosen
at_choice : Option ℕ → (ℕ → Bool) → Bool
at_choice none x = true
at_choice (some j) x = x j

walk_node : (ℕ → Option ℕ) → ℕ → ℕ → ℕ
walk_node pick i zero = i
walk_node pick i (suc k) = get_or (pick (walk_node pick i k)) (walk_node pick i k)

pub no_node : {i : ℕ} (o : Option ℕ) → o ≡ none → o ≡ some i → ⊥
no_node o e f = let z : ◌≡◌ {A = ℕ} 0 1 = cc in omega arith

cons_walk : {pick : ℕ → Option ℕ} (i j : ℕ) → pick i ≡ some j → Walk pick j → Walk pick i
unfolding cons_node
cons_walk {pick} i j f (endless node s t) = endless (cons_node i node) refl (λ k. elim k as (λ m. pick (cons_node i node m) ≡ some (cons_node i node (suc m))) [ zero ↦ rw s f | suc m ↦ t m ])
cons_walk {pick} i j f (ending last node s t e) =
    ending (suc last) (cons_node i node) refl (λ k. elim k as (λ m. m < suc last → pick (cons_node i node m) ≡ some (cons_node i node (suc m))) [ zero ↦ λ l. rw s f | suc m ↦ λ l. t m (le_of_suc-le-suc l) ]) e

module _ (n : ℕ) (pick : ℕ → Option ℕ) (closed : (i j : ℕ) → pick i ≡ some j → j < n) where
  -- the nodes from which the walk ends, by rounds
  to_end : (ℕ → Bool) → ℕ → Bool
  to_end x i = at_choice (pick i) x

  to_end-mono : (x y : ℕ → Bool) → ((j : ℕ) → j < n → x j ≡ true → y j ≡ true) → (i : ℕ) → i < n → to_end x i ≡ true → to_end y i ≡ true
  unfolding to_end at_choice
  to_end-mono x y h i l e = go (pick i) refl e
    where
      go : (o : Option ℕ) → pick i ≡ o → at_choice o x ≡ true → at_choice (pick i) y ≡ true
      go none f e = rw f
      go (some j) f e = rw f (h j (closed i j f) e)

  walk_ends : (k i : ℕ) → i < n → after n to_end k i ≡ true → Walk pick i
  unfolding to_end at_choice
  walk_ends zero i l e = absurd (true-and-false (after n to_end 0 i) e (after-zero n to_end i l))
  walk_ends (suc k) i l e = go (pick i) refl (sym (after-suc n to_end k i l) ∙ e) (walk_ends k)
    where
      go : (o : Option ℕ) → pick i ≡ o → at_choice (pick i) (after n to_end k) ≡ true → ((j : ℕ) → j < n → after n to_end k j ≡ true → Walk pick j) → Walk pick i
      go none f e w = ending 0 (λ k. i) refl (λ k l. absurd (not-suc-le-zero l)) f
      go (some j) f e w = cons_walk i j f (w j (closed i j f) (rw f at e))

  stays : (i : ℕ) → i < n → after n to_end n i ≡ false → (k : ℕ) →
      (walk_node pick i k < n) × (after n to_end n (walk_node pick i k) ≡ false)
  unfolding walk_node to_end at_choice
  stays i l z zero = (l, z)
  stays i l z (suc k) = let b = stays i l z k in go (walk_node pick i k) b.0 b.1 (pick (walk_node pick i k)) refl
    where
      go : (m : ℕ) → m < n → after n to_end n m ≡ false → (o : Option ℕ) → pick m ≡ o → (get_or o m < n) × (after n to_end n (get_or o m) ≡ false)
      go m lm zm none f = (lm, zm)
      go m lm zm (some j) f = (closed m j f, sym (rw f at (fixed n to_end to_end-mono m lm)) ∙ zm)

  goes : (i : ℕ) → i < n → after n to_end n i ≡ false → (k : ℕ) → pick (walk_node pick i k) ≡ some (walk_node pick i (suc k))
  unfolding walk_node to_end at_choice
  goes i l z k = let b = stays i l z k in go (walk_node pick i k) b.0 b.1 (pick (walk_node pick i k)) refl
    where
      go : (m : ℕ) → m < n → after n to_end n m ≡ false → (o : Option ℕ) → pick m ≡ o → o ≡ some (get_or o m)
      go m lm zm none f = absurd (true-and-false (after n to_end n m) (rw f at (fixed n to_end to_end-mono m lm)) zm)
      go m lm zm (some j) f = refl

  walk : (i : ℕ) → i < n → Walk pick i
  unfolding walk_node
  walk i l = go (decide (after n to_end n i))
    where
      go : (after n to_end n i ≡ true) ⊎ (after n to_end n i ≡ false) → Walk pick i
      go (inl e) = walk_ends n i l e
      go (inr e) = endless (walk_node pick i) refl (goes i l e)

-- how R goes on from node j: to the chosen node, or nowhere
abbrev pub GoesOn : (ℕ → ℕ → Type 0) → ℕ → Option ℕ → Type 0
GoesOn R j (some k) = R j k
GoesOn R j none = (k : ℕ) → ¬ R j k

module _ (R : ℕ → ℕ → Type 0) (pick : ℕ → Option ℕ) (ok : (j : ℕ) → GoesOn R j (pick j)) where
  walk-path : (i : ℕ) → Walk pick i → MaxPath R i
  walk-path i (endless node s t) = infinite node s (λ k. rw (t k) at (ok (node k)))
  walk-path i (ending last node s t e) = finite last node s (λ k l. rw (t k l) at (ok (node k))) (rw e at (ok (node last)))

  walk-picks : (i : ℕ) (w : Walk pick i) (k j j' : ℕ) → At (walk-path i w) k j → At (walk-path i w) (suc k) j' → pick j ≡ some j'
  unfolding walk-path
  walk-picks i (endless node s t) k j j' a b = rw (← a, ← b) (t k)
  walk-picks i (ending last node s t e) k j j' a b = rw (← a.1, ← b.1) (t k b.0)

module _ {n : ℕ} {edge : ℕ → ℕ → Bool} {R : ℕ → ℕ → Type 0} (G : Graph n edge R) where
  -- A choice of the next node that goes as far as R does makes a path.
  pub path-by : (pick : ℕ → Option ℕ) → ((j : ℕ) → GoesOn R j (pick j)) → (i : ℕ) → i < n →
      (π : MaxPath R i) × ((k j j' : ℕ) → At π k j → At π (suc k) j' → pick j ≡ some j')
  path-by pick ok i l = (walk-path R pick ok i w, walk-picks R pick ok i w)
    where
      w : Walk pick i
      w = walk n pick (λ j k e. G.inside j k (rw e at (ok j))) i l

  -- some path from each node: the least next node each time
  next-or-none : (j : ℕ) → (o : Option ℕ) × GoesOn R j o
  next-or-none j = go (find n (edge j))
    where
      go : ((k : ℕ) × (k < n) × (edge j k ≡ true)) ⊎ ((k : ℕ) → k < n → edge j k ≡ false) → (o : Option ℕ) × GoesOn R j o
      go (inl f) = (some f.0, G.sound j f.0 f.2)
      go (inr f) = (none, λ k r. true-and-false (edge j k) (G.complete j k r) (f k (G.inside j k r)))

  some-path : (i : ℕ) → i < n → MaxPath R i
  some-path i l = (path-by (λ j. (next-or-none j).0) (λ j. (next-or-none j).1) i l).0

  -- a chain goes on to a path that shows pUq
  pub chain-until : {P Q : ℕ → Type 0} {i : ℕ} → i < n → Chain R P Q i → (π : MaxPath R i) × Until P Q π
  chain-until {i = i} l (here q) = (some-path i l, until-here (some-path i l) q)
  chain-until {i = i} l (there j p r c) = let u = chain-until (G.inside i j r) c in (cons r u.0, until-cons i r u.0 p u.1)

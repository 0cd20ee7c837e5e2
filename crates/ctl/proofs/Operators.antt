-- The evaluator's rows for EX, AX, EU, AU, ER and AR say what these operators mean over maximal paths, in any finite graph. Assumes nothing.
use Prim.Native.Nat.{ℕ, zero, suc, ◌≤◌, ◌<◌, zero-le}
use native.Mathlib.Nat.{le_of_suc-le-suc, not-suc-le-zero, eq-or-lt_of_le}
use native.Mathlib.Omega.{arith}
use mathlib.Core.Path.{◌≡◌, refl, sym, ◌∙◌, subst}
use mathlib.Core.Logic.{◌↔◌, ◌⊎◌, inl, inr}
use mathlib.Core.Bool.{Bool, true, false, not, ◌&&◌}
use mathlib.Core.Option.{Option, none, some}
use borrow.Author.Tests.{not-true}
use Rattle.ctl.specs.Meaning.{MaxPath, At, Until, Release, EX, AX, EU, AU, ER, AR}
use Rattle.ctl.specs.Evaluator.{some_next, each_next, round_eu, round_au}
use Rattle.ctl.proofs.BoolLaws.{decide, and_both, and-make, or_cases, or_left, or_right, not-of, false_of, true-and-false}
use Rattle.ctl.proofs.ListLaws.{find}
use Rattle.ctl.proofs.Fixpoint.{after, after-zero, after-suc, fixed}
use Rattle.ctl.proofs.Paths.{Graph, Chain, here, there, GoesOn, no_node, at-start, at-unique, at_before, at_next, at-inside, chain-down, path-by, chain-until}
use Rattle.ctl.proofs.NextLaws.{some_next-make, some_next-find, each_next-make, each_next-at, AU-parts, AU-make, mono_eu, mono_au}

-- what the rounds leave at each node
abbrev pub held_eu : (n : ℕ) (edge : ℕ → ℕ → Bool) (p q : ℕ → Bool) → ℕ → Bool
held_eu n edge p q = after n (round_eu n edge p q) n

abbrev pub held_au : (n : ℕ) (edge : ℕ → ℕ → Bool) (p q : ℕ → Bool) → ℕ → Bool
held_au n edge p q = after n (round_au n edge p q) n

same-node : {i j : ℕ} (o : Option ℕ) → o ≡ some i → o ≡ some j → i ≡ j
same-node o e f = cc

-- ---- paths that keep to the nodes where x is false as long as they can
data Onward (n : ℕ) (edge : ℕ → ℕ → Bool) (x : ℕ → Bool) (j : ℕ) : Type 0 where
  away : (k : ℕ) → edge j k ≡ true → x k ≡ false → Onward n edge x j
  caught : (k : ℕ) → k < n → edge j k ≡ true → ((m : ℕ) → m < n → edge j m ≡ true → x m ≡ true) → Onward n edge x j
  stuck : ((m : ℕ) → m < n → edge j m ≡ false) → Onward n edge x j

onward : (n : ℕ) (edge : ℕ → ℕ → Bool) (x : ℕ → Bool) (j : ℕ) → Onward n edge x j
onward n edge x j = go (find n (λ k. edge j k && not (x k))) (find n (edge j))
  where
    good : ((k : ℕ) → k < n → (edge j k && not (x k)) ≡ false) → (m : ℕ) → m < n → edge j m ≡ true → (x m ≡ true) ⊎ (x m ≡ false) → x m ≡ true
    good f m l e (inl t) = t
    good f m l e (inr t) = absurd (true-and-false (edge j m && not (x m)) (and-make (edge j m) (not (x m)) e (not-of (x m) t)) (f m l))

    go : ((k : ℕ) × (k < n) × ((edge j k && not (x k)) ≡ true)) ⊎ ((k : ℕ) → k < n → (edge j k && not (x k)) ≡ false) →
        ((k : ℕ) × (k < n) × (edge j k ≡ true)) ⊎ ((k : ℕ) → k < n → edge j k ≡ false) → Onward n edge x j
    go (inl f) g =
        let b = and_both (edge j f.0) (not (x f.0)) f.2 in
        away f.0 b.0 (not-true (x f.0) b.1)
    go (inr f) (inl g) = caught g.0 g.1 g.2 (λ m l e. good f m l e (decide (x m)))
    go (inr f) (inr g) = stuck g

to : {n : ℕ} {edge : ℕ → ℕ → Bool} {x : ℕ → Bool} {j : ℕ} → Onward n edge x j → Option ℕ
to (away k e f) = some k
to (caught k l e f) = some k
to (stuck f) = none

module _ {n : ℕ} {edge : ℕ → ℕ → Bool} {R : ℕ → ℕ → Type 0} (G : Graph n edge R) (x : ℕ → Bool) where
  goes : (j : ℕ) (w : Onward n edge x j) → GoesOn R j (to w)
  unfolding to
  goes j (away k e f) = G.sound j k e
  goes j (caught k l e f) = G.sound j k e
  goes j (stuck f) = λ k r. true-and-false (edge j k) (G.complete j k r) (f k (G.inside j k r))

  escape : (i : ℕ) → i < n → (π : MaxPath R i) × ((k j j' : ℕ) → At π k j → At π (suc k) j' → to (onward n edge x j) ≡ some j')
  escape i l = path-by G (λ j. to (onward n edge x j)) (λ j. goes j (onward n edge x j)) i l

-- ---- U and R against each other on one path
module _ {R : ℕ → ℕ → Type 0} (P Q : ℕ → Type 0) {i : ℕ} (π : MaxPath R i) where
  pub release-not : Release P Q π → Until (λ j. ¬ P j) (λ j. ¬ Q j) π → ⊥
  release-not r u = let w = r u.0 u.1 u.2 u.3 in u.4 w.0 w.1 w.2 w.3 w.4

  -- the first k places of a path that has a place k: one where P holds, or P fails at all of them
  earlier : (p : ℕ → Bool) → ((k j : ℕ) → At π k j → (p j ≡ true) ↔ P j) → (k j : ℕ) → At π k j →
      ((k' : ℕ) × (j' : ℕ) × (k' < k) × At π k' j' × P j') ⊎ ((k' j' : ℕ) → k' < k → At π k' j' → ¬ P j')
  earlier p hp zero j a = inr (λ k' j' l. absurd (not-suc-le-zero l))
  earlier p hp (suc k) j a = let b = at_before π k j a in go b.0 b.1 (decide (p b.0)) (earlier p hp k b.0 b.1)
    where
      go : (m : ℕ) → At π k m → (p m ≡ true) ⊎ (p m ≡ false) →
          ((k' : ℕ) × (j' : ℕ) × (k' < k) × At π k' j' × P j') ⊎ ((k' j' : ℕ) → k' < k → At π k' j' → ¬ P j') →
          ((k' : ℕ) × (j' : ℕ) × (k' < suc k) × At π k' j' × P j') ⊎ ((k' j' : ℕ) → k' < suc k → At π k' j' → ¬ P j')
      go m b (inl t) r = inl (k, m, omega arith, b, (hp k m b).0 t)
      go m b (inr t) (inl r) = inl (r.0, r.1, omega (arith, r.2), r.3, r.4)
      go m b (inr t) (inr r) = inr (λ k' j' l c h. last k' j' c h (eq-or-lt_of_le (le_of_suc-le-suc l)))
        where
          last : (k' j' : ℕ) → At π k' j' → P j' → (k' ≡ k) ⊎ (k' < k) → ⊥
          last k' j' c h (inl e) = true-and-false (p m) ((hp k m b).1 (subst P (at-unique π k j' m (rw e at c) b) h)) t
          last k' j' c h (inr l) = r k' j' l c h

  pub not-until : (p : ℕ → Bool) → ((k j : ℕ) → At π k j → (p j ≡ true) ↔ P j) → (Until (λ j. ¬ P j) (λ j. ¬ Q j) π → ⊥) → Release P Q π
  not-until p hp no-until k j a nq = go (earlier p hp k j a)
    where
      go : ((k' : ℕ) × (j' : ℕ) × (k' < k) × At π k' j' × P j') ⊎ ((k' j' : ℕ) → k' < k → At π k' j' → ¬ P j') → (k' : ℕ) × (j' : ℕ) × (k' < k) × At π k' j' × P j'
      go (inl r) = r
      go (inr r) = absurd (no-until (k, j, a, nq, r))

-- a test of the opposite
opposite : {n : ℕ} (P : ℕ → Type 0) (p p̄ : ℕ → Bool) → ((i : ℕ) → i < n → (p i ≡ true) ↔ P i) → ((i : ℕ) → i < n → p̄ i ≡ not (p i)) →
    (i : ℕ) → i < n → (p̄ i ≡ true) ↔ (¬ P i)
opposite P p p̄ hp np i l = (
  λ e h. true-and-false (p i) ((hp i l).1 h) (not-true (p i) (sym (np i l) ∙ e)),
  λ h. np i l ∙ not-of (p i) (false_of (p i) (λ e. h ((hp i l).0 e))),
)

-- ---- the operators, for properties P and Q of nodes with tests p and q
module _ {n : ℕ} {edge : ℕ → ℕ → Bool} {R : ℕ → ℕ → Type 0} (G : Graph n edge R) where
  module _ (P : ℕ → Type 0) (p : ℕ → Bool) (hp : (i : ℕ) → i < n → (p i ≡ true) ↔ P i) where
    pub EX-iff : (i : ℕ) → (some_next n edge p i ≡ true) ↔ EX R P i
    EX-iff i = (
      λ e. let r = some_next-find n edge p i e in (r.0, G.sound i r.0 r.2, (hp r.0 r.1).0 r.3),
      λ h. let l = G.inside i h.0 h.1 in
          some_next-make n edge p i h.0 l (G.complete i h.0 h.1) ((hp h.0 l).1 h.2),
    )

    pub AX-iff : (i : ℕ) → (each_next n edge p i ≡ true) ↔ AX R P i
    AX-iff i = (
      λ e j r. let l = G.inside i j r in (hp j l).0 (each_next-at n edge p i e j l (G.complete i j r)),
      λ h. each_next-make n edge p i (λ j l e. (hp j l).1 (h j (G.sound i j e))),
    )

  module _ (P Q : ℕ → Type 0) (p q : ℕ → Bool) (hp : (i : ℕ) → i < n → (p i ≡ true) ↔ P i) (hq : (i : ℕ) → i < n → (q i ≡ true) ↔ Q i) where
    -- EU: a chain from each node that some round made true
    pub EU-chain : (k i : ℕ) → i < n → after n (round_eu n edge p q) k i ≡ true → Chain R P Q i
    EU-chain zero i l e = absurd (true-and-false (after n (round_eu n edge p q) 0 i) e (after-zero n (round_eu n edge p q) i l))
    EU-chain (suc k) i l e = go (or_cases (q i) (p i && some_next n edge (after n (round_eu n edge p q) k) i)
        (sym (after-suc n (round_eu n edge p q) k i l) ∙ e)) (EU-chain k)
      where
        go : (q i ≡ true) ⊎ ((p i && some_next n edge (after n (round_eu n edge p q) k) i) ≡ true) →
            ((j : ℕ) → j < n → after n (round_eu n edge p q) k j ≡ true → Chain R P Q j) → Chain R P Q i
        go (inl f) c = here ((hq i l).0 f)
        go (inr f) c =
            let b = and_both (p i) (some_next n edge (after n (round_eu n edge p q) k) i) f in
            let r = some_next-find n edge (after n (round_eu n edge p q) k) i b.1 in
            there r.0 ((hp i l).0 b.0) (G.sound i r.0 r.2) (c r.0 r.1 r.3)

    chain-EU : {i : ℕ} → i < n → Chain R P Q i → held_eu n edge p q i ≡ true
    chain-EU {i} l (here h) = fixed n (round_eu n edge p q) (mono_eu n edge p q) i l ∙ or_left (q i) (p i && some_next n edge (held_eu n edge p q) i) ((hq i l).1 h)
    chain-EU {i} l (there j h r c) =
        let lj = G.inside i j r in
        fixed n (round_eu n edge p q) (mono_eu n edge p q) i l
        ∙ or_right (q i) (p i && some_next n edge (held_eu n edge p q) i)
        (and-make (p i) (some_next n edge (held_eu n edge p q) i) ((hp i l).1 h)
        (some_next-make n edge (held_eu n edge p q) i j lj (G.complete i j r) (chain-EU lj c)))

    pub EU-iff : (i : ℕ) → i < n → (held_eu n edge p q i ≡ true) ↔ EU R P Q i
    EU-iff i l = (
      λ e. chain-until G l (EU-chain n i l e),
      λ h. let u = h.1 in chain-EU l (chain-down h.0 u.0 u.1 u.2 u.4 (here u.3)),
    )

    -- AU: a path that comes, at place m, to a node that some round made true shows pUq from there on
    AU-from : (r m i : ℕ) → i < n → after n (round_au n edge p q) r i ≡ true → {i₀ : ℕ} (π : MaxPath R i₀) → At π m i →
        (k : ℕ) × (j : ℕ) × At π k j × Q j × ((k' j' : ℕ) → m ≤ k' → k' < k → At π k' j' → P j')
    AU-from zero m i l e π a = absurd (true-and-false (after n (round_au n edge p q) 0 i) e (after-zero n (round_au n edge p q) i l))
    AU-from (suc r) m i l e π a = go (or_cases (q i) (p i && (some_next n edge (λ j. true) i && each_next n edge (after n (round_au n edge p q) r) i))
        (sym (after-suc n (round_au n edge p q) r i l) ∙ e)) (λ j lj f b. AU-from r (suc m) j lj f π b)
      where
        later : P i → ((k : ℕ) × (j : ℕ) × At π k j × Q j × ((k' j' : ℕ) → suc m ≤ k' → k' < k → At π k' j' → P j')) →
            (k : ℕ) × (j : ℕ) × At π k j × Q j × ((k' j' : ℕ) → m ≤ k' → k' < k → At π k' j' → P j')
        later h u = (u.0, u.1, u.2, u.3, λ k' j' x y b. here-or-later k' j' y b (eq-or-lt_of_le x))
          where
            here-or-later : (k' j' : ℕ) → k' < u.0 → At π k' j' → (m ≡ k') ⊎ (m < k') → P j'
            here-or-later k' j' y b (inl e) = subst P (at-unique π m i j' a (rw (← e) at b)) h
            here-or-later k' j' y b (inr x) = u.4 k' j' x y b

        on : (p i ≡ true) × (some_next n edge (λ j. true) i ≡ true) × (each_next n edge (after n (round_au n edge p q) r) i ≡ true) →
            ((j : ℕ) → j < n → after n (round_au n edge p q) r j ≡ true → At π (suc m) j →
            (k : ℕ) × (j : ℕ) × At π k j × Q j × ((k' j' : ℕ) → suc m ≤ k' → k' < k → At π k' j' → P j')) →
            ((j' : ℕ) × At π (suc m) j' × R i j') ⊎ ((j' : ℕ) → ¬ R i j') →
            (k : ℕ) × (j : ℕ) × At π k j × Q j × ((k' j' : ℕ) → m ≤ k' → k' < k → At π k' j' → P j')
        on b u (inl x) =
            let lj = G.inside i x.0 x.2 in
            later ((hp i l).0 b.0) (u x.0 lj (each_next-at n edge (after n (round_au n edge p q) r) i b.2 x.0 lj (G.complete i x.0 x.2)) x.1)
        on b u (inr d) =
            let w = some_next-find n edge (λ j. true) i b.1 in
            absurd (d w.0 (G.sound i w.0 w.2))

        go : (q i ≡ true) ⊎ ((p i && (some_next n edge (λ j. true) i && each_next n edge (after n (round_au n edge p q) r) i)) ≡ true) →
            ((j : ℕ) → j < n → after n (round_au n edge p q) r j ≡ true → At π (suc m) j →
            (k : ℕ) × (j : ℕ) × At π k j × Q j × ((k' j' : ℕ) → suc m ≤ k' → k' < k → At π k' j' → P j')) →
            (k : ℕ) × (j : ℕ) × At π k j × Q j × ((k' j' : ℕ) → m ≤ k' → k' < k → At π k' j' → P j')
        go (inl f) u = (m, i, a, (hq i l).0 f, λ k' j' x y. absurd (omega arith))
        go (inr f) u = on (AU-parts n edge p q (after n (round_au n edge p q) r) i f) u (at_next π m i a)

    AU-until : (i : ℕ) → i < n → held_au n edge p q i ≡ true → (π : MaxPath R i) → Until P Q π
    AU-until i l e π = let u = AU-from n 0 i l e π (at-start π) in (u.0, u.1, u.2, u.3, λ k' j'. u.4 k' j' zero-le)

    -- Where no round makes a node true: a path that keeps to such nodes as long as p holds
    keeps-away : {i : ℕ} → i < n → held_au n edge p q i ≡ false → (π : MaxPath R i) →
        ((k j j' : ℕ) → At π k j → At π (suc k) j' → to (onward n edge (held_au n edge p q) j) ≡ some j') →
        (k j : ℕ) → At π k j → ((k' j' : ℕ) → k' < k → At π k' j' → P j') → held_au n edge p q j ≡ false
    unfolding to
    keeps-away {i} l z π picks zero j a b = subst (λ m. held_au n edge p q m ≡ false) (at-unique π 0 i j (at-start π) a) z
    keeps-away {i} l z π picks (suc k) j a b =
        let c = at_before π k j a in
        go c.0 (at-inside G.inside l π k c.0 c.1) (b k c.0 (omega arith) c.1)
        (keeps-away l z π picks k c.0 c.1 (λ k' j' m. b k' j' (omega arith)))
        (onward n edge (held_au n edge p q) c.0) (picks k c.0 j c.1 a)
      where
        go : (m : ℕ) → m < n → P m → held_au n edge p q m ≡ false → (w : Onward n edge (held_au n edge p q) m) → to w ≡ some j → held_au n edge p q j ≡ false
        go m lm h zm (away k' a f) g = subst (λ y. held_au n edge p q y ≡ false) (same-node (some k') refl g) f
        go m lm h zm (caught k' lk a f) g =
            absurd (true-and-false (held_au n edge p q m)
            (fixed n (round_au n edge p q) (mono_au n edge p q) m lm
            ∙ AU-make n edge p q (held_au n edge p q) m ((hp m lm).1 h)
            (some_next-make n edge (λ j. true) m k' lk a refl) (each_next-make n edge (held_au n edge p q) m f))
            zm)
        go m lm h zm (stuck f) g = absurd (no_node none refl g)

    AU-escape : (i : ℕ) → i < n → held_au n edge p q i ≡ false → (π : MaxPath R i) × (Until P Q π → ⊥)
    AU-escape i l z = (
      w.0,
      λ u.
          let lj = at-inside G.inside l w.0 u.0 u.1 u.2 in
          true-and-false (held_au n edge p q u.1)
          (fixed n (round_au n edge p q) (mono_au n edge p q) u.1 lj
          ∙ or_left (q u.1) (p u.1 && (some_next n edge (λ j. true) u.1 && each_next n edge (held_au n edge p q) u.1)) ((hq u.1 lj).1 u.3))
          (keeps-away l z w.0 w.1 u.0 u.1 u.2 u.4),
    )
      where
        w : (π : MaxPath R i) × ((k j j' : ℕ) → At π k j → At π (suc k) j' → to (onward n edge (held_au n edge p q) j) ≡ some j')
        w = escape G (held_au n edge p q) i l

    pub AU-iff : (i : ℕ) → i < n → (held_au n edge p q i ≡ true) ↔ AU R P Q i
    AU-iff i l = (AU-until i l, λ h. go h (decide (held_au n edge p q i)))
      where
        go : AU R P Q i → (held_au n edge p q i ≡ true) ⊎ (held_au n edge p q i ≡ false) → held_au n edge p q i ≡ true
        go h (inl e) = e
        go h (inr e) = let w = AU-escape i l e in absurd (w.1 (h w.0))

  -- ER and AR through the opposite tests
  module _ (P Q : ℕ → Type 0) (p q p̄ q̄ : ℕ → Bool) (hp : (i : ℕ) → i < n → (p i ≡ true) ↔ P i) (hq : (i : ℕ) → i < n → (q i ≡ true) ↔ Q i)
      (np : (i : ℕ) → i < n → p̄ i ≡ not (p i)) (nq : (i : ℕ) → i < n → q̄ i ≡ not (q i)) where
    pub ER-iff : (i : ℕ) → i < n → (not (held_au n edge p̄ q̄ i) ≡ true) ↔ ER R P Q i
    ER-iff i l = (
      λ e. let w = AU-escape (λ j. ¬ P j) (λ j. ¬ Q j) p̄ q̄ (opposite P p p̄ hp np) (opposite Q q q̄ hq nq) i l (not-true (held_au n edge p̄ q̄ i) e) in
          (w.0, not-until P Q w.0 p (λ k j a. hp j (at-inside G.inside l w.0 k j a)) w.1),
      λ h. not-of (held_au n edge p̄ q̄ i) (false_of (held_au n edge p̄ q̄ i) (λ t.
          release-not P Q h.0 h.1
          ((AU-iff (λ j. ¬ P j) (λ j. ¬ Q j) p̄ q̄ (opposite P p p̄ hp np) (opposite Q q q̄ hq nq) i l).0 t h.0))),
    )

    pub AR-iff : (i : ℕ) → i < n → (not (held_eu n edge p̄ q̄ i) ≡ true) ↔ AR R P Q i
    AR-iff i l = (
      λ e π. not-until P Q π p (λ k j a. hp j (at-inside G.inside l π k j a))
          (λ u. true-and-false (held_eu n edge p̄ q̄ i)
          ((EU-iff (λ j. ¬ P j) (λ j. ¬ Q j) p̄ q̄ (opposite P p p̄ hp np) (opposite Q q q̄ hq nq) i l).1 (π, u))
          (not-true (held_eu n edge p̄ q̄ i) e)),
      λ h. not-of (held_eu n edge p̄ q̄ i) (false_of (held_eu n edge p̄ q̄ i) (λ t.
          let w = (EU-iff (λ j. ¬ P j) (λ j. ¬ Q j) p̄ q̄ (opposite P p p̄ hp np) (opposite Q q q̄ hq nq) i l).0 t in
          release-not P Q w.0 (h w.0) w.1)),
    )

-- A formula holds at the nodes where its expansion does. Assumes nothing.
use Prim.Native.Nat.{ℕ, ◌^◌, ◌<◌}
use mathlib.Core.Path.{◌≡◌, refl, sym, ap, ◌∙◌, subst}
use mathlib.Core.Logic.Iff
use mathlib.Core.Logic.{◌↔◌}
use mathlib.Core.Bool.{Bool, true, not, ◌&&◌, ◌||◌, or-false, and-true, not-not}
use mathlib.Core.List.{List, [], ◌∷◌, map}
use Rattle.ctl.specs.Lists.{any_of, all_of}
use Rattle.ctl.specs.Formula.{Form, tru, fls, lit, nlit, and, or, ex, ax, eu, au, er, ar}
use Rattle.ctl.specs.Modes.{has_mode, modes}
use Rattle.ctl.specs.Expansion.{or_all, and_all, expand}
use Rattle.ctl.specs.Snapshot.{Snapshot, step}
use Rattle.ctl.specs.Meaning.{Leads}
use Rattle.ctl.specs.Evaluator.{row, table_eu, table_au, some_next, each_next, round_eu, round_au, leads, sat}
use Rattle.ctl.proofs.BoolLaws.{true-T, T_true, same_test, not-and, not-or}
use Rattle.ctl.proofs.ListLaws.{all_in, all-out}
use Rattle.ctl.proofs.ModeLaws.{modes-in, modes-has, mode-lt, mode-only, mode-own}
use Rattle.ctl.proofs.Fixpoint.{after, fixed}
use Rattle.ctl.proofs.NextLaws.{mono_eu, mono_au, some_next-same, each_next-same, not-some_next, not-each_next}
use Rattle.ctl.proofs.Operators.{EX-iff, AX-iff}
use Rattle.ctl.proofs.EvaluatorLaws.{modes-iff, graph, sat-tru, sat-fls, sat-and, sat-or, sat_ex, sat-ax, sat-er, sat-ar, unsat, unsat-is}

module _ (s : Snapshot) where
  -- ---- EX and AX

  pub ex-iff : (A : ℕ) (p : Form) (i : ℕ) → i < s.n → (sat s (ex A p) i ≡ true) ↔ ((j : ℕ) × Leads s A i j × (sat s p j ≡ true))
  ex-iff A p i l = rw (sat_ex s A p i l) (EX-iff (graph s A) (λ j. sat s p j ≡ true) (sat s p) (λ j h. Iff.rfl) i)

  pub ax-iff : (A : ℕ) (p : Form) (i : ℕ) → i < s.n → (sat s (ax A p) i ≡ true) ↔ ((j : ℕ) → Leads s A i j → sat s p j ≡ true)
  ax-iff A p i l = rw (sat-ax s A p i l) (AX-iff (graph s A) (λ j. sat s p j ≡ true) (sat s p) (λ j h. Iff.rfl) i)

  -- a set of one mode
  leads-single : (m i j : ℕ) → m < 16 → Leads s (2 ^ m) i j ↔ (step s m i j ≡ true)
  leads-single m i j h = (
    λ r. subst (λ a. step s a i j ≡ true) (mode-only (2 ^ m) m r.0 h refl (modes-has (2 ^ m) r.0 r.1 (T_true (has_mode (2 ^ m) r.0) r.2))) r.3,
    λ e. (m, h, true-T (has_mode (2 ^ m) m) (modes-in (2 ^ m) (mode-own (2 ^ m) m h refl)).1, e),
  )

  sat-or_all : (f : ℕ → Form) (l : List ℕ) (i : ℕ) → i < s.n → sat s (or_all (map f l)) i ≡ any_of (λ m. sat s (f m) i) l
  sat-or_all f [] i h = sat-fls s i h
  sat-or_all f (m ∷ []) i h = sym (or-false (sat s (f m) i))
  sat-or_all f (m ∷ m' ∷ l) i h = rw (sat-or s (f m) (or_all (map f (m' ∷ l))) i h, sat-or_all f (m' ∷ l) i h)

  sat-and_all : (f : ℕ → Form) (l : List ℕ) (i : ℕ) → i < s.n → sat s (and_all (map f l)) i ≡ all_of (λ m. sat s (f m) i) l
  sat-and_all f [] i h = sat-tru s i h
  sat-and_all f (m ∷ []) i h = sym (and-true (sat s (f m) i))
  sat-and_all f (m ∷ m' ∷ l) i h = rw (sat-and s (f m) (and_all (map f (m' ∷ l))) i h, sat-and_all f (m' ∷ l) i h)

  -- EX and AX over A are those over its modes
  pub ex-modes : (A : ℕ) (p : Form) (i : ℕ) → i < s.n → sat s (ex A p) i ≡ any_of (λ m. sat s (ex (2 ^ m) p) i) (modes A)
  ex-modes A p i l = same_test (sat s (ex A p) i) (any_of (λ m. sat s (ex (2 ^ m) p) i) (modes A))
      (λ e. let r = (ex-iff A p i l).0 e in
      let m = r.1.0 in
      (modes-iff A (λ m. sat s (ex (2 ^ m) p) i)).1 (m, r.1.1, r.1.2, (ex-iff (2 ^ m) p i l).1 (r.0, (leads-single m i r.0 r.1.1).1 r.1.3, r.2)))
      (λ e. let w = (modes-iff A (λ m. sat s (ex (2 ^ m) p) i)).0 e in
      let r = (ex-iff (2 ^ w.0) p i l).0 w.3 in
      (ex-iff A p i l).1 (r.0, (w.0, w.1, w.2, (leads-single w.0 i r.0 w.1).0 r.1), r.2))

  pub ax-modes : (A : ℕ) (p : Form) (i : ℕ) → i < s.n → sat s (ax A p) i ≡ all_of (λ m. sat s (ax (2 ^ m) p) i) (modes A)
  ax-modes A p i l = same_test (sat s (ax A p) i) (all_of (λ m. sat s (ax (2 ^ m) p) i) (modes A))
      (λ e. true-T (all_of (λ m. sat s (ax (2 ^ m) p) i) (modes A)) (all_in (λ m. sat s (ax (2 ^ m) p) i) (modes A) (λ m k.
      let w = modes-in A k in
      T_true (sat s (ax (2 ^ m) p) i) ((ax-iff (2 ^ m) p i l).1 (λ j r. (ax-iff A p i l).0 e j (m, mode-lt w.0, true-T (has_mode A m) w.1, (leads-single m i j (mode-lt w.0)).0 r))))))
      (λ e. (ax-iff A p i l).1 (λ j r.
      let m = r.0 in
      let t = all-out (λ m. sat s (ax (2 ^ m) p) i) (T_true (all_of (λ m. sat s (ax (2 ^ m) p) i) (modes A)) e) (modes-has A m r.1 (T_true (has_mode A m) r.2)) in
      (ax-iff (2 ^ m) p i l).0 (true-T (sat s (ax (2 ^ m) p) i) t) j ((leads-single m i j r.1).1 r.3)))

  -- ---- U and R

  -- the rounds of a formula have come to rest
  eu-fixed : (A : ℕ) (p q : Form) (i : ℕ) → i < s.n → sat s (eu A p q) i ≡ round_eu s.n (leads s A) (sat s p) (sat s q) (sat s (eu A p q)) i
  unfolding sat row table_eu
  eu-fixed A p q i l = fixed s.n (round_eu s.n (leads s A) (sat s p) (sat s q)) (mono_eu s.n (leads s A) (sat s p) (sat s q)) i l

  au-fixed : (A : ℕ) (p q : Form) (i : ℕ) → i < s.n → sat s (au A p q) i ≡ round_au s.n (leads s A) (sat s p) (sat s q) (sat s (au A p q)) i
  unfolding sat row table_au
  au-fixed A p q i l = fixed s.n (round_au s.n (leads s A) (sat s p) (sat s q)) (mono_au s.n (leads s A) (sat s p) (sat s q)) i l

  expand-eu : (A : ℕ) (p q : Form) (i : ℕ) → i < s.n → sat s (eu A p q) i ≡ sat s (expand (eu A p q)) i
  unfolding expand
  expand-eu A p q i l = rw (sat-or s q (and p (ex A (eu A p q))) i l, sat-and s p (ex A (eu A p q)) i l, sat_ex s A (eu A p q) i l) (eu-fixed A p q i l)

  expand-au : (A : ℕ) (p q : Form) (i : ℕ) → i < s.n → sat s (au A p q) i ≡ sat s (expand (au A p q)) i
  unfolding expand
  expand-au A p q i l = rw (
    sat-or s q (and p (and (ex A tru) (ax A (au A p q)))) i l,
    sat-and s p (and (ex A tru) (ax A (au A p q))) i l,
    sat-and s (ex A tru) (ax A (au A p q)) i l,
    sat_ex s A tru i l,
    sat-ax s A (au A p q) i l,
    some_next-same s.n (leads s A) (sat s tru) (λ j. true) i (sat-tru s),
  ) (au-fixed A p q i l)

  -- the opposite of a round with opposite tests
  er-fixed : (A : ℕ) (p q : Form) (i : ℕ) → i < s.n →
      sat s (er A p q) i ≡ sat s q i && (sat s p i || (not (some_next s.n (leads s A) (λ j. true) i) || some_next s.n (leads s A) (sat s (er A p q)) i))
  er-fixed A p q i l =
      sat-er s A p q i l
      ∙ (ap not (fixed s.n (round_au s.n (leads s A) (unsat s p) (unsat s q)) (mono_au s.n (leads s A) (unsat s p) (unsat s q)) i l)
      ∙ rw (
        unsat-is s p i l,
        unsat-is s q i l,
        not-or (not (sat s q i)) (not (sat s p i) && (has && each)),
        not-and (not (sat s p i)) (has && each),
        not-and has each,
        not-not (sat s p i),
        not-not (sat s q i),
        not-each_next s.n (leads s A) x i,
      )
      (ap (λ b. sat s q i && (sat s p i || (not has || b))) (some_next-same s.n (leads s A) (λ j. not (x j)) (sat s (er A p q)) i (λ j h. sym (sat-er s A p q j h)))))
    where
      x : ℕ → Bool
      x = after s.n (round_au s.n (leads s A) (unsat s p) (unsat s q)) s.n

      has : Bool
      has = some_next s.n (leads s A) (λ j. true) i

      each : Bool
      each = each_next s.n (leads s A) x i

  ar-fixed : (A : ℕ) (p q : Form) (i : ℕ) → i < s.n →
      sat s (ar A p q) i ≡ sat s q i && (sat s p i || each_next s.n (leads s A) (sat s (ar A p q)) i)
  ar-fixed A p q i l =
      sat-ar s A p q i l
      ∙ (ap not (fixed s.n (round_eu s.n (leads s A) (unsat s p) (unsat s q)) (mono_eu s.n (leads s A) (unsat s p) (unsat s q)) i l)
      ∙ rw (
        unsat-is s p i l,
        unsat-is s q i l,
        not-or (not (sat s q i)) (not (sat s p i) && some),
        not-and (not (sat s p i)) some,
        not-not (sat s p i),
        not-not (sat s q i),
        not-some_next s.n (leads s A) x i,
      )
      (ap (λ b. sat s q i && (sat s p i || b)) (each_next-same s.n (leads s A) (λ j. not (x j)) (sat s (ar A p q)) i (λ j h. sym (sat-ar s A p q j h)))))
    where
      x : ℕ → Bool
      x = after s.n (round_eu s.n (leads s A) (unsat s p) (unsat s q)) s.n

      some : Bool
      some = some_next s.n (leads s A) x i

  -- no next node
  no-next : (A i : ℕ) → i < s.n → sat s (ax A fls) i ≡ not (some_next s.n (leads s A) (λ j. true) i)
  no-next A i l = sat-ax s A fls i l
      ∙ (each_next-same s.n (leads s A) (sat s fls) (λ j. not true) i (sat-fls s) ∙ sym (not-some_next s.n (leads s A) (λ j. true) i))

  expand-er : (A : ℕ) (p q : Form) (i : ℕ) → i < s.n → sat s (er A p q) i ≡ sat s (expand (er A p q)) i
  unfolding expand
  expand-er A p q i l = rw (
    sat-and s q (or p (or (ax A fls) (ex A (er A p q)))) i l,
    sat-or s p (or (ax A fls) (ex A (er A p q))) i l,
    sat-or s (ax A fls) (ex A (er A p q)) i l,
    no-next A i l,
    sat_ex s A (er A p q) i l,
  ) (er-fixed A p q i l)

  expand-ar : (A : ℕ) (p q : Form) (i : ℕ) → i < s.n → sat s (ar A p q) i ≡ sat s (expand (ar A p q)) i
  unfolding expand
  expand-ar A p q i l = rw (sat-and s q (or p (ax A (ar A p q))) i l, sat-or s p (ax A (ar A p q)) i l, sat-ax s A (ar A p q) i l) (ar-fixed A p q i l)

  -- a formula and its expansion hold at the same nodes
  pub sat-expand : (φ : Form) (i : ℕ) → i < s.n → sat s φ i ≡ sat s (expand φ) i
  unfolding expand
  sat-expand tru i l = refl
  sat-expand fls i l = refl
  sat-expand (lit k) i l = refl
  sat-expand (nlit k) i l = refl
  sat-expand (and p q) i l = refl
  sat-expand (or p q) i l = refl
  sat-expand (ex A p) i l = ex-modes A p i l ∙ sym (sat-or_all (λ m. ex (2 ^ m) p) (modes A) i l)
  sat-expand (ax A p) i l = ax-modes A p i l ∙ sym (sat-and_all (λ m. ax (2 ^ m) p) (modes A) i l)
  sat-expand (eu A p q) i l = expand-eu A p q i l
  sat-expand (au A p q) i l = expand-au A p q i l
  sat-expand (er A p q) i l = expand-er A p q i l
  sat-expand (ar A p q) i l = expand-ar A p q i l

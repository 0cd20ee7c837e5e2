-- The evaluator is right: `sat` passes at a node of a snapshot exactly where the formula holds by its meaning. Assumes nothing.
use Prim.Native.Nat.{ℕ, ◌<◌}
use mathlib.Core.Path.{◌≡◌, refl}
use mathlib.Core.Logic.Iff
use mathlib.Core.Logic.{◌↔◌}
use mathlib.Core.Bool.{Bool, true, false, not, ◌&&◌, ◌||◌}
use lib.Dec.{ltb}
use borrow.Author.Tests.{ltb-true}
use Rattle.ctl.specs.Lists.{any_of}
use Rattle.ctl.specs.Formula.{Form, tru, fls, lit, nlit, and, or, ex, ax, eu, au, er, ar}
use Rattle.ctl.specs.Modes.{has_mode, modes}
use Rattle.ctl.specs.Snapshot.{Snapshot, follows, step}
use Rattle.ctl.specs.Meaning.{Leads, Holds, EU, AU, ER, AR}
use Rattle.ctl.specs.Evaluator.{look, some_next, each_next, round_eu, round_au, table_eu, table_au, table_not, leads, row, sat}
use Rattle.ctl.proofs.BoolLaws.{true-T, T_true, and_both, true-and-false, along, not-says, and-says, or-says}
use Rattle.ctl.proofs.ListLaws.{any-in, any_out}
use Rattle.ctl.proofs.ModeLaws.{modes-in, modes-has, mode-lt}
use Rattle.ctl.proofs.Fixpoint.{after, look-table}
use Rattle.ctl.proofs.Paths.{Graph}
use Rattle.ctl.proofs.Operators.{EX-iff, AX-iff, EU-iff, AU-iff, ER-iff, AR-iff}

-- some mode of a set passes a test
pub modes-iff : (A : ℕ) (f : ℕ → Bool) → (any_of f (modes A) ≡ true) ↔ ((m : ℕ) × (m < 16) × (has_mode A m ≡ true) × (f m ≡ true))
modes-iff A f = (
  λ e. let r = any_out f (modes A) (T_true (any_of f (modes A)) e) in
      let w = modes-in A r.1 in
      (r.0, mode-lt w.0, true-T (has_mode A r.0) w.1, true-T (f r.0) r.2),
  λ h. true-T (any_of f (modes A)) (any-in f (modes-has A h.0 h.1 (T_true (has_mode A h.0) h.2)) (T_true (f h.0) h.3)),
)

-- ---- the graph of the modes of A
pub step-inside : (s : Snapshot) (m i j : ℕ) → step s m i j ≡ true → (i < s.n) × (j < s.n)
unfolding step
step-inside s m i j e =
    let b = (and_both (ltb i s.n && ltb j s.n) (follows s m i j) e).0 in
    let c = and_both (ltb i s.n) (ltb j s.n) b in
    (ltb-true i s.n c.0, ltb-true j s.n c.1)

pub graph : (s : Snapshot) (A : ℕ) → Graph s.n (leads s A) (Leads s A)
unfolding leads
graph s A = record {
  sound = λ i j e. (modes-iff A (λ m. step s m i j)).0 e;
  complete = λ i j r. (modes-iff A (λ m. step s m i j)).1 r;
  inside = λ i j r. (step-inside s r.0 i j r.3).1;
}

-- ---- sat at each kind of formula
module _ (s : Snapshot) where
  pub sat-tru : (i : ℕ) → i < s.n → sat s tru i ≡ true
  unfolding sat row
  sat-tru i l = look-table s.n (λ i. true) i l

  pub sat-fls : (i : ℕ) → i < s.n → sat s fls i ≡ false
  unfolding sat row
  sat-fls i l = look-table s.n (λ i. false) i l

  pub sat-lit : (k i : ℕ) → i < s.n → sat s (lit k) i ≡ s.on k i
  unfolding sat row
  sat-lit k i l = look-table s.n (λ i. s.on k i) i l

  pub sat-nlit : (k i : ℕ) → i < s.n → sat s (nlit k) i ≡ not (s.on k i)
  unfolding sat row
  sat-nlit k i l = look-table s.n (λ i. not (s.on k i)) i l

  pub sat-and : (p q : Form) (i : ℕ) → i < s.n → sat s (and p q) i ≡ sat s p i && sat s q i
  unfolding sat row
  sat-and p q i l = look-table s.n (λ i. sat s p i && sat s q i) i l

  pub sat-or : (p q : Form) (i : ℕ) → i < s.n → sat s (or p q) i ≡ sat s p i || sat s q i
  unfolding sat row
  sat-or p q i l = look-table s.n (λ i. sat s p i || sat s q i) i l

  pub sat_ex : (A : ℕ) (p : Form) (i : ℕ) → i < s.n → sat s (ex A p) i ≡ some_next s.n (leads s A) (sat s p) i
  unfolding sat row
  sat_ex A p i l = look-table s.n (some_next s.n (leads s A) (sat s p)) i l

  pub sat-ax : (A : ℕ) (p : Form) (i : ℕ) → i < s.n → sat s (ax A p) i ≡ each_next s.n (leads s A) (sat s p) i
  unfolding sat row
  sat-ax A p i l = look-table s.n (each_next s.n (leads s A) (sat s p)) i l

  pub sat-eu : (A : ℕ) (p q : Form) (i : ℕ) → sat s (eu A p q) i ≡ after s.n (round_eu s.n (leads s A) (sat s p) (sat s q)) s.n i
  unfolding sat row table_eu
  sat-eu A p q i = refl

  pub sat-au : (A : ℕ) (p q : Form) (i : ℕ) → sat s (au A p q) i ≡ after s.n (round_au s.n (leads s A) (sat s p) (sat s q)) s.n i
  unfolding sat row table_au
  sat-au A p q i = refl

  -- the opposite of a formula's table
  pub unsat : Form → ℕ → Bool
  unsat p = look (table_not s.n (row s p))

  pub unsat-is : (p : Form) (i : ℕ) → i < s.n → unsat p i ≡ not (sat s p i)
  unfolding unsat sat
  unsat-is p i l = look-table s.n (λ i. not (sat s p i)) i l

  pub sat-er : (A : ℕ) (p q : Form) (i : ℕ) → i < s.n → sat s (er A p q) i ≡ not (after s.n (round_au s.n (leads s A) (unsat p) (unsat q)) s.n i)
  unfolding sat row table_au unsat
  sat-er A p q i l = look-table s.n (λ i. not (after s.n (round_au s.n (leads s A) (unsat p) (unsat q)) s.n i)) i l

  pub sat-ar : (A : ℕ) (p q : Form) (i : ℕ) → i < s.n → sat s (ar A p q) i ≡ not (after s.n (round_eu s.n (leads s A) (unsat p) (unsat q)) s.n i)
  unfolding sat row table_eu unsat
  sat-ar A p q i l = look-table s.n (λ i. not (after s.n (round_eu s.n (leads s A) (unsat p) (unsat q)) s.n i)) i l

-- ---- sat at U and R, for any meanings of the operands that it agrees with
module _ (s : Snapshot) (A : ℕ) (P Q : ℕ → Type 0) (p q : Form)
    (hp : (i : ℕ) → i < s.n → (sat s p i ≡ true) ↔ P i) (hq : (i : ℕ) → i < s.n → (sat s q i ≡ true) ↔ Q i) (i : ℕ) (l : i < s.n) where
  pub by-eu : (sat s (eu A p q) i ≡ true) ↔ EU (Leads s A) P Q i
  by-eu = along (sat-eu s A p q i) (EU-iff (graph s A) P Q (sat s p) (sat s q) hp hq i l)

  pub by-au : (sat s (au A p q) i ≡ true) ↔ AU (Leads s A) P Q i
  by-au = along (sat-au s A p q i) (AU-iff (graph s A) P Q (sat s p) (sat s q) hp hq i l)

  pub by-er : (sat s (er A p q) i ≡ true) ↔ ER (Leads s A) P Q i
  by-er = along (sat-er s A p q i l) (ER-iff (graph s A) P Q (sat s p) (sat s q) (unsat s p) (unsat s q) hp hq (unsat-is s p) (unsat-is s q) i l)

  pub by-ar : (sat s (ar A p q) i ≡ true) ↔ AR (Leads s A) P Q i
  by-ar = along (sat-ar s A p q i l) (AR-iff (graph s A) P Q (sat s p) (sat s q) (unsat s p) (unsat s q) hp hq (unsat-is s p) (unsat-is s q) i l)

-- The evaluator agrees with the meaning, at each node of each snapshot.
pub sat-iff : (s : Snapshot) (φ : Form) (i : ℕ) → i < s.n → (sat s φ i ≡ true) ↔ Holds s φ i
unfolding Holds
sat-iff s tru i l = (λ e. tt, λ h. sat-tru s i l)
sat-iff s fls i l = (λ e. true-and-false (sat s fls i) e (sat-fls s i l), λ h. absurd h)
sat-iff s (lit k) i l = along (sat-lit s k i l) Iff.rfl
sat-iff s (nlit k) i l = along (sat-nlit s k i l) (not-says (s.on k i) Iff.rfl)
sat-iff s (and p q) i l = along (sat-and s p q i l) (and-says (sat s p i) (sat s q i) (sat-iff s p i l) (sat-iff s q i l))
sat-iff s (or p q) i l = along (sat-or s p q i l) (or-says (sat s p i) (sat s q i) (sat-iff s p i l) (sat-iff s q i l))
sat-iff s (ex A p) i l = along (sat_ex s A p i l) (EX-iff (graph s A) (Holds s p) (sat s p) (sat-iff s p) i)
sat-iff s (ax A p) i l = along (sat-ax s A p i l) (AX-iff (graph s A) (Holds s p) (sat s p) (sat-iff s p) i)
sat-iff s (eu A p q) i l = by-eu s A (Holds s p) (Holds s q) p q (sat-iff s p) (sat-iff s q) i l
sat-iff s (au A p q) i l = by-au s A (Holds s p) (Holds s q) p q (sat-iff s p) (sat-iff s q) i l
sat-iff s (er A p q) i l = by-er s A (Holds s p) (Holds s q) p q (sat-iff s p) (sat-iff s q) i l
sat-iff s (ar A p q) i l = by-ar s A (Holds s p) (Holds s q) p q (sat-iff s p) (sat-iff s q) i l

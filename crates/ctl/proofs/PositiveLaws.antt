-- The positive form keeps a formula's meaning, at each node of each snapshot. Assumes nothing.
use Prim.Native.Nat.{ℕ, zero, suc, ◌<◌}
use mathlib.Core.Path.{◌≡◌, refl, sym, ap, ◌∙◌}
use mathlib.Core.Logic.Iff
use mathlib.Core.Logic.{◌↔◌}
use mathlib.Core.Bool.{Bool, true, false, not, ◌||◌, not-not}
use Rattle.ctl.specs.Formula.{Form}
use Rattle.ctl.specs.Raw.{Raw}
use Rattle.ctl.specs.Positive.{signed, positive}
use Rattle.ctl.specs.Snapshot.{Snapshot}
use Rattle.ctl.specs.Meaning.{Holds, HoldsRaw}
use Rattle.ctl.specs.Evaluator.{look, rounds, round_eu, round_au, leads, sat}
use Rattle.ctl.proofs.BoolLaws.{true-and-false, not-and, along, not-says, and-says, or-says, imp-says}
use Rattle.ctl.proofs.Fixpoint.{table_same}
use Rattle.ctl.proofs.NextLaws.{each_next-same, not-some_next}
use Rattle.ctl.proofs.Operators.{EX-iff, AX-iff}
use Rattle.ctl.proofs.EvaluatorLaws.{graph, sat-tru, sat-fls, sat-lit, sat-nlit, sat-and, sat-or, sat_ex, sat-ax, sat-eu, sat-au, sat-er, sat-ar, unsat, unsat-is, sat-iff, by-eu, by-au, by-er, by-ar}

-- rounds of steps that agree
rounds-same : (n : ℕ) (F G : (ℕ → Bool) → ℕ → Bool) → ((x : ℕ → Bool) (i : ℕ) → i < n → F x i ≡ G x i) → (k : ℕ) → rounds n F k ≡ rounds n G k
unfolding rounds
rounds-same n F G h zero = refl
rounds-same n F G h (suc k) = rw (rounds-same n F G h k) (table_same n (F (look (rounds n G k))) (G (look (rounds n G k))) (h (look (rounds n G k))))

module _ (s : Snapshot) where
  -- two formulas that hold at opposite nodes
  abbrev Opposite : Form → Form → Type 0
  Opposite p̄ p = (i : ℕ) → i < s.n → sat s p̄ i ≡ not (sat s p i)

  swap : (p̄ p : Form) → Opposite p̄ p → Opposite p p̄
  swap p̄ p h i l = rw (h i l, not-not (sat s p i))

  opp-tru : Opposite Form.tru Form.fls
  opp-tru i l = rw (sat-tru s i l, sat-fls s i l)

  opp-lit : (k : ℕ) → Opposite (Form.nlit k) (Form.lit k)
  opp-lit k i l = rw (sat-nlit s k i l, sat-lit s k i l)

  module _ (p p̄ : Form) (hp : Opposite p̄ p) where
    opp-ex : (A : ℕ) → Opposite (Form.ax A p̄) (Form.ex A p)
    opp-ex A i l = rw (sat-ax s A p̄ i l, sat_ex s A p i l, not-some_next s.n (leads s A) (sat s p) i)
        (each_next-same s.n (leads s A) (sat s p̄) (λ j. not (sat s p j)) i hp)

    module _ (q q̄ : Form) (hq : Opposite q̄ q) where
      opp-and : Opposite (Form.or p̄ q̄) (Form.and p q)
      opp-and i l = rw (sat-or s p̄ q̄ i l, sat-and s p q i l, hp i l, hq i l, not-and (sat s p i) (sat s q i))

      un-p : (i : ℕ) → i < s.n → unsat s p̄ i ≡ sat s p i
      un-p i l = rw (unsat-is s p̄ i l, hp i l, not-not (sat s p i))

      un-q : (i : ℕ) → i < s.n → unsat s q̄ i ≡ sat s q i
      un-q i l = rw (unsat-is s q̄ i l, hq i l, not-not (sat s q i))

      opp-eu : (A : ℕ) → Opposite (Form.ar A p̄ q̄) (Form.eu A p q)
      opp-eu A i l = sat-ar s A p̄ q̄ i l ∙ ap not (ap (λ t. look t i)
          (rounds-same s.n (round_eu s.n (leads s A) (unsat s p̄) (unsat s q̄)) (round_eu s.n (leads s A) (sat s p) (sat s q))
          (λ x j h. rw (un-p j h, un-q j h)) s.n) ∙ sym (sat-eu s A p q i))

      opp-au : (A : ℕ) → Opposite (Form.er A p̄ q̄) (Form.au A p q)
      opp-au A i l = sat-er s A p̄ q̄ i l ∙ ap not (ap (λ t. look t i)
          (rounds-same s.n (round_au s.n (leads s A) (unsat s p̄) (unsat s q̄)) (round_au s.n (leads s A) (sat s p) (sat s q))
          (λ x j h. rw (un-p j h, un-q j h)) s.n) ∙ sym (sat-au s A p q i))

  -- the two signs of a formula
  pub opposite-signs : (r : Raw) → Opposite (signed false r) (signed true r)
  unfolding signed
  opposite-signs Raw.zero = opp-tru
  opposite-signs Raw.one = swap Form.tru Form.fls opp-tru
  opposite-signs (Raw.sym k) = opp-lit k
  opposite-signs (Raw.neg p) = swap (signed false p) (signed true p) (opposite-signs p)
  opposite-signs (Raw.and p q) = opp-and (signed true p) (signed false p) (opposite-signs p) (signed true q) (signed false q) (opposite-signs q)
  opposite-signs (Raw.or p q) =
      swap (Form.or (signed true p) (signed true q)) (Form.and (signed false p) (signed false q))
      (opp-and (signed false p) (signed true p) (swap (signed false p) (signed true p) (opposite-signs p))
      (signed false q) (signed true q) (swap (signed false q) (signed true q) (opposite-signs q)))
  opposite-signs (Raw.imp p q) =
      swap (Form.or (signed false p) (signed true q)) (Form.and (signed true p) (signed false q))
      (opp-and (signed true p) (signed false p) (opposite-signs p) (signed false q) (signed true q) (swap (signed false q) (signed true q) (opposite-signs q)))
  opposite-signs (Raw.ex A p) = opp-ex (signed true p) (signed false p) (opposite-signs p) A
  opposite-signs (Raw.ax A p) =
      swap (Form.ax A (signed true p)) (Form.ex A (signed false p)) (opp-ex (signed false p) (signed true p) (swap (signed false p) (signed true p) (opposite-signs p)) A)
  opposite-signs (Raw.ef A q) = opp-eu Form.tru Form.fls (swap Form.tru Form.fls opp-tru) (signed true q) (signed false q) (opposite-signs q) A
  opposite-signs (Raw.af A q) = opp-au Form.tru Form.fls (swap Form.tru Form.fls opp-tru) (signed true q) (signed false q) (opposite-signs q) A
  opposite-signs (Raw.eg A q) =
      swap (Form.er A Form.fls (signed true q)) (Form.au A Form.tru (signed false q))
      (opp-au Form.tru Form.fls (swap Form.tru Form.fls opp-tru) (signed false q) (signed true q) (swap (signed false q) (signed true q) (opposite-signs q)) A)
  opposite-signs (Raw.ag A q) =
      swap (Form.ar A Form.fls (signed true q)) (Form.eu A Form.tru (signed false q))
      (opp-eu Form.tru Form.fls (swap Form.tru Form.fls opp-tru) (signed false q) (signed true q) (swap (signed false q) (signed true q) (opposite-signs q)) A)
  opposite-signs (Raw.eu A p q) = opp-eu (signed true p) (signed false p) (opposite-signs p) (signed true q) (signed false q) (opposite-signs q) A
  opposite-signs (Raw.au A p q) = opp-au (signed true p) (signed false p) (opposite-signs p) (signed true q) (signed false q) (opposite-signs q) A
  opposite-signs (Raw.er A p q) =
      swap (Form.er A (signed true p) (signed true q)) (Form.au A (signed false p) (signed false q))
      (opp-au (signed false p) (signed true p) (swap (signed false p) (signed true p) (opposite-signs p))
      (signed false q) (signed true q) (swap (signed false q) (signed true q) (opposite-signs q)) A)
  opposite-signs (Raw.ar A p q) =
      swap (Form.ar A (signed true p) (signed true q)) (Form.eu A (signed false p) (signed false q))
      (opp-eu (signed false p) (signed true p) (swap (signed false p) (signed true p) (opposite-signs p))
      (signed false q) (signed true q) (swap (signed false q) (signed true q) (opposite-signs q)) A)

  -- ---- the evaluator on the positive form agrees with the meaning of the formula as written
  tru-iff : (i : ℕ) → i < s.n → (sat s Form.tru i ≡ true) ↔ Unit {0}
  tru-iff i l = (λ e. tt, λ h. sat-tru s i l)

  fls-iff : (i : ℕ) → i < s.n → (sat s Form.fls i ≡ true) ↔ ⊥
  fls-iff i l = (λ e. true-and-false (sat s Form.fls i) e (sat-fls s i l), λ h. absurd h)

  pub raw-sat : (r : Raw) (i : ℕ) → i < s.n → (sat s (positive r) i ≡ true) ↔ HoldsRaw s r i
  unfolding signed HoldsRaw
  raw-sat Raw.zero i l = fls-iff i l
  raw-sat Raw.one i l = tru-iff i l
  raw-sat (Raw.sym k) i l = along (sat-lit s k i l) Iff.rfl
  raw-sat (Raw.neg p) i l = along (opposite-signs p i l) (not-says (sat s (signed true p) i) (raw-sat p i l))
  raw-sat (Raw.and p q) i l = along (sat-and s (signed true p) (signed true q) i l) (and-says (sat s (signed true p) i) (sat s (signed true q) i) (raw-sat p i l) (raw-sat q i l))
  raw-sat (Raw.or p q) i l = along (sat-or s (signed true p) (signed true q) i l) (or-says (sat s (signed true p) i) (sat s (signed true q) i) (raw-sat p i l) (raw-sat q i l))
  raw-sat (Raw.imp p q) i l =
      along (sat-or s (signed false p) (signed true q) i l ∙ ap (λ b. b || sat s (signed true q) i) (opposite-signs p i l))
      (imp-says (sat s (signed true p) i) (sat s (signed true q) i) (raw-sat p i l) (raw-sat q i l))
  raw-sat (Raw.ex A p) i l = along (sat_ex s A (signed true p) i l) (EX-iff (graph s A) (HoldsRaw s p) (sat s (signed true p)) (raw-sat p) i)
  raw-sat (Raw.ax A p) i l = along (sat-ax s A (signed true p) i l) (AX-iff (graph s A) (HoldsRaw s p) (sat s (signed true p)) (raw-sat p) i)
  raw-sat (Raw.ef A q) i l = by-eu s A (λ j. Unit {0}) (HoldsRaw s q) Form.tru (signed true q) tru-iff (raw-sat q) i l
  raw-sat (Raw.af A q) i l = by-au s A (λ j. Unit {0}) (HoldsRaw s q) Form.tru (signed true q) tru-iff (raw-sat q) i l
  raw-sat (Raw.eg A q) i l = by-er s A (λ j. ⊥) (HoldsRaw s q) Form.fls (signed true q) fls-iff (raw-sat q) i l
  raw-sat (Raw.ag A q) i l = by-ar s A (λ j. ⊥) (HoldsRaw s q) Form.fls (signed true q) fls-iff (raw-sat q) i l
  raw-sat (Raw.eu A p q) i l = by-eu s A (HoldsRaw s p) (HoldsRaw s q) (signed true p) (signed true q) (raw-sat p) (raw-sat q) i l
  raw-sat (Raw.au A p q) i l = by-au s A (HoldsRaw s p) (HoldsRaw s q) (signed true p) (signed true q) (raw-sat p) (raw-sat q) i l
  raw-sat (Raw.er A p q) i l = by-er s A (HoldsRaw s p) (HoldsRaw s q) (signed true p) (signed true q) (raw-sat p) (raw-sat q) i l
  raw-sat (Raw.ar A p q) i l = by-ar s A (HoldsRaw s p) (HoldsRaw s q) (signed true p) (signed true q) (raw-sat p) (raw-sat q) i l

-- The positive form of a formula holds where the formula does.
pub positive-iff : (s : Snapshot) (r : Raw) (i : ℕ) → i < s.n → HoldsRaw s r i ↔ Holds s (positive r) i
positive-iff s r i l = (λ h. (sat-iff s (positive r) i l).0 ((raw-sat s r i l).1 h), λ h. (raw-sat s r i l).0 ((sat-iff s (positive r) i l).1 h))

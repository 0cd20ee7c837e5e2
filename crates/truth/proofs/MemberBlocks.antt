-- The blocks of a member: what is written step by step is where it is true. Assumes nothing.
use mathlib.Core.Path.{◌≡◌, refl, sym, ap, ap₂, ◌∙◌, subst}
use mathlib.Core.Bool.{Bool, true, false, not, ◌&&◌, ◌||◌, and_comm, and-true, or_comm, or-false}
use mathlib.Core.List.{List}
use Prim.Native.Nat.{ℕ, zero, suc, ◌≤◌, ◌<◌}
use native.Mathlib.Omega.{arith}
use lib.Dec.{eqb}
use lib.ListN.{length}
use borrow.Author.Tests.{eqb-false, eqb-true, ne_eqb}
use Rattle.ctl.specs.Types.{in_type}
use Rattle.truth.specs.Blocks.{BlockIs, Redone, expanded}
use Rattle.truth.specs.Tables.{Leans, Table, arg_at, left_at, right_at, tag_at}
use Rattle.truth.specs.Truths.{Stepped, nexts, place_of, plain, true_at}
use Rattle.truth.proofs.Redoing.{redone-as, redone-below, redone-then}
use Rattle.truth.proofs.TruthLaws.{truth-0, truth-1, truth-10, truth-2, truth-3, truth-4, truth-5, truth-6, truth-7, truth-9}

operands-before : {ms : List ℕ} → Table ms → {i : ℕ} → i < length ms → 4 ≤ tag_at ms i → {p q : ℕ} → p ≡ left_at ms i → q ≡ right_at ms i → (p < i) × (q < i)
operands-before t h g ep eq = let o = t.operands _ h g in let x = o.0 in let y = o.1 in (omega arith, omega arith)

module _ {ms ln : List ℕ} (t : Table ms) (l : Leans ms ln) {w i : ℕ} (h : i < length ms) {d ws : List ℕ} where
  -- ---- members without operands; g is the tag of member i

  pub leaf-whole : (g : ℕ) → g ≡ tag_at ms i → g < 2 → Redone w i (λ u. eqb g 0) d ws → Redone w i (true_at ms ln i) d ws
  leaf-whole zero e k s = redone-as (λ u. truth-0 t l i h u (sym e)) s
  leaf-whole (suc zero) e k s = redone-as (λ u. truth-1 t l i h u (sym e)) s
  leaf-whole (suc (suc g)) e k s = absurd (omega arith)

  module _ {g a : ℕ} (e : g ≡ tag_at ms i) (k : 2 ≤ g) (o : a ≡ arg_at ms i) (s : Redone w i (λ u. eqb g 0) d ws) {r : ℕ} (q : r ≡ place_of ms ln 2 a 0) {vs : List ℕ}
      (f : (P : ℕ → Bool) → BlockIs P w i ws → Redone w i (λ u. P u || in_type u r) ws vs) where
    leaf-place : Redone w i (λ u. in_type u (place_of ms ln 2 (arg_at ms i) 0)) d vs
    leaf-place = redone-as (λ u. ap (λ b. b || in_type u r) (ne_eqb g 0 (omega arith)) ∙ ap (in_type u) (q ∙ ap (λ b. place_of ms ln 2 b 0) o)) (redone-then s (f (λ u. eqb g 0) s.block))

    pub leaf-lit : g ≡ 2 → Redone w i (true_at ms ln i) d vs
    leaf-lit j = redone-as (λ u. truth-2 t l i h u (omega arith)) leaf-place

    pub leaf-nlit : g ≡ 3 → {us : List ℕ} → ((P : ℕ → Bool) → BlockIs P w i vs → Redone w i (λ u. not (P u)) vs us) → Redone w i (true_at ms ln i) d us
    leaf-nlit j n = redone-as (λ u. truth-3 t l i h u (omega arith)) (redone-then leaf-place (n _ leaf-place.block))

  -- ---- members with operands

  -- and, or
  pub step-pair : (g : ℕ) → g ≡ tag_at ms i → 4 ≤ g → g < 6 → Redone w i (λ u. eqb g 5) d ws → Stepped ms ln w i (eqb g 5) d ws
  step-pair g e a k s = record { test = λ u. eqb g 5; redone = s; is = λ u. go (eqb g 5) refl u }
    where
      go : (b : Bool) → eqb g 5 ≡ b → (u : ℕ) → expanded b b (true_at ms ln (left_at ms i) u) (true_at ms ln (right_at ms i) u) ≡ true_at ms ln i u
      go true q u = let f = eqb-true g 5 q in ap (λ x. true_at ms ln (right_at ms i) u || x) (and-true _) ∙ or_comm _ (true_at ms ln (left_at ms i) u) ∙ truth-5 t l i h u (omega arith)
      go false q u = let f = eqb-false g 5 q in ap (λ x. true_at ms ln (right_at ms i) u && x) (or-false _) ∙ and_comm _ (true_at ms ln (left_at ms i) u) ∙ truth-4 t l i h u (omega arith)

  -- EX, AX
  pub next-pair : (g : ℕ) → g ≡ tag_at ms i → 6 ≤ g → g < 8 → {b : ℕ} → b ≡ left_at ms i → Redone w i (nexts ms ln (eqb g 7) (arg_at ms i) b) d ws → Redone w i (true_at ms ln i) d ws
  next-pair g e a k o s = redone-as (λ u. ap (λ j. nexts ms ln (eqb g 7) (arg_at ms i) j u) o ∙ go (eqb g 7) refl u) s
    where
      go : (b : Bool) → eqb g 7 ≡ b → (u : ℕ) → nexts ms ln b (arg_at ms i) (left_at ms i) u ≡ true_at ms ln i u
      go true q u = let f = eqb-true g 7 q in truth-7 t l i h u (omega arith)
      go false q u = let f = eqb-false g 7 q in truth-6 t l i h u (omega arith)

  -- AU, ER
  module _ {b : ℕ} {vs : List ℕ} where
    pub step-au : tag_at ms i ≡ 9 → b ≡ plain ms 0 → Redone w i (nexts ms ln false (arg_at ms i) b) d ws
        → ((P : ℕ → Bool) → BlockIs P w i ws → Redone w i (λ u. P u && nexts ms ln true (arg_at ms i) i u) ws vs) → Stepped ms ln w i true d vs
    step-au g e s f =
        let k = subst (λ (j : ℕ). Redone w i (nexts ms ln false (arg_at ms i) j) d ws) e s in
        record { test = _; redone = redone-then k (f _ k.block); is = λ u. truth-9 t l i h u g }

    pub step-er : tag_at ms i ≡ 10 → b ≡ plain ms 1 → Redone w i (nexts ms ln true (arg_at ms i) b) d ws
        → ((P : ℕ → Bool) → BlockIs P w i ws → Redone w i (λ u. P u || nexts ms ln false (arg_at ms i) i u) ws vs) → Stepped ms ln w i false d vs
    step-er g e s f =
        let k = subst (λ (j : ℕ). Redone w i (nexts ms ln true (arg_at ms i) j) d ws) e s in
        record { test = _; redone = redone-then k (f _ k.block); is = λ u. truth-10 t l i h u g }

  -- with the blocks p and q of the operands
  pub step-expand : {until : Bool} → Stepped ms ln w i until d ws → ((j : ℕ) → j < i → BlockIs (true_at ms ln j) w j d) → 4 ≤ tag_at ms i → {p q : ℕ} → p ≡ left_at ms i → q ≡ right_at ms i → {vs : List ℕ}
      → ((X P Q : ℕ → Bool) → BlockIs X w i ws → BlockIs P w p ws → BlockIs Q w q ws → Redone w i (λ u. expanded until (X u) (P u) (Q u)) ws vs) → Redone w i (true_at ms ln i) d vs
  step-expand {until} k below g {p} {q} ep eq f =
      let o = operands-before t h g ep eq in
      let a = o.0 in
      let b = o.1 in
      let s = k.redone in
      redone-as (λ u. ap₂ (λ v z. expanded until (k.test u) (true_at ms ln v u) (true_at ms ln z u)) ep eq ∙ k.is u)
      (redone-then s (f k.test (true_at ms ln p) (true_at ms ln q) s.block (redone-below s a (below p a)) (redone-below s b (below q b))))

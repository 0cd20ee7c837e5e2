-- A formula's canonical print, read under declarations that know its symbols, gives the formula back. Assumes nothing.
use mathlib.Core.Path.{◌≡◌, refl, sym, ap, ap₂, ◌∙◌}
use mathlib.Core.Bool.{true, false, ◌||◌}
use mathlib.Core.List.Memᴰ
use mathlib.Core.List.{List, [], ◌∷◌, map}
use Prim.Native.Nat.{ℕ, suc, ◌+◌, ◌-◌, ◌%◌, ◌^◌, ◌≤◌, ◌<◌}
use native.Mathlib.Nat.{zero-add, zero-div}
use native.Mathlib.Decide.{dec_lt}
use native.Mathlib.Omega.{arith}
use Rattle.spelling.specs.Spelling.{word, entry_in}
use lib.Dec.{eqb}
use borrow.Author.Tests.{le-ltb, lt-ltb, le-leb, ne_eqb}
use Rattle.ctl.specs.Formula.{Form, tru, fls, lit, nlit, and, or, ex, ax, eu, au, er, ar}
use Rattle.ctl.specs.Lists.{◌∈◌, any_of, elem}
use Rattle.ctl.specs.Modes.{has_mode, modes, all_modes}
use Rattle.ctl.specs.Print.{print}
use Rattle.ctl.specs.Positive.{signed}
use Rattle.ctl.specs.Alphabet.{Alphabet, Over}
use Rattle.ctl.proofs.BoolLaws.{true-T}
use Rattle.ctl.proofs.ListLaws.{below_in, elem_in, elem-keep, Ascending, ascending-count, ascending-keep}
use Rattle.ctl.proofs.ModeLaws.{modes-in, mode-lt}
use Rattle.ctl.proofs.NumberLaws.{same-places, window, window-only}
use Rattle.syntax.specs.Raw.{Raw}
use Rattle.token.specs.declared.Modal.{Modal}
use Rattle.token.specs.declared.Modal.TheVariants.{Ex, Ax}
use Rattle.operators.specs.declared.kinds.Binary.{Binary}
use Rattle.operators.specs.declared.kinds.Binary.TheVariants.{Eu, Au, Er, Ar}
use Rattle.operators.specs.Operators.{modal as modalRaw, binary as pathRaw}
use Rattle.syntax.specs.Parse.{good, line_at}
use Rattle.grammar.specs.Grammar.{Tree, letter, neg, infixed, modal, path, is_field, mode_number, holds_mode, mode_set, resolve, some_no_field, symbol_wrong, twice, empty_or_twice, braces_wrong, low_of}
use Rattle.grammar.specs.Canonical.{as_raw, entry_for, FieldsKnown, Known}
use Rattle.grammar.proofs.CanonicalLaws.{mode_of, modes_of, tree_of, print-derived}
use Rattle.grammar.proofs.GrammarLaws.{line-parses}

-- the positive form of a positive formula is itself
pub positive-same : (φ : Form) → signed true (as_raw φ) ≡ φ
unfolding signed
positive-same tru = refl
positive-same fls = refl
positive-same (lit k) = refl
positive-same (nlit k) = refl
positive-same (and p q) = ap₂ and (positive-same p) (positive-same q)
positive-same (or p q) = ap₂ or (positive-same p) (positive-same q)
positive-same (ex A p) = ap (ex A) (positive-same p)
positive-same (ax A p) = ap (ax A) (positive-same p)
positive-same (eu A p q) = ap₂ (eu A) (positive-same p) (positive-same q)
positive-same (au A p q) = ap₂ (au A) (positive-same p) (positive-same q)
positive-same (er A p q) = ap₂ (er A) (positive-same p) (positive-same q)
positive-same (ar A p q) = ap₂ (ar A) (positive-same p) (positive-same q)

-- ---- sets of modes
modes-elem : (A i : ℕ) → i < 16 → elem i (modes A) ≡ has_mode A i
unfolding modes
modes-elem A i h = elem-keep (has_mode A) all_modes i ∙ (rw (true-T (elem i all_modes) (elem_in (below_in h))) refl)

modes-some : (A : ℕ) → A < 2 ^ 16 → 0 < A → modes A ≡ [] → ⊥
unfolding elem
modes-some A h g e =
    let z : A ≡ 0 = same-places 16 A 0 h (omega arith) (λ k l. sym (modes-elem A k l) ∙ ap (elem k) e ∙ (rw (zero-div (2 ^ k)) refl)) in
    omega arith

modes-ascending : (A : ℕ) → Ascending 0 (modes A)
unfolding modes
modes-ascending A = ascending-keep (has_mode A) 0 all_modes (ascending-count 0 16)

module _ (at : ℕ → List ℕ) (decl : List ℕ) where
  -- a mode's field is declared: what the declarations make of the mode as typed
  record Right (m : ℕ) : Type 0 where
    declared : is_field decl (mode_of at m) ≡ true
    number : mode_number decl (mode_of at m) ≡ m

  mode-right : (m : ℕ) → m < 16 → entry_for at decl (m % 8) ≡ 9 + m % 8 → Right m
  mode-right m h e = go (dec_lt m 8)
    where
      go : Dec (m < 8) → Right m
      go (yes l) =
          let i : m % 8 ≡ m = omega arith in
          let e' : entry_in decl (word (at m)) ≡ 9 + m = rw i at e in
          record { declared = rw (lt-ltb m 8 l, e', le-leb 9 (9 + m) (omega arith), le-leb (9 + m) 16 (omega arith)) refl; number = rw (lt-ltb m 8 l, e') (omega arith) }
      go (no l) =
          let l' : 8 ≤ m = omega (arith, l) in
          let i : m % 8 ≡ m - 8 = omega arith in
          let e' : entry_in decl (word (at (m - 8))) ≡ 9 + (m - 8) = rw i at e in
          record { declared = rw (le-ltb m 8 l', e', le-leb 9 (9 + (m - 8)) (omega arith), le-leb (9 + (m - 8)) 16 (omega arith)) refl; number = rw (le-ltb m 8 l', e') (omega arith) }

  module _ (i : ℕ) where
    holds_elem : (ms : List ℕ) → ((m : ℕ) → m ∈ ms → Right m) → holds_mode decl (map (λ m. mode_of at m) ms) i ≡ elem i ms
    unfolding elem
    holds_elem [] h = refl
    holds_elem (m ∷ ms) h =
        let r = h m (Memᴰ.head refl) in
        rw (r.declared, r.number) (ap (λ x. eqb i m || x) (holds_elem ms (λ j k. h j (Memᴰ.tail k))))

  all-fields : (ms : List ℕ) → ((m : ℕ) → m ∈ ms → Right m) → some_no_field decl (map (λ m. mode_of at m) ms) ≡ false
  all-fields [] h = refl
  all-fields (m ∷ ms) h =
      let r = h m (Memᴰ.head refl) in
      rw r.declared (all-fields ms (λ j k. h j (Memᴰ.tail k)))

  none_below : (x a : ℕ) (ms : List ℕ) → x < a → Ascending a ms → ((m : ℕ) → m ∈ ms → Right m) → any_of (λ n. eqb (mode_number decl n) x) (map (λ m. mode_of at m) ms) ≡ false
  none_below x a [] l s h = refl
  none_below x a (m ∷ ms) l s h =
      let r = h m (Memᴰ.head refl) in
      let g : a ≤ m = s.0 in
      rw (r.number, ne_eqb m x (λ e. omega arith)) (none_below x (suc m) ms (omega arith) s.1 (λ j k. h j (Memᴰ.tail k)))

  none-twice : (a : ℕ) (ms : List ℕ) → Ascending a ms → ((m : ℕ) → m ∈ ms → Right m) → twice decl (map (λ m. mode_of at m) ms) ≡ false
  none-twice a [] s h = refl
  none-twice a (m ∷ ms) s h =
      let r = h m (Memᴰ.head refl) in
      let t : (j : ℕ) → j ∈ ms → Right j = λ j k. h j (Memᴰ.tail k) in
      rw (r.number, none_below m (suc m) ms (omega arith) s.1 t) (none-twice (suc m) ms s.1 t)

  not-empty : (ms : List ℕ) → (ms ≡ [] → ⊥) → twice decl (map (λ m. mode_of at m) ms) ≡ false → empty_or_twice decl (map (λ m. mode_of at m) ms) ≡ false
  not-empty [] h e = absurd (h refl)
  not-empty (m ∷ ms) h e = e

  -- braces, read under the declarations
  record BracesRight (A : ℕ) : Type 0 where
    set : mode_set decl (modes_of at A) ≡ A
    fields : some_no_field decl (modes_of at A) ≡ false
    once : empty_or_twice decl (modes_of at A) ≡ false

  braces-right : (A : ℕ) → A < 2 ^ 16 → FieldsKnown at decl A → BracesRight A
  unfolding modes_of mode_set window
  braces-right A h k =
      record {
        set = sym (window-only (λ i. holds_mode decl (map (λ m. mode_of at m) (modes A)) i) 0 16 A h (λ i l. sym (modes-elem A i l) ∙ sym (rw (zero-add i) (holds_elem i (modes A) right))));
        fields = all-fields (modes A) right;
        once = not-empty (modes A) (modes-some A h k.0) (none-twice 0 (modes A) (modes-ascending A) right);
      }
    where
      right : (m : ℕ) → m ∈ modes A → Right m
      right m i = mode-right m (mode-lt (modes-in A i).0) (k.1 m i)

  -- ---- formulas
  record TreeRight (t : Tree) (p : Raw) : Type 0 where
    is : resolve decl t ≡ p
    symbols : symbol_wrong decl t ≡ false
    braces : braces_wrong decl t ≡ false

  letter-right : (k : ℕ) → k < 8 → entry_for at decl k ≡ 1 + k → TreeRight (letter (word (at k))) (Raw.sym k)
  letter-right k h e =
      let z : 1 + k - 1 ≡ k = omega arith in
      record { is = rw (e, z) refl; symbols = rw (e, le-leb 1 (1 + k) (omega arith), le-leb (1 + k) 8 (omega arith)) refl; braces = refl }

  neg_right : {t : Tree} {p : Raw} → TreeRight t p → TreeRight (neg t) (Raw.neg p)
  neg_right h = record { is = ap Raw.neg h.is; symbols = h.symbols; braces = h.braces }

  and_right : {t u : Tree} {p q : Raw} → TreeRight t p → TreeRight u q → TreeRight (infixed 2 t u) (Raw.and p q)
  and_right h g = record { is = ap₂ Raw.and h.is g.is; symbols = rw h.symbols g.symbols; braces = rw h.braces g.braces }

  or_right : {t u : Tree} {p q : Raw} → TreeRight t p → TreeRight u q → TreeRight (infixed 1 t u) (Raw.or p q)
  or_right h g = record { is = ap₂ Raw.or h.is g.is; symbols = rw h.symbols g.symbols; braces = rw h.braces g.braces }

  module _ (A : ℕ) (b : BracesRight A) where
    modal-right : (m : Modal) {t : Tree} {p : Raw} → TreeRight t p → TreeRight (modal m (modes_of at A) t) (modalRaw m A p)
    modal-right m h = record { is = ap₂ (modalRaw m) b.set h.is; symbols = rw b.fields h.symbols; braces = rw b.once h.braces }

    path-right : (c : Binary) {t u : Tree} {p q : Raw} → TreeRight t p → TreeRight u q → TreeRight (path c (modes_of at A) t u) (pathRaw c A p q)
    path-right c {t} {u} {p} {q} h g = record { is = rw (b.set, h.is, g.is) refl; symbols = rw (b.fields, h.symbols) g.symbols; braces = rw (b.once, h.braces) g.braces }

  tree-right : (count : ℕ) → count ≤ 8 → (φ : Form) → Over count φ → Known at decl φ → TreeRight (tree_of at φ) (as_raw φ)
  tree-right count c tru h k = record { is = refl; symbols = refl; braces = refl }
  tree-right count c fls h k = record { is = refl; symbols = refl; braces = refl }
  tree-right count c (lit j) h k = letter-right j (omega arith) k
  tree-right count c (nlit j) h k = neg_right (letter-right j (omega arith) k)
  tree-right count c (and p q) h k = and_right (tree-right count c p h.0 k.0) (tree-right count c q h.1 k.1)
  tree-right count c (or p q) h k = or_right (tree-right count c p h.0 k.0) (tree-right count c q h.1 k.1)
  tree-right count c (ex A p) h k = modal-right A (braces-right A h.0.0 k.0) Ex (tree-right count c p h.1 k.1)
  tree-right count c (ax A p) h k = modal-right A (braces-right A h.0.0 k.0) Ax (tree-right count c p h.1 k.1)
  tree-right count c (eu A p q) h k = path-right A (braces-right A h.0.0 k.0) Eu (tree-right count c p h.1 k.1) (tree-right count c q h.2 k.2)
  tree-right count c (au A p q) h k = path-right A (braces-right A h.0.0 k.0) Au (tree-right count c p h.1 k.1) (tree-right count c q h.2 k.2)
  tree-right count c (er A p q) h k = path-right A (braces-right A h.0.0 k.0) Er (tree-right count c p h.1 k.1) (tree-right count c q h.2 k.2)
  tree-right count c (ar A p q) h k = path-right A (braces-right A h.0.0 k.0) Ar (tree-right count c p h.1 k.1) (tree-right count c q h.2 k.2)

-- the canonical print of a formula over declared symbols is read as that formula, and nothing in it is refused
pub print-parses : (at : ℕ → List ℕ) (count : ℕ) (decl : List ℕ) (φ : Form) → Alphabet at count → Over count φ → Known at decl φ → (e : ℕ) × (line_at (print at φ) decl 0 ≡ good (as_raw φ) e 9)
print-parses at count decl φ alpha h k =
    let r = line-parses (print at φ) decl (tree_of at φ) (print-derived at count alpha φ h) in
    let g = tree-right at decl count alpha.few φ h k in
    let x : low_of decl (tree_of at φ) ≡ 9 = rw (g.symbols, g.braces) refl in
    (r.0, rw (g.is, x) at r.1)

-- so its positive form is the formula itself
pub print-back : (at : ℕ → List ℕ) (count : ℕ) (decl : List ℕ) (φ : Form) → Alphabet at count → Over count φ → Known at decl φ → (p : Raw) × (e : ℕ) × (line_at (print at φ) decl 0 ≡ good p e 9) × (signed true p ≡ φ)
print-back at count decl φ alpha h k = let r = print-parses at count decl φ alpha h k in (as_raw φ, r.0, r.1, positive-same φ)

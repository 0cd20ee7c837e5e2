-- The formulas of a sheet that is not refused have only marks, names and values outside braces, and only fields in braces. Assumes nothing.
use mathlib.Core.Path.{◌≡◌, refl, sym, ◌∙◌, subst}
use mathlib.Core.Logic.{inl, inr}
use mathlib.Core.Bool.{Bool, true, false, not, ◌&&◌, ◌||◌}
use mathlib.Core.List.Memᴰ
use mathlib.Core.List.{List, [], ◌∷◌, map}
use Prim.Native.Nat.{ℕ, zero, suc, ◌-◌, ◌%◌, ◌^◌, ◌<◌}
use native.Mathlib.Nat.{zero-div}
use native.Mathlib.Decide.{dec_lt}
use native.Mathlib.Omega.{arith}
use lib.Dec.{T, eqb, eqb→eq, eqb_refl}
use lib.ListN.{length, length-map}
use borrow.Author.Tests.{not-false}
use Rattle.token.specs.declared.Modal.TheVariants.{Ex, Ax, Ef, Af, Eg, Ag}
use Rattle.token.specs.declared.Modal.{Modal}
use Rattle.operators.specs.declared.kinds.Binary.{Binary}
use Rattle.token.specs.Token.{pick}
use Rattle.operators.specs.declared.kinds.Binary.TheVariants.{Eu, Au, Er, Ar}
use Rattle.ctl.specs.Lists.{◌∈◌}
use Rattle.ctl.specs.Numbers.{has_bit}
use Rattle.ctl.specs.Modes.{modes, all_modes}
use Rattle.ctl.specs.Raw.{Raw}
use Rattle.ctl.specs.Alphabet.{Declared, DeclaredAll, UsesRaw, OverRaw}
use Rattle.ctl.proofs.BoolLaws.{T_true, and_0, and-1, and_in, true-and-false, T-cast, T-cast⁻}
use Rattle.ctl.proofs.ListLaws.{any-in, any_out, get_d-below}
use Rattle.ctl.proofs.NumberLaws.{number-place, number_lt}
use Rattle.ctl.proofs.ModeLaws.{modes-in, mode-lt}
use Rattle.ctl.proofs.UsesLaws.{uses-raw}
use Rattle.operators.specs.Operators.{modal as modalRaw, binary as pathRaw}
use Rattle.grammar.specs.Grammar.{Mode, forward, backward, Tree, zero as zeroTree, one, letter, neg, infixed, modal, path, entry_of, is_symbol, is_field, mode_number, holds_mode, mode_set, resolve, some_no_field, symbol_wrong, empty_or_twice, braces_wrong}
use Rattle.layout.proofs.UnlinesLaws.{or-none}
use Rattle.head.specs.Head.{spellings}
use Rattle.head.proofs.Spellings.{sheet-spellings}
use Rattle.sheet.specs.Refusal.{decls, read_refusal}
use Rattle.sheet.specs.Reading.{formulas}
use Rattle.sheet.specs.Symbols.{Proposition, Field, Fields, Kinded}
use Rattle.sheet.proofs.RefusalLaws.{right-kinds}
use Rattle.sheet.proofs.FormulaTrees.{formula-read}
use Rattle.sheet.proofs.KindLaws.{symbol-iff, field-iff}

-- ---- trees: what holds of each symbol and of each set of modes that is right holds of a formula in which none is wrong
module _ (S M : ℕ → Type 0) (decl : List ℕ) (sym-right : (k : ℕ) → is_symbol decl k ≡ true → S (entry_of decl k - 1))
    (set-right : (A : List Mode) → some_no_field decl A ≡ false → empty_or_twice decl A ≡ false → M (mode_set decl A)) where
  tree-uses : (t : Tree) → symbol_wrong decl t ≡ false → braces_wrong decl t ≡ false → UsesRaw S M (resolve decl t)
  tree-uses zeroTree e f = tt
  tree-uses one e f = tt
  tree-uses (letter k) e f = sym-right k (not-false (is_symbol decl k) e)
  tree-uses (neg t) e f = tree-uses t e f
  tree-uses (infixed l t u) e f =
      let r = or-none (symbol_wrong decl t) (symbol_wrong decl u) e in
      let q = or-none (braces_wrong decl t) (braces_wrong decl u) f in
      go (eqb l 0) (eqb l 1) (tree-uses t r.0 q.0, tree-uses u r.1 q.1)
    where
      go : (a b : Bool) → UsesRaw S M (resolve decl t) × UsesRaw S M (resolve decl u)
          → UsesRaw S M (pick a (Raw.imp (resolve decl t) (resolve decl u)) (pick b (Raw.or (resolve decl t) (resolve decl u)) (Raw.and (resolve decl t) (resolve decl u))))
      go true b x = x
      go false true x = x
      go false false x = x
  tree-uses (modal m A t) e f =
      let r = or-none (some_no_field decl A) (symbol_wrong decl t) e in
      let q = or-none (empty_or_twice decl A) (braces_wrong decl t) f in
      go m (set-right A r.0 q.0, tree-uses t r.1 q.1)
    where
      go : (m : Modal) → M (mode_set decl A) × UsesRaw S M (resolve decl t) → UsesRaw S M (modalRaw m (mode_set decl A) (resolve decl t))
      go Ex x = x
      go Ax x = x
      go Ef x = x
      go Af x = x
      go Eg x = x
      go Ag x = x
  tree-uses (path b A t u) e f =
      let r = or-none (some_no_field decl A || symbol_wrong decl t) (symbol_wrong decl u) e in
      let r' = or-none (some_no_field decl A) (symbol_wrong decl t) r.0 in
      let q = or-none (empty_or_twice decl A || braces_wrong decl t) (braces_wrong decl u) f in
      let q' = or-none (empty_or_twice decl A) (braces_wrong decl t) q.0 in
      go b (set-right A r'.0 q'.0, tree-uses t r'.1 q'.1, tree-uses u r.1 q.1)
    where
      go : (b : Binary) → M (mode_set decl A) × UsesRaw S M (resolve decl t) × UsesRaw S M (resolve decl u) → UsesRaw S M (pathRaw b (mode_set decl A) (resolve decl t) (resolve decl u))
      go Eu x = x
      go Au x = x
      go Er x = x
      go Ar x = x

-- ---- sets of modes

-- a set is that of the modes which braces hold
set-bit : (decl : List ℕ) (A : List Mode) (i : ℕ) → i < 16 → has_bit (mode_set decl A) i ≡ holds_mode decl A i
unfolding mode_set
set-bit decl A i h = number-place (map (λ i. holds_mode decl A i) all_modes) i ∙ get_d-below (λ i. holds_mode decl A i) false 16 i h

set-lt : (decl : List ℕ) (A : List Mode) → mode_set decl A < 2 ^ 16
unfolding mode_set
set-lt decl A = subst (λ n. mode_set decl A < 2 ^ n) (length-map all_modes (λ i. holds_mode decl A i)) (number_lt (map (λ i. holds_mode decl A i) all_modes))

bit-some : (x i : ℕ) → T (has_bit x i) → 0 < x
bit-some zero i h = absurd (rw (zero-div (2 ^ i)) at h)
bit-some (suc x) i h = omega arith

-- the modes of a set along fields are modes of declared symbols
pub fields-declared : (s : List ℕ) (A : ℕ) → Fields s A → DeclaredAll (length (spellings s)) A
fields-declared s A x = (x.sixteen, λ m i. go m (x.each m i).0 (mode-lt (modes-in A i).0) (dec_lt m 8))
  where
    go : (m : ℕ) → m % 8 < length (spellings s) → m < 16 → Dec (m < 8) → Declared (length (spellings s)) m
    go m h l (yes k) = inl (omega arith)
    go m h l (no k) = inr (omega arith, omega arith)

-- ---- a sheet that is not refused
module _ (s : List ℕ) (z : read_refusal s ≡ 0) where
  symbol-kind : (k : ℕ) → is_symbol (decls s) k ≡ true → Proposition s (entry_of (decls s) k - 1)
  symbol-kind k e =
      let r = (symbol-iff s (right-kinds s z) k).0 (T_true (is_symbol (decls s) k) e) in
      let i = r.3 in
      let q : r.0 ≡ entry_of (decls s) k - 1 = omega arith in
      subst (Proposition s) q r.2

  mode-field : (m : Mode) → T (is_field (decls s) m) → (mode_number (decls s) m < 16) × Field s (mode_number (decls s) m % 8)
  mode-field (forward k) t =
      let r = (field-iff s (right-kinds s z) k).0 t in
      let i = r.3 in
      let h = r.2.0 in
      let f = (sheet-spellings s).few in
      let q : r.0 ≡ mode_number (decls s) (forward k) % 8 = omega arith in
      (omega arith, subst (Field s) q r.2)
  mode-field (backward k) t =
      let r = (field-iff s (right-kinds s z) k).0 t in
      let i = r.3 in
      let h = r.2.0 in
      let f = (sheet-spellings s).few in
      let q : r.0 ≡ mode_number (decls s) (backward k) % 8 = omega arith in
      (omega arith, subst (Field s) q r.2)

  set-fields : (A : List Mode) → some_no_field (decls s) A ≡ false → empty_or_twice (decls s) A ≡ false → Fields s (mode_set (decls s) A)
  set-fields A e f = record { some = go A e f; sixteen = set-lt (decls s) A; each = each }
    where
      go : (A : List Mode) → some_no_field (decls s) A ≡ false → empty_or_twice (decls s) A ≡ false → 0 < mode_set (decls s) A
      go [] e f = absurd (true-and-false true refl f)
      go (m ∷ r) e f =
          let t = T_true (is_field (decls s) m) (not-false (is_field (decls s) m) (or-none (not (is_field (decls s) m)) (some_no_field (decls s) r) e).0) in
          let i = mode_number (decls s) m in
          let held = any-in (λ n. is_field (decls s) n && eqb i (mode_number (decls s) n)) {l = m ∷ r} (Memᴰ.head refl) (and_in (is_field (decls s) m) (eqb i i) t (eqb_refl i)) in
          bit-some (mode_set (decls s) (m ∷ r)) i (T-cast⁻ (set-bit (decls s) (m ∷ r) i (mode-field m t).0) held)

      each : (m : ℕ) → m ∈ modes (mode_set (decls s) A) → Field s (m % 8)
      each m k =
          let w = modes-in (mode_set (decls s) A) k in
          let r = any_out (λ n. is_field (decls s) n && eqb m (mode_number (decls s) n)) A (T-cast (set-bit (decls s) A m (mode-lt w.0)) w.1) in
          let n = r.0 in
          let t = and_0 (is_field (decls s) n) (eqb m (mode_number (decls s) n)) r.2 in
          let q : m ≡ mode_number (decls s) n = eqb→eq m (mode_number (decls s) n) (and-1 (is_field (decls s) n) (eqb m (mode_number (decls s) n)) r.2) in
          subst (λ j. Field s (j % 8)) (sym q) (mode-field n t).1

  -- every formula has only marks, names and values outside braces, and in braces only fields, some in each
  pub formulas-kinds : (p : Raw) → p ∈ formulas s → Kinded s p
  formulas-kinds p m =
      let r = formula-read s z p m in
      let x = r.2 in
      subst (Kinded s) (sym x.is) (tree-uses (Proposition s) (Fields s) (decls s) symbol-kind set-fields x.tree x.symbols-right x.braces-right)

  -- so all its symbols and fields are declared
  pub formulas-over : (p : Raw) → p ∈ formulas s → OverRaw (length (spellings s)) p
  formulas-over p m = uses-raw (λ k h. h.0) (fields-declared s) p (formulas-kinds p m)

-- The canonical print of each closure member of a sheet that is not refused is read, under the sheet's own declarations, as that member. Assumes nothing.
use mathlib.Core.Path.{◌≡◌, sym, ◌∙◌, subst}
use mathlib.Core.Logic.{◌⊎◌, inl, inr}
use mathlib.Core.List.Memᴰ
use mathlib.Core.List.{List}
use Prim.Native.Nat.{ℕ, suc, ◌+◌, ◌%◌, ◌^◌, ◌<◌}
use native.Mathlib.Omega.{arith}
use lib.ListN.{length, get_or}
use lib.Pow.{pow-lt, pow_pos}
use borrow.Author.Tests.{eq-eqb, ne_eqb}
use Rattle.ctl.specs.Lists.{◌∈◌}
use Rattle.ctl.specs.Formula.{Form}
use Rattle.ctl.specs.Modes.{modes}
use Rattle.ctl.specs.Positive.{positive}
use Rattle.ctl.specs.Print.{print}
use Rattle.ctl.specs.Alphabet.{Over}
use Rattle.ctl.proofs.ListLaws.{map-out}
use Rattle.ctl.proofs.ModeLaws.{modes-in, modes-one, mode-lt}
use Rattle.ctl.proofs.UsesLaws.{uses-all, uses-signed, closure-uses}
use Rattle.grammar.specs.Canonical.{as_raw, entry_for, FieldsKnown, Known}
use Rattle.grammar.proofs.RoundTrip.{positive-same, print-parses}
use Rattle.head.specs.Head.{spellings, kinds, place_of}
use Rattle.head.proofs.Entries.{sheet-entry}
use Rattle.sheet.specs.Refusal.{decls, read_refusal}
use Rattle.sheet.specs.Reading.{formulas, spell_of}
use Rattle.sheet.specs.ReadAs.{ReadAs}
use Rattle.sheet.specs.Symbols.{Proposition, Field, Fields, KindedForm}
use Rattle.sheet.proofs.Alphabet.{sheet-alphabet}
use Rattle.sheet.proofs.RefusalLaws.{right-kinds}
use Rattle.sheet.proofs.FormulaTrees.{as_read}
use Rattle.sheet.proofs.DeclaredLaws.{formulas-kinds, fields-declared}
use Rattle.reader.specs.Reader.{forms, members}

module _ (s : List ℕ) (z : read_refusal s ≡ 0) where
  one_field : (A m : ℕ) → Fields s A → m ∈ modes A → Fields s (2 ^ m)
  one_field A m x i =
      let k = (modes-in A i).0 in
      record { some = pow_pos m; sixteen = pow-lt (mode-lt k); each = λ a j. subst (λ n. Field s (n % 8)) (sym (Memᴰ.eq_of_singleton (subst (λ l. a ∈ l) (modes-one k) j))) (x.each m i) }

  -- a closure member has only marks, names and values outside braces, and only fields in braces, as the formulas have
  pub member-kinds : (φ : Form) → φ ∈ members s → KindedForm s φ
  member-kinds = closure-uses (Proposition s) (Fields s) one_field (forms s) (λ φ m. (let r = map-out positive (formulas s) m in subst (KindedForm s) (sym r.2) (uses-signed (Proposition s) (Fields s) r.0 (formulas-kinds s z r.0 r.1)).0))

  -- ---- the declarations know its symbols
  entry-by : (k n : ℕ) → k < length (spellings s) → suc (place_of k (get_or (kinds s) k 0)) ≡ n → entry_for (spell_of s) (decls s) k ≡ n
  entry-by k n h e = sheet-entry s k h (right-kinds s z) ∙ e

  symbol-known : (k : ℕ) → Proposition s k → entry_for (spell_of s) (decls s) k ≡ 1 + k
  symbol-known k x = entry-by k (1 + k) x.0 (rw (ne_eqb (get_or (kinds s) k 0) 3 (no x.1)) (omega arith))
    where
      no : (get_or (kinds s) k 0 ≡ 1) ⊎ ((get_or (kinds s) k 0 ≡ 2) ⊎ (get_or (kinds s) k 0 ≡ 4)) → get_or (kinds s) k 0 ≡ 3 → ⊥
      no (inl e) f = omega arith
      no (inr (inl e)) f = omega arith
      no (inr (inr e)) f = omega arith

  fields-known : (A : ℕ) → Fields s A → FieldsKnown (spell_of s) (decls s) A
  fields-known A x = (x.some, λ m i. (let f = x.each m i in entry-by (m % 8) (9 + m % 8) f.0 (rw (eq-eqb (get_or (kinds s) (m % 8) 0) 3 f.1) (omega arith))))

  -- the print of each member is read as that member, which is its own positive form
  pub member-print-back : (φ : Form) → φ ∈ members s → ReadAs (decls s) (print (spell_of s) φ) (as_raw φ) × (positive (as_raw φ) ≡ φ)
  member-print-back φ m =
      let k = member-kinds φ m in
      let over : Over (length (spellings s)) φ = uses-all (λ j h. h.0) (fields-declared s) φ k in
      let known : Known (spell_of s) (decls s) φ = uses-all symbol-known fields-known φ k in
      (as_read (print-parses (spell_of s) (length (spellings s)) (decls s) φ (sheet-alphabet s) over known).1, positive-same φ)

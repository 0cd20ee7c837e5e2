-- Formula i of a sheet that is not refused is the tree that the grammar derives from text i, and a sheet is not refused by 6 to 8 exactly if each of its texts is read so.
-- Assumes nothing.
use mathlib.Core.Path.{◌≡◌, refl, sym, ap, ◌∙◌, subst}
use mathlib.Core.Logic.{◌↔◌}
use mathlib.Core.Bool.{Bool, true, false}
use mathlib.Core.List.Memᴰ
use mathlib.Core.List.{List, [], ◌∷◌, map}
use Prim.Native.Nat.{ℕ, zero, suc, ◌<◌}
use native.Mathlib.Omega.{arith}
use native.Mathlib.Decide.{ℕ_discrete}
use lib.Dec.{T}
use lib.ListN.{length, get_or}
use borrow.Author.Tests.{eq-eqb, ne_eqb}
use Rattle.ctl.specs.Lists.{◌∈◌}
use Rattle.ctl.specs.Raw.{Raw}
use Rattle.ctl.proofs.BoolLaws.{false-T, true-T, true-and-false}
use Rattle.ctl.proofs.ListLaws.{get_d-in, map-out}
use Rattle.token.specs.Token.{pick}
use Rattle.syntax.specs.Parse.{Out, good, bad}
use Rattle.grammar.specs.Grammar.{low_of, symbol_wrong, braces_wrong}
use Rattle.grammar.proofs.GrammarLaws.{line-derives, line-parses, line_refused, line-unique}
use Rattle.layout.specs.Layout.{texts}
use Rattle.head.specs.Head.{layout_refusal}
use Rattle.sheet.specs.Refusal.{decls, read, read_refusal}
use Rattle.sheet.specs.Sheet.{found_refusal, line_refusal, lowest, sheet_refusal, trees}
use Rattle.sheet.specs.Reading.{formulas}
use Rattle.sheet.specs.ReadAs.{ReadAs}
use Rattle.sheet.proofs.ConditionLaws.{grammar-wrong-iff, symbols-wrong-iff, braces-wrong-iff}
use Rattle.sheet.proofs.RefusalLaws.{sheet-refusal, right-grammar, right-symbols, right-braces}

-- ---- texts that are read

refute : {b : Bool} → b ≡ false → T b → ⊥
refute {b} e h = true-and-false b (true-T b h) e

-- such a text parses, and nothing in it is refused
pub read_as : {decl t : List ℕ} {p : Raw} → ReadAs decl t p → (e : ℕ) × (read decl t ≡ good p e 9)
read_as {decl} {t} {p} x =
    let r = line-parses t decl x.tree x.derives in
    let low : low_of decl x.tree ≡ 9 = rw (x.symbols-right, x.braces-right) refl in
    (r.0, r.1 ∙ rw (low, x.is) refl)

-- and a text that parses with nothing refused is read so
pub as_read : {decl t : List ℕ} {p : Raw} {e : ℕ} → read decl t ≡ good p e 9 → ReadAs decl t p
as_read {decl} {t} {p} {e} q =
    let r = line-derives t decl p e 9 q in
    let n = nine (symbol_wrong decl r.0) (braces_wrong decl r.0) r.3 in
    record { tree = r.0; derives = r.1; only = λ u d. line-unique t u r.0 d r.1; is = r.2; symbols-right = n.0; braces-right = n.1 }
  where
    nine : (a b : Bool) → ◌≡◌ {A = ℕ} 9 (pick a 7 (pick b 8 9)) → (a ≡ false) × (b ≡ false)
    nine true b h = absurd (omega arith)
    nine false true h = absurd (omega arith)
    nine false false h = (refl, refl)

abbrev pub formula_of : Out → Raw
formula_of bad = Raw.zero
formula_of (good p e low) = p

-- the formulas of texts that are all read, text by text
trees-map : (decl : List ℕ) (ts : List (List ℕ)) → ((t : List ℕ) → t ∈ ts → (p : Raw) × ReadAs decl t p) → trees decl ts ≡ map (λ t. formula_of (read decl t)) ts
unfolding trees
trees-map decl [] f = refl
trees-map decl (t ∷ ts) f =
    let r = read_as (f t (Memᴰ.head refl)).1 in
    rw r.1 (ap (λ (l : List Raw). (f t (Memᴰ.head refl)).0 ∷ l) (trees-map decl ts (λ u m. f u (Memᴰ.tail m))))

get_d_map : {A B : Type 0} (f : A → B) (l : List A) (i : ℕ) (d : A) (e : B) → i < length l → get_or (map f l) i e ≡ f (get_or l i d)
get_d_map f [] i d e h = absurd (omega arith)
get_d_map f (x ∷ l) zero d e h = refl
get_d_map f (x ∷ l) (suc i) d e h = get_d_map f l i d e (omega arith)

-- ---- the formulas of a sheet that is not refused
module _ (s : List ℕ) (z : read_refusal s ≡ 0) where
  pub text-read : (t : List ℕ) → t ∈ texts s → ReadAs (decls s) t (formula_of (read (decls s) t))
  text-read t m = go (read (decls s) t) refl
    where
      go : (o : Out) → read (decls s) t ≡ o → ReadAs (decls s) t (formula_of o)
      go bad e = absurd (refute (right-grammar s z) ((grammar-wrong-iff s).1 (t, m, (line_refused t (decls s)).0 e)))
      go (good p e low) q =
          let r = line-derives t (decls s) p e low q in
          let no : T (symbol_wrong (decls s) r.0) → ⊥ = λ h. refute (right-symbols s z) ((symbols-wrong-iff s).1 (t, r.0, m, r.1, h)) in
          record {
            tree = r.0;
            derives = r.1;
            only = λ u d. line-unique t u r.0 d r.1;
            is = r.2;
            symbols-right = false-T (symbol_wrong (decls s) r.0) no;
            braces-right = false-T (braces_wrong (decls s) r.0) (λ h. refute (right-braces s z) ((braces-wrong-iff s).1 (t, r.0, m, r.1, no, h)));
          }

  pub formulas-map : formulas s ≡ map (λ t. formula_of (read (decls s) t)) (texts s)
  formulas-map = trees-map (decls s) (texts s) (λ t m. (formula_of (read (decls s) t), text-read t m))

  -- formula i is what text i is read as
  pub formula-derived : (i : ℕ) → i < length (texts s) → ReadAs (decls s) (get_or (texts s) i []) (get_or (formulas s) i Raw.zero)
  formula-derived i h =
      let e : get_or (formulas s) i Raw.zero ≡ formula_of (read (decls s) (get_or (texts s) i [])) = ap (λ (l : List Raw). get_or l i Raw.zero) formulas-map ∙ get_d_map (λ t. formula_of (read (decls s) t)) (texts s) i [] Raw.zero h in
      subst (ReadAs (decls s) (get_or (texts s) i [])) (sym e) (text-read (get_or (texts s) i []) (get_d-in [] (texts s) i h))

  -- so each formula is what some text is read as
  pub formula-read : (p : Raw) → p ∈ formulas s → (t : List ℕ) × (t ∈ texts s) × ReadAs (decls s) t p
  formula-read p m =
      let r = map-out (λ t. formula_of (read (decls s) t)) (texts s) (subst (λ l. p ∈ l) formulas-map m) in
      (r.0, r.1, subst (ReadAs (decls s) r.0) (sym r.2) (text-read r.0 r.1))

-- ---- a sheet that no number of 1 to 8 refuses: lines 1 and 2 and the lines' starts are right, and each text is read

lowest-none : (decl : List ℕ) (ts : List (List ℕ)) → ((t : List ℕ) → t ∈ ts → (p : Raw) × ReadAs decl t p) → lowest 9 decl ts ≡ 9
unfolding lowest line_refusal found_refusal
lowest-none decl [] f = refl
lowest-none decl (t ∷ ts) f = let r = read_as (f t (Memᴰ.head refl)).1 in rw r.1 (lowest-none decl ts (λ u m. f u (Memᴰ.tail m)))

pub accepted-iff : (s : List ℕ) → (read_refusal s ≡ 0) ↔ ((layout_refusal s ≡ 0) × ((t : List ℕ) → t ∈ texts s → (p : Raw) × ReadAs (decls s) t p))
unfolding sheet_refusal
accepted-iff s = ((λ z. (first z (ℕ_discrete (layout_refusal s) 0), λ t m. (formula_of (read (decls s) t), text-read s z t m))), λ h. sym (sheet-refusal s) ∙ rw (eq-eqb (layout_refusal s) 0 h.0, lowest-none (decls s) (texts s) h.1) refl)
  where
    first : read_refusal s ≡ 0 → Dec (layout_refusal s ≡ 0) → layout_refusal s ≡ 0
    first z (yes e) = e
    first z (no n) = rw (ne_eqb (layout_refusal s) 0 n) at (sheet-refusal s ∙ z)

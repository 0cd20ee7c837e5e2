-- A sheet written clean is a sheet that says the same, and is itself clean. Assumes nothing.
use mathlib.Core.Path.{◌≡◌, refl, sym, ap, ap₂, ◌∙◌, subst}
use mathlib.Core.Bool.{true, false, ◌&&◌, ◌||◌}
use mathlib.Core.Logic.{◌⊎◌, inl, inr}
use mathlib.Core.List.Memᴰ
use mathlib.Core.List.{List, [], ◌∷◌, ◌++◌, map}
use Prim.Native.Nat.{ℕ, ◌+◌, ◌-◌, ◌≤◌, ◌<◌}
use native.Mathlib.Omega.{arith}
use lib.Dec.{ltb}
use lib.ListN.{length, get_or, drop, length-map, length-drop}
use borrow.Author.Tests.{eq-eqb, ne_eqb, le-leb, ltb-false}
use Rattle.ctl.specs.Lists.{◌∈◌}
use Rattle.ctl.specs.Formula.{Form}
use Rattle.ctl.specs.Raw.{Raw}
use Rattle.ctl.specs.Positive.{positive}
use Rattle.ctl.specs.Print.{print}
use Rattle.ctl.specs.Alphabet.{Over}
use Rattle.ctl.proofs.ListLaws.{map-out}
use Rattle.ctl.proofs.ClosureLaws.{closure-has}
use Rattle.ctl.proofs.UsesLaws.{uses-all}
use Rattle.spelling.specs.Spelling.{word}
use Rattle.layout.specs.Text.{begins, has}
use Rattle.layout.specs.Layout.{newline, parts, lines, line_of, texts, texts_of, all_word, goal_word, any_long, length_wrong, byte_wrong, starts_right, ends_right, layout_right}
use Rattle.layout.proofs.LayoutLaws.{length-lines}
use Rattle.layout.proofs.FormulaTexts.{texts-length}
use Rattle.layout.proofs.UnlinesLaws.{or-none, Free, lines-unlines, parts-unlines, long-unlines, unlines-some, unlines-ends, unlines-right, line-free, line-right}
use Rattle.head.specs.Head.{names_of, kinds_of, spellings, kinds, declared, layout_refusal}
use Rattle.grammar.specs.Canonical.{as_raw}
use Rattle.grammar.proofs.RoundTrip.{positive-same}
use Rattle.sheet.specs.Refusal.{decls, read_refusal}
use Rattle.sheet.specs.Sheet.{trees}
use Rattle.sheet.specs.Reading.{formulas, spell_of}
use Rattle.sheet.specs.ReadAs.{ReadAs}
use Rattle.sheet.proofs.Alphabet.{sheet-alphabet}
use Rattle.sheet.proofs.RefusalLaws.{right-bytes, right-kinds, some-symbols}
use Rattle.sheet.proofs.FormulaTrees.{read_as, accepted-iff}
use Rattle.sheet.proofs.DeclaredLaws.{fields-declared}
use Rattle.sheet.proofs.SizeLaws.{formulas-many, lines-within}
use Rattle.reader.specs.Reader.{forms, refusal_within}
use Rattle.reader.proofs.NumberLaws.{within-zero}
use Rattle.reader.proofs.MemberPrints.{member-kinds, member-print-back}
use Rattle.clean.specs.Clean.{formula_lines, clean_lines, clean_text, clean_wrong}
use Rattle.clean.specs.Same.{SameSheet}
use Rattle.clean.proofs.PrintBytes.{Printed, print-bytes, printed-free, printed-right}

-- ---- the lines of positive formulas

-- a line that another one follows
starts_more : (l : List ℕ) (ls : List (List ℕ)) → 0 < length ls → starts_right (l ∷ ls) ≡ begins l all_word && starts_right ls
unfolding starts_right
starts_more l [] h = absurd (omega arith)
starts_more l (m ∷ ms) h = refl

texts-more : (l : List ℕ) (ls : List (List ℕ)) → 0 < length ls → texts_of (l ∷ ls) ≡ drop 4 l ∷ texts_of ls
unfolding texts_of
texts-more l [] h = absurd (omega arith)
texts-more l (m ∷ ms) h = refl

module _ (spell : ℕ → List ℕ) where
  lines-length : (ps : List Form) → length (formula_lines spell ps) ≡ length ps
  unfolding formula_lines
  lines-length [] = refl
  lines-length (p ∷ []) = refl
  lines-length (p ∷ q ∷ r) = let e = lines-length (q ∷ r) in omega arith

  lines_start : (ps : List Form) → starts_right (formula_lines spell ps) ≡ true
  unfolding formula_lines starts_right begins
  lines_start [] = refl
  lines_start (p ∷ []) = refl
  lines_start (p ∷ q ∷ r) = let e = lines-length (q ∷ r) in starts_more (all_word ++ print spell p) (formula_lines spell (q ∷ r)) (omega arith) ∙ lines_start (q ∷ r)

  -- their texts are the prints
  lines-texts : (ps : List Form) → texts_of (formula_lines spell ps) ≡ map (print spell) ps
  unfolding formula_lines texts_of
  lines-texts [] = refl
  lines-texts (p ∷ []) = refl
  lines-texts (p ∷ q ∷ r) =
      let e = lines-length (q ∷ r) in
      texts-more (all_word ++ print spell p) (formula_lines spell (q ∷ r)) (omega arith) ∙ ap (λ (ts : List (List ℕ)). print spell p ∷ ts) (lines-texts (q ∷ r))

  -- what holds of each formula's line, behind either word, holds of each line
  lines-each : (Q : List ℕ → Type 0) (ps : List Form) → ((p : Form) → p ∈ ps → Q (all_word ++ print spell p) × Q (goal_word ++ print spell p)) → (l : List ℕ) → l ∈ formula_lines spell ps → Q l
  unfolding formula_lines
  lines-each Q [] f l m = elim m [ ]
  lines-each Q (p ∷ []) f l m = go (Memᴰ.cases_cons m)
    where
      go : (l ≡ goal_word ++ print spell p) ⊎ (l ∈ []) → Q l
      go (inl e) = subst Q (sym e) (f p (Memᴰ.head refl)).1
      go (inr i) = elim i [ ]
  lines-each Q (p ∷ q ∷ r) f l m = go (Memᴰ.cases_cons m) (lines-each Q (q ∷ r) (λ a i. f a (Memᴰ.tail i)) l)
    where
      go : (l ≡ all_word ++ print spell p) ⊎ (l ∈ formula_lines spell (q ∷ r)) → (l ∈ formula_lines spell (q ∷ r) → Q l) → Q l
      go (inl e) rec = subst Q (sym e) (f p (Memᴰ.head refl)).0
      go (inr i) rec = rec i

-- ---- prints that are read

trees-back : (decl : List ℕ) (spell : ℕ → List ℕ) (ps : List Form) → ((φ : Form) → φ ∈ ps → ReadAs decl (print spell φ) (as_raw φ)) → trees decl (map (print spell) ps) ≡ map as_raw ps
unfolding trees
trees-back decl spell [] f = refl
trees-back decl spell (φ ∷ ps) f = rw (read_as (f φ (Memᴰ.head refl))).1 (ap (λ (l : List Raw). as_raw φ ∷ l) (trees-back decl spell ps (λ p m. f p (Memᴰ.tail m))))

forms-back : (ps : List Form) → map positive (map as_raw ps) ≡ ps
forms-back [] = refl
forms-back (φ ∷ ps) = ap₂ ◌∷◌ (positive-same φ) (forms-back ps)

-- ---- a sheet that is not refused by 1 to 8, written clean

-- a line with no newline, and no byte that is wrong
abbrev Plain : List ℕ → Type 0
Plain l = (has newline l ≡ false) × (byte_wrong l ≡ false)

module _ (s : List ℕ) (z : read_refusal s ≡ 0) where
  -- its formulas, one for each line from the third on
  forms-many : length (forms s) + 2 ≡ length (lines s)
  forms-many =
      let e : length (forms s) ≡ length (texts s) = length-map (formulas s) positive ∙ formulas-many s z in
      let d : length (texts s) ≡ length (drop 2 (lines s)) = texts-length (drop 2 (lines s)) in
      let c : length (drop 2 (lines s)) ≡ length (lines s) - 2 = length-drop 2 (lines s) in
      let three = (lines-within s z).0 in
      omega arith

  form-printed : (φ : Form) → φ ∈ forms s → Printed (print (spell_of s) φ)
  form-printed φ m =
      let over : Over (length (spellings s)) φ = uses-all (λ j h. h.0) (fields-declared s) φ (member-kinds s z φ (closure-has (forms s) m)) in
      print-bytes (spell_of s) (length (spellings s)) (sheet-alphabet s) φ over

  form-plain : (φ : Form) → φ ∈ forms s → Plain (all_word ++ print (spell_of s) φ) × Plain (goal_word ++ print (spell_of s) φ)
  unfolding has byte_wrong
  form-plain φ m =
      let f = form-printed φ m in
      let w : Plain (print (spell_of s) φ) = (printed-free (print (spell_of s) φ) f, printed-right (print (spell_of s) φ) f) in
      (w, w)

  line_plain : (l : List ℕ) → l ∈ clean_lines s → Plain l
  line_plain l m = first (Memᴰ.cases_cons m)
    where
      at : (k : ℕ) → l ≡ line_of s k → Plain l
      at k e = (ap (has newline) e ∙ line-free s k, ap byte_wrong e ∙ line-right s (right-bytes s z) k)

      second : (l ≡ line_of s 1) ⊎ (l ∈ formula_lines (spell_of s) (forms s)) → Plain l
      second (inl e) = at 1 e
      second (inr i) = lines-each (spell_of s) Plain (forms s) form-plain l i

      first : (l ≡ line_of s 0) ⊎ (l ∈ line_of s 1 ∷ formula_lines (spell_of s) (forms s)) → Plain l
      first (inl e) = at 0 e
      first (inr i) = second (Memᴰ.cases_cons i)

  clean_free : Free (clean_lines s)
  clean_free l m = (line_plain l m).0

  -- ---- its lines and texts
  pub clean-lines : lines (clean_text s) ≡ clean_lines s
  unfolding clean_text
  clean-lines = lines-unlines (clean_lines s) clean_free

  clean-parts : parts (clean_text s) ≡ clean_lines s ++ ([] ∷ [])
  unfolding clean_text
  clean-parts = parts-unlines (clean_lines s) clean_free

  pub clean-one : line_of (clean_text s) 0 ≡ line_of s 0
  clean-one = ap (λ (ls : List (List ℕ)). get_or ls 0 []) clean-parts

  pub clean-two : line_of (clean_text s) 1 ≡ line_of s 1
  clean-two = ap (λ (ls : List (List ℕ)). get_or ls 1 []) clean-parts

  pub clean-texts : texts (clean_text s) ≡ map (print (spell_of s)) (forms s)
  clean-texts = ap (λ (ls : List (List ℕ)). texts_of (drop 2 ls)) clean-lines ∙ lines-texts (spell_of s) (forms s)

  -- ---- its formulas
  clean-spellings : spellings (clean_text s) ≡ spellings s
  clean-spellings = ap names_of clean-one

  clean-kinds : kinds (clean_text s) ≡ kinds s
  clean-kinds = ap kinds_of clean-two

  clean-decls : decls (clean_text s) ≡ decls s
  clean-decls = ap₂ (λ ws ks. declared (map word ws) ks) clean-spellings clean-kinds

  -- each print is read as its formula
  pub clean_back : (φ : Form) → φ ∈ forms s → ReadAs (decls (clean_text s)) (print (spell_of s) φ) (as_raw φ)
  clean_back φ m = subst (λ d. ReadAs d (print (spell_of s) φ) (as_raw φ)) (sym clean-decls) (member-print-back s z φ (closure-has (forms s) m)).0

  text-back : (t : List ℕ) → t ∈ texts (clean_text s) → (p : Raw) × ReadAs (decls (clean_text s)) t p
  text-back t m =
      let r = map-out (print (spell_of s)) (forms s) (subst (λ ts. t ∈ ts) clean-texts m) in
      (as_raw r.0, subst (λ u. ReadAs (decls (clean_text s)) u (as_raw r.0)) (sym r.2) (clean_back r.0 r.1))

  pub clean-formulas : formulas (clean_text s) ≡ map as_raw (forms s)
  clean-formulas = ap (trees (decls (clean_text s))) clean-texts ∙ trees-back (decls (clean_text s)) (spell_of s) (forms s) clean_back

  -- it says the same
  pub clean-same : SameSheet s (clean_text s)
  clean-same = record { line-one = clean-one; line-two = clean-two; forms-same = ap (map positive) clean-formulas ∙ forms-back (forms s) }

  -- ---- and it is not refused by 1 to 8
  clean-bytes : byte_wrong (clean_text s) ≡ false
  unfolding clean_text
  clean-bytes = unlines-right (clean_lines s) (λ l m. (line_plain l m).1)

  clean-ends : ends_right (clean_text s) ≡ true
  unfolding clean_text
  clean-ends = unlines-ends (line_of s 0) (line_of s 1 ∷ formula_lines (spell_of s) (forms s))

  clean-some : 0 < length (clean_text s)
  unfolding clean_text
  clean-some = unlines-some (line_of s 0) (line_of s 1 ∷ formula_lines (spell_of s) (forms s))

  clean-layout : layout_right (clean_text s) ≡ true
  unfolding layout_right
  clean-layout =
      let n = forms-many in
      let within = lines-within s z in
      let e = lines-length (spell_of s) (forms s) in
      let many : length (clean_lines s) ≡ length (lines s) = omega arith in
      rw (clean-ends, clean-lines) (rw (le-leb 3 (length (clean_lines s)) (omega arith), le-leb (length (clean_lines s)) 7 (omega arith)) (lines_start (spell_of s) (forms s)))

  module _ (short : any_long (clean_lines s) ≡ false) (brief : length (clean_text s) ≤ 1024) where
    clean-length : length_wrong (clean_text s) ≡ false
    unfolding clean_text
    clean-length = length-lines (clean_text s) (λ e. let h = clean-some in omega arith) brief ∙ long-unlines (clean_lines s) clean_free ∙ short

    clean-head : layout_refusal (clean_text s) ≡ 0
    unfolding layout_refusal
    clean-head =
        let some = some-symbols s z in
        rw (
          clean-length,
          clean-bytes,
          clean-layout,
          clean-spellings,
          clean-kinds,
          ne_eqb (length (spellings s)) 0 (λ e. omega arith),
          eq-eqb (length (kinds s)) (length (spellings s)) (right-kinds s z),
        )

    pub clean-read : read_refusal (clean_text s) ≡ 0
    clean-read = (accepted-iff (clean_text s)).1 (clean-head, text-back)

-- ---- for a sheet that is accepted, and whose clean text is not too long
pub record Room (s : List ℕ) (long : ℕ) : Type 0 where
  pub short : any_long (clean_lines s) ≡ false
  pub brief : length (clean_text s) ≤ 1024
  pub inside : length (clean_text s) ≤ long

pub clean-fits : (s : List ℕ) (long : ℕ) → clean_wrong s long ≡ false → Room s long
unfolding clean_wrong
clean-fits s long w =
    let n = length (clean_text s) in
    let a = or-none (any_long (clean_lines s) || ltb 1024 n) (ltb long n) w in
    let b = or-none (any_long (clean_lines s)) (ltb 1024 n) a.0 in
    record { short = b.0; brief = ltb-false 1024 n b.1; inside = ltb-false long n a.1 }

module _ (most wide long : ℕ) (s : List ℕ) (z : refusal_within most wide s ≡ 0) (w : clean_wrong s long ≡ false) where
  read-zero : read_refusal s ≡ 0
  read-zero = within-zero most wide s z

  -- the clean text says the same, and is not refused by 1 to 8
  pub written_same : SameSheet s (clean_text s)
  written_same = clean-same s read-zero

  pub written_read : read_refusal (clean_text s) ≡ 0
  written_read = let f = clean-fits s long w in clean-read s read-zero f.short f.brief

-- What the tableau asks of a member table, a lean, the globals and the goal, of those that the reader gives. Assumes nothing.
use mathlib.Core.Path.{◌≡◌, refl, sym, ap, ◌∙◌, subst}
use mathlib.Core.Logic.{◌⊎◌, inl, inr}
use mathlib.Core.Bool.{true, ◌||◌}
use mathlib.Core.List.Memᴰ
use mathlib.Core.List.{List, [], ◌∷◌, ◌++◌, map, map-append}
use Prim.Native.Nat.{ℕ, zero, suc, ◌-◌, ◌^◌, ◌≤◌, ◌<◌}
use native.Mathlib.Omega.{arith}
use native.Mathlib.Decide.{dec_le}
use lib.ListN.{length, get_or, length-append, length-map, get_or-append, get_or-eq_default}
use lib.Seq.{ext_get_or, get_or_at, length-take-le}
use lib.Dec.{T, eqb}
use Rattle.ctl.specs.Lists.{◌∈◌}
use Rattle.ctl.specs.Formula.{Form, tru, lit, ax}
use Rattle.ctl.specs.Equality.{tag, num, right}
use Rattle.ctl.specs.Modes.{has_mode, single}
use Rattle.ctl.specs.Raw.{Raw}
use Rattle.ctl.specs.Positive.{positive}
use Rattle.ctl.specs.Sorting.{Unique, more}
use Rattle.ctl.specs.Closure.{closure}
use Rattle.ctl.specs.Lean.{is_letter, is_next, with_values, lean}
use Rattle.ctl.specs.Tableau.{Tableau, tableau_of, name_places, value_places}
use Rattle.ctl.specs.Demand3.{sheet_tableau}
use Rattle.ctl.proofs.BoolLaws.{and-make, or-1, T_true, true-T}
use Rattle.ctl.proofs.ListLaws.{get_d-in}
use Rattle.ctl.proofs.LeanOrder.{lean-members, with_in, with_out}
use Rattle.ctl.proofs.ModeLaws.{mode-own, modes-in, single-in}
use Rattle.ctl.proofs.ValueLaws.{places-none}
use Rattle.sheet.specs.Refusal.{read_refusal}
use Rattle.sheet.specs.Reading.{formulas, globals_of, goal_of, spell_of, values_in}
use Rattle.sheet.proofs.SizeLaws.{formulas-many, texts-some}
use Rattle.members.specs.Members.{Canon, Members, c-and, c-ar, c-au, c-ax, c-er, c-eu, c-ex, c-fls, c-lit, c-nlit, c-or, c-tru, forms, left_w, tag_w, word_of}
use Rattle.members.proofs.MemberLaws.{canon-parts, forms-length, member, word-left, word-tag}
use Rattle.lean.proofs.LeanLaws.{form-word}
use Rattle.truth.specs.Tables.{Leans, Table, arg_at, form, lean_forms, left_at, right_at, tag_at}
use Rattle.truth.proofs.MemberLaws.{form-tag, left_in, tag_of}
use Rattle.conditions.specs.Conditions.{Placed}
use Rattle.tableau.specs.Matches.{Matches}
use Rattle.reader.specs.declared.Reading.{Reading}
use Rattle.reader.specs.Reader as R
use Rattle.reader.specs.Reader.{Says}
use Rattle.prepare.specs.Prepared.{lean_of, table_of, tableau_in}
use Rattle.prepare.proofs.NameCount.{proper}
use Rattle.prepare.proofs.AuPlace.{au-next}

-- ---- lists by their places

form-place : {p : Form} (l : List Form) → p ∈ l → (i : ℕ) × (i < length l) × (get_or l i tru ≡ p)
form-place l (Memᴰ.head {xs = r} e) = (0, omega arith, sym e)
form-place l (Memᴰ.tail {xs = r} m) = let h = form-place r m in (suc h.0, (let k = h.1 in omega arith), h.2)

unique-at : (l : List Form) → Unique l → (i j : ℕ) → i < length l → j < length l → get_or l i tru ≡ get_or l j tru → i ≡ j
unique-at [] u i j h k e = absurd (omega arith)
unique-at (p ∷ l) u zero zero h k e = refl
unique-at (p ∷ l) (more f u) zero (suc j) h k e = absurd (f (subst (λ q. q ∈ l) (sym e) (get_d-in tru l j (omega arith))))
unique-at (p ∷ l) (more f u) (suc i) zero h k e = absurd (f (subst (λ q. q ∈ l) e (get_d-in tru l i (omega arith))))
unique-at (p ∷ l) (more f u) (suc i) (suc j) h k e = ap suc (unique-at l u i j (omega arith) (omega arith) e)

map_at : (f : ℕ → Form) (l : List ℕ) (k : ℕ) → k < length l → get_or (map f l) k tru ≡ f (get_or l k 0)
map_at f [] k h = absurd (omega arith)
map_at f (x ∷ l) zero h = refl
map_at f (x ∷ l) (suc k) h = map_at f l k (omega arith)

-- ---- a table of members

leaf-left : (t a : ℕ) → t < 16 → a < 65536 → left_w (word_of t a 0 0) ≡ 0
leaf-left t a h k = word-left t a 0 0 h k (omega arith) (omega arith)

not-bare : (t a l r : ℕ) → 4 ≤ t → t < 16 → a < 65536 → l < 256 → r < 256 → tag_w (word_of t a l r) < 4 → left_w (word_of t a l r) ≡ 0
not-bare t a l r g h k i j b = let e = word-tag t a l r h k i j in absurd (omega arith)

canon-bare : {n w : ℕ} → n ≤ 256 → Canon n w → tag_w w < 4 → left_w w ≡ 0
canon-bare s c-tru b = leaf-left 0 0 (omega arith) (omega arith)
canon-bare s c-fls b = leaf-left 1 0 (omega arith) (omega arith)
canon-bare s (c-lit {k} h) b = leaf-left 2 k (omega arith) h
canon-bare s (c-nlit {k} h) b = leaf-left 3 k (omega arith) h
canon-bare s (c-and {l} {r} i j) b = not-bare 4 0 l r (omega arith) (omega arith) (omega arith) (omega arith) (omega arith) b
canon-bare s (c-or {l} {r} i j) b = not-bare 5 0 l r (omega arith) (omega arith) (omega arith) (omega arith) (omega arith) b
canon-bare s (c-ex {A} {l} a i) b = not-bare 6 A l 0 (omega arith) (omega arith) a (omega arith) (omega arith) b
canon-bare s (c-ax {A} {l} a i) b = not-bare 7 A l 0 (omega arith) (omega arith) a (omega arith) (omega arith) b
canon-bare s (c-eu {A} {l} {r} a i j) b = not-bare 8 A l r (omega arith) (omega arith) a (omega arith) (omega arith) b
canon-bare s (c-au {A} {l} {r} a i j) b = not-bare 9 A l r (omega arith) (omega arith) a (omega arith) (omega arith) b
canon-bare s (c-er {A} {l} {r} a i j) b = not-bare 10 A l r (omega arith) (omega arith) a (omega arith) (omega arith) b
canon-bare s (c-ar {A} {l} {r} a i j) b = not-bare 11 A l r (omega arith) (omega arith) a (omega arith) (omega arith) b

module _ {ws : List ℕ} (ms : Members ws) where
  pub members-table : Table ws
  unfolding form
  members-table = record {
    tags = λ i h. (canon-parts (few i h) (ms.canon i h)).tag;
    operands = λ i h g. (let p = canon-parts (few i h) (ms.canon i h) in (p.left g, p.right g));
    bare = λ i h b. canon-bare (few i h) (ms.canon i h) b;
    distinct = λ i j h k e. let n = forms-length ws in unique-at (forms ws) ms.unique i j (omega arith) (omega arith) e;
  }
    where
      few : (i : ℕ) → i < length ws → i ≤ 256
      few i h = let f = ms.few in omega arith

  -- a member's tag and number are its word's
  pub member-word : (i : ℕ) → i < length ws → (tag (form ws i) ≡ tag_at ws i) × (num (form ws i) ≡ arg_at ws i)
  unfolding form
  member-word i h =
      let r = form-word (forms ws) (let f = ms.few in omega arith) (ms.canon i h) in
      (ap tag (member ws ms i h) ∙ r.0, ap num (member ws ms i h) ∙ r.1)

-- ---- globals and goal

pub globals-goal : (l : List Raw) → 0 < length l → globals_of l ++ (goal_of l ∷ []) ≡ l
unfolding globals_of goal_of
globals-goal [] h = absurd (omega arith)
globals-goal (p ∷ []) h = refl
globals-goal (p ∷ q ∷ r) h = ap (λ k. p ∷ k) (globals-goal (q ∷ r) (omega arith))

-- a sheet that is read has a formula
pub formulas-some : (s : List ℕ) → read_refusal s ≡ 0 → 0 < length (formulas s)
formulas-some s z = let a = texts-some s z in let b = formulas-many s z in omega arith

module _ (s : List ℕ) (z : read_refusal s ≡ 0) where
  pub forms-split : map positive (globals_of (formulas s)) ++ (positive (goal_of (formulas s)) ∷ []) ≡ R.forms s
  forms-split =
      sym (map-append positive (globals_of (formulas s)) (goal_of (formulas s) ∷ []))
      ∙ ap (map positive) (globals-goal (formulas s) (formulas-some s z))

  globals-length : suc (length (map positive (globals_of (formulas s)))) ≡ length (R.forms s)
  globals-length = let a = length-append (map positive (globals_of (formulas s))) (positive (goal_of (formulas s)) ∷ []) in let b = ap length forms-split in omega arith

  pub formulas-suc : suc (length (globals_of (formulas s))) ≡ length (formulas s)
  formulas-suc = let a = globals-length in let b = length-map (globals_of (formulas s)) positive in let c = length-map (formulas s) positive in omega arith

-- ---- the lean

-- the formula 1 is no place of a lean
lean-not-tru : (spell : ℕ → List ℕ) (cl : List Form) → tru ∈ lean spell cl → ⊥
unfolding is_next
lean-not-tru spell cl m = ((lean-members spell cl tru).0 m).1

-- EX or AX over one mode
next-is : (p : Form) → 6 ≤ tag p → tag p ≤ 7 → single (num p) ≡ true → T (is_next p)
unfolding is_next
next-is p a b h = T_true _ (and-make (eqb (tag p) 6 || eqb (tag p) 7) (single (num p)) (either (tag p) a b) h)
  where
    either : (k : ℕ) → 6 ≤ k → k ≤ 7 → eqb k 6 || eqb k 7 ≡ true
    either k a b = elim (dec_le k 6) [ yes c ↦ (let e : 6 ≡ k = omega arith in is e refl) | no c ↦ (let e : 7 ≡ k = omega arith in is e refl) ]
      where
        is : {i : ℕ} → i ≡ k → eqb i 6 || eqb i 7 ≡ true → eqb k 6 || eqb k 7 ≡ true
        is e h = subst (λ j. eqb j 6 || eqb j 7 ≡ true) e h

-- ---- what a sheet says

-- the tableau's lean is the sheet's
pub sheet-lean : (s : List ℕ) → read_refusal s ≡ 0 → (tableau_in s).ln ≡ R.places s
unfolding sheet_tableau tableau_of
sheet-lean s z = ap (λ l. lean (spell_of s) (with_values (values_in s) (closure l))) (forms-split s z)

module _ (s : List ℕ) (r : Reading) (x : Says s r) where
  abbrev ms : List ℕ
  ms = table_of r

  abbrev ln : List ℕ
  ln = lean_of r

  abbrev S : Tableau
  S = tableau_in s

  pub table-length : length ms ≡ r.count
  table-length = length-take-le r.count r.members x.tabled.room

  pub table : Table ms
  table = members-table x.tabled.members

  lean-forms : map (form ms) ln ≡ R.places s
  unfolding form
  lean-forms = x.lean-are

  pub lean-length : length ln ≡ r.width
  lean-length = sym (length-map ln (form ms)) ∙ ap length lean-forms ∙ sym x.lean-many

  -- lean place k is the lean's formula k
  pub lean-form : (k : ℕ) → k < length ln → form ms (get_or ln k 0) ≡ get_or (R.places s) k tru
  lean-form k h = sym (map_at (form ms) ln k h) ∙ ap (λ l. get_or l k tru) lean-forms

  pub lean-inside : (k : ℕ) → k < length ln → get_or ln k 0 < length ms
  unfolding form
  lean-inside k h = elim (dec_le (length ms) (get_or ln k 0)) [ yes a ↦ absurd (out a) | no a ↦ omega arith ]
    where
      out : length ms ≤ get_or ln k 0 → ⊥
      out a =
          let e = get_or-eq_default (forms ms) tru {n = get_or ln k 0} (let n = forms-length ms in omega arith) in
          let w = lean-length in
          let v = x.lean-many in
          lean-not-tru (spell_of s) (R.tabled s) (subst (λ p. p ∈ R.places s) (sym (lean-form k h) ∙ e) (get_d-in tru (R.places s) k (omega arith)))

  pub leans : r.width ≤ 60 → Leans ms ln
  leans h = record { short = (let n = lean-length in omega arith); inside = lean-inside }

  -- member i of the table is among the formulas
  table-form : (i : ℕ) → i < length ms → form ms i ∈ R.tabled s
  unfolding form
  table-form i h = x.tabled.only (form ms i) (get_d-in tru (forms ms) i (let e = forms-length ms in omega arith))

  -- EX or AX over one mode has a place in the lean
  next_place : (p : Form) → p ∈ R.tabled s → T (is_next p) → (k : ℕ) × (k < length ln) × (form ms (get_or ln k 0) ≡ p)
  next_place p c n =
      let f = form-place (R.places s) ((lean-members (spell_of s) (R.tabled s) p).1 (c, or-1 (is_letter p) (is_next p) n)) in
      let k : f.0 < length ln = (let b = f.1 in let e = lean-length in let v = x.lean-many in omega arith) in
      (f.0, k, lean-form f.0 k ∙ f.2)

  nexts : (i : ℕ) → i < length ms → 6 ≤ tag_at ms i → tag_at ms i ≤ 7 → single (arg_at ms i) ≡ true → (k : ℕ) × (k < length ln) × (get_or ln k 0 ≡ i)
  nexts i h a b c =
      let w = member-word x.tabled.members i h in
      let e = w.0 in
      let n = next-is (form ms i) (omega arith) (omega arith) (ap single w.1 ∙ c) in
      let p = next_place (form ms i) (table-form i h) n in
      (p.0, p.1, table.distinct (get_or ln p.0 0) i (lean-inside p.0 p.1) h p.2)

  -- an AU of the table is in the closure: it is no value
  au-member : (i : ℕ) → i < length ms → tag_at ms i ≡ 9 → form ms i ∈ R.members s
  au-member i h g = go (with_out (R.members s) (values_in s) (table-form i h))
    where
      go : (form ms i ∈ R.members s) ⊎ ((k : ℕ) × (k ∈ values_in s) × (form ms i ≡ lit k)) → form ms i ∈ R.members s
      go (inl m) = m
      go (inr w) = let a = tag_of table i h in let b = ap tag w.2 in absurd (omega arith)

  au-step : (i m : ℕ) → i < length ms → m < 16 → tag_at ms i ≡ 9 → has_mode (arg_at ms i) m ≡ true → ax (2 ^ m) (form ms i) ∈ R.members s
  au-step i m h b g a =
      let e = form-tag table i h 9 g in
      let c = subst (λ p. p ∈ R.members s) e (au-member i h g) in
      subst (λ p. ax (2 ^ m) p ∈ R.members s) (sym e) (au-next (R.forms s) (arg_at ms i) m (form ms (left_at ms i)) (form ms (right_at ms i)) b a c)

  -- the word of AX over a mode, of member i
  next_word : (j i m : ℕ) → j < length ms → i < length ms → form ms j ≡ ax (2 ^ m) (form ms i) → (tag_at ms j ≡ 7) × (arg_at ms j ≡ 2 ^ m) × (left_at ms j ≡ i)
  next_word j i m h k e =
      let w = member-word x.tabled.members j h in
      let t : tag_at ms j ≡ 7 = sym w.0 ∙ ap tag e in
      let f : form ms j ≡ ax (arg_at ms j) (form ms (left_at ms j)) = form-tag table j h 7 t in
      (t, sym w.1 ∙ ap num e, table.distinct (left_at ms j) i (left_in table j h (omega arith)) k (ap right (sym f ∙ e)))

  -- each EX and AX over one mode has a place in the lean, and so has AX over a mode of an AU, of that AU
  pub placed : Placed ms ln
  placed = record {
    nexts = nexts;
    aus = λ i m h b g a c.
        let l : m < 16 = omega arith in
        let o = true-T (single (2 ^ m)) (single-in (modes-in (2 ^ m) (mode-own (2 ^ m) m l refl)).0) in
        let n = next-is (ax (2 ^ m) (form ms i)) (omega arith) (omega arith) o in
        let p = next_place (ax (2 ^ m) (form ms i)) (with_in (R.members s) (values_in s) (au-step i m h l g a)) n in
        let w = next_word (get_or ln p.0 0) i m (lean-inside p.0 p.1) h p.2 in
        (p.0, p.1, w.0, w.1, w.2);
  }

  -- ---- the sheet's tableau

  module _ (z : read_refusal s ≡ 0) where
    tableau-closure : S.cl ≡ R.members s
    unfolding sheet_tableau tableau_of
    tableau-closure = ap closure (forms-split s z)

    pub tableau-lean : S.ln ≡ R.places s
    tableau-lean = sheet-lean s z

    tableau-globals : S.globals ≡ map positive (globals_of (formulas s))
    unfolding sheet_tableau tableau_of
    tableau-globals = refl

    pub matches : (globals : List ℕ) → map (form ms) globals ≡ map positive (globals_of (formulas s)) → Matches S ms ln globals (name_places S) (value_places S)
    unfolding lean_forms
    matches globals e = record {
      closure-in = λ p m. x.tabled.has p (with_in (R.members s) (values_in s) (subst (λ l. p ∈ l) tableau-closure m));
      closure-has = λ p m. member-or-symbol p (with_out (R.members s) (values_in s) (x.tabled.only p m));
      lean = tableau-lean ∙ sym lean-forms;
      globals-are = tableau-globals ∙ sym e;
      names-are = refl;
      values-are = refl;
      values-none = places-none S (proper s);
    }
      where
        -- what stands in the table is a closure member or a value
        member-or-symbol : (p : Form) → (p ∈ R.members s) ⊎ ((k : ℕ) × (k ∈ values_in s) × (p ≡ lit k)) → (p ∈ S.cl) ⊎ T (is_letter p)
        member-or-symbol p (inl m) = inl (subst (λ l. p ∈ l) (sym tableau-closure) m)
        member-or-symbol p (inr w) = inr (subst (λ q. T (is_letter q)) (sym w.2) tt)

    -- ---- the places of the formulas

    formulas-many-suc : suc (length (map positive (globals_of (formulas s)))) ≡ r.formulas
    formulas-many-suc = let a = formulas-suc s z in let b = length-map (globals_of (formulas s)) positive in let c = x.many in omega arith

    formula-inside : (j : ℕ) → j < r.formulas → get_or r.places j 0 < length ms
    formula-inside j h = let n = table-length in let l = length-map (formulas s) positive in let m = x.many in let b = x.placed.below j (omega arith) in omega arith

    formula-form : (j : ℕ) → j < r.formulas → form ms (get_or r.places j 0) ≡ get_or (map positive (globals_of (formulas s)) ++ (positive (goal_of (formulas s)) ∷ [])) j tru
    unfolding form
    formula-form j h = x.placed.at j (let l = length-map (formulas s) positive in let m = x.many in omega arith) ∙ ap (λ l. get_or l j tru) (sym (forms-split s z))

    pub goal : form ms (get_or r.places (r.formulas - 1) 0) ≡ positive (goal_of (formulas s))
    goal =
        let n = formulas-many-suc in
        formula-form (r.formulas - 1) (omega arith)
        ∙ get_or_at (map positive (globals_of (formulas s))) (positive (goal_of (formulas s))) [] tru (r.formulas - 1) (omega arith)

    pub goal-inside : get_or r.places (r.formulas - 1) 0 < length ms
    goal-inside = let n = formulas-many-suc in formula-inside (r.formulas - 1) (omega arith)

    pub global : (j : ℕ) → j < r.formulas - 1 → form ms (get_or r.places j 0) ≡ get_or (map positive (globals_of (formulas s))) j tru
    global j h =
        let n = formulas-many-suc in
        formula-form j (omega arith)
        ∙ get_or-append (map positive (globals_of (formulas s))) (positive (goal_of (formulas s)) ∷ []) tru j (omega arith)

    pub global-inside : (j : ℕ) → j < r.formulas - 1 → get_or r.places j 0 < length ms
    global-inside j h = formula-inside j (omega arith)

    -- the globals' places, as a list
    pub globals-map : (globals : List ℕ) → length globals ≡ r.formulas - 1 → ((j : ℕ) → j < r.formulas - 1 → get_or globals j 0 ≡ get_or r.places j 0) → map (form ms) globals ≡ map positive (globals_of (formulas s))
    globals-map globals e f =
        let n = formulas-many-suc in
        let m = length-map globals (form ms) in
        ext_get_or tru (map (form ms) globals) (map positive (globals_of (formulas s))) (omega arith)
        (λ j h. map_at (form ms) globals j (omega arith) ∙ ap (form ms) (f j (omega arith)) ∙ global j (omega arith))

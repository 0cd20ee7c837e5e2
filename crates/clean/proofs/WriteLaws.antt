-- From a reading to its clean text, call by call: what measuring and putting ask, and what they leave. Assumes nothing.
use mathlib.Core.Path.{◌≡◌, refl, sym, ap, ap₂, ◌∙◌, subst}
use mathlib.Core.Bool.{Bool, true, false, cond, ◌||◌}
use mathlib.Core.List.{List, [], ◌∷◌, ◌++◌, map}
use Prim.Native.Nat.{ℕ, suc, ◌+◌, ◌^◌, ◌≤◌, ◌<◌}
use native.Mathlib.Nat.{zero-add}
use native.Mathlib.Omega.{arith}
use lib.Dec.{ltb}
use lib.ListN.{length, get_or, take, drop, length-append, length-map}
use lib.Seq.{get_or-take, length-take-le}
use borrow.Author.Tests.{lt-ltb, le-ltb}
use Rattle.ctl.specs.Formula.{Form, tru}
use Rattle.ctl.specs.Print.{print}
use Rattle.ctl.proofs.ListLaws.{get_d-in}
use Rattle.members.specs.Members as Members
use Rattle.members.specs.Grown.{Ready}
use Rattle.members.proofs.MemberLaws.{forms-length}
use Rattle.prints.specs.Prints.{spell_at, print_at, Brief}
use Rattle.buffer.specs.Put.{Put}
use Rattle.buffer.proofs.PutLaws.{put-join}
use Rattle.layout.specs.Layout.{any_long, line_of, lines, lines_from, unlines}
use Rattle.layout.proofs.FrontLaws.{front-lines, line-short, sheet-small, unlines-append}
use Rattle.sheet.specs.Reading.{formulas, spell_of}
use Rattle.sheet.specs.Refusal.{read_refusal}
use Rattle.sheet.proofs.RefusalLaws.{right-layout, right-length}
use Rattle.sheet.proofs.SizeLaws.{formulas-many, texts-five}
use Rattle.reader.specs.declared.Reading.{Reading}
use Rattle.reader.specs.Reader.{Says, forms}
use Rattle.reader.proofs.SpellLaws.{spell-line}
use Rattle.clean.specs.Clean.{clean_lines, clean_text, clean_wrong, formula_lines}
use Rattle.clean.specs.Written.{Among, length_by, lines_at, Written}
use Rattle.std.specs.Prelude.{Option, Some, None}

-- ---- a sheet's clean text, or that it does not fit

module _ (s d : List ℕ) where
  written_over : clean_wrong s (length d) ≡ true → Written s d None d
  written_over e = record { answer = rw e; store-holds = rw e }

  written-fits : {d' : List ℕ} → clean_wrong s (length d) ≡ false → d' ≡ clean_text s ++ drop (length (clean_text s)) d → Written s d (Some (length (clean_text s))) d'
  written-fits e h = record { answer = rw e; store-holds = rw e h }

-- which answer a measure of lines is
over-out : (b : Bool) (k : ℕ) → cond b None (Some k) ≡ None → b ≡ true
over-out true k e = refl
over-out false k e = absurd (let z : ◌≡◌ {A = ℕ} 0 1 = cc in omega arith)

bytes-out : (b : Bool) (k : ℕ) {n : ℕ} → cond b None (Some k) ≡ Some n → (b ≡ false) × (n ≡ k)
bytes-out true k e = absurd (let z : ◌≡◌ {A = ℕ} 0 1 = cc in omega arith)
bytes-out false k e = (refl, cc)

-- ---- a reading

-- what stands at some places, one by one, is a list
all-at : (f : ℕ → Form) (ps : List ℕ) (fs : List Form) → length ps ≡ length fs → ((j : ℕ) → j < length fs → f (get_or ps j 0) ≡ get_or fs j tru) → map f ps ≡ fs
all-at f [] [] e h = refl
all-at f [] (p ∷ fs) e h = absurd (omega arith)
all-at f (i ∷ ps) [] e h = absurd (omega arith)
all-at f (i ∷ ps) (p ∷ fs) e h = ap₂ (λ a l. a ∷ l) (h 0 (omega arith)) (all-at f ps fs (omega arith) (λ j k. h (suc j) (omega arith)))

-- a sheet that was read, what it says, and how long the reading's arrays are
pub record Given (s : List ℕ) (r : Reading) : Type 0 where
  pub read : read_refusal s ≡ 0
  pub says : Says s r
  pub table-long : length r.members ≡ 136
  pub places-long : length r.places ≡ 5

module _ {s : List ℕ} {r : Reading} (g : Given s r) where
  abbrev x : Says s r
  x = g.says

  abbrev words : List ℕ
  words = take r.symbols r.words

  abbrev table : List ℕ
  table = take r.count r.members

  abbrev places : List ℕ
  places = take r.formulas r.places

  abbrev form : ℕ → Form
  form i = get_or (Members.forms table) i tru

  spell-is : spell_at words ≡ spell_of s
  spell-is = spell-line s x.words_are

  -- ---- what measuring and putting ask of the table
  pub measure-asked : (lens : List ℕ) → length lens ≡ 136 → Brief r.members r.count lens words
  unfolding print_at
  measure-asked lens e =
      let t = x.tabled in
      let m = g.table-long in
      let k = t.room in
      let n = length-take-le r.count r.members k in
      record {
        room = t.room;
        members = t.members;
        lens-room = omega arith;
        short = λ i l. subst (λ spell. length (print spell (form i)) < 2 ^ 32) (sym spell-is) (x.brief (form i) (t.only (form i) (get_d-in tru (Members.forms table) i (omega (arith, forms-length table)))));
      }

  pub table-ready : Ready r.members r.count
  table-ready = let m = g.table-long in record { room = x.tabled.room; small = omega arith; members = x.tabled.members }

  -- ---- the formulas at their places
  formulas-five : r.formulas ≤ 5
  formulas-five = let a = texts-five s g.read in let b = formulas-many s g.read in let c = x.many in omega arith

  pub formulas-within : r.formulas ≤ length r.places
  formulas-within = let a = formulas-five in let b = g.places-long in omega arith

  places-many : length places ≡ r.formulas
  places-many = length-take-le r.formulas r.places formulas-within

  pub places-few : length places ≤ 5
  places-few = let a = formulas-five in let b = places-many in omega arith

  forms-many : length (forms s) ≡ r.formulas
  forms-many = length-map (formulas s) _ ∙ sym x.many

  place_at : (j : ℕ) → j < length (forms s) → get_or places j 0 ≡ get_or r.places j 0
  place_at j h = get_or-take r.formulas r.places j 0 (let b = forms-many in omega arith)

  pub places-among : Among r.count places
  places-among j h = let k : j < length (forms s) = (let a = places-many in let b = forms-many in omega arith) in rw (place_at j k) (x.placed.below j k)

  lines_are : lines_at r.members r.count words places ≡ formula_lines (spell_of s) (forms s)
  lines_are = ap₂ formula_lines spell-is (all-at form places (forms s) (places-many ∙ sym forms-many) (λ j h. ap form (place_at j h) ∙ x.placed.at j h))

  -- ---- behind the first two lines
  module _ {from : ℕ} (front : (from ≤ length s) × (lines_from s from ≡ drop 2 (lines s))) where
    abbrev ls : List (List ℕ)
    ls = lines_at r.members r.count words places

    pub front-small : from ≤ 1024
    front-small = let a = sheet-small s (right-length s g.read) in let b = front.0 in omega arith

    text-is : clean_text s ≡ take from s ++ unlines ls
    unfolding clean_text
    text-is = unlines-append (line_of s 0 ∷ line_of s 1 ∷ []) (formula_lines (spell_of s) (forms s)) ∙ ap₂ (λ a l. a ++ unlines l) (sym (front-lines s from (right-layout s g.read) front.0 front.1)) (sym lines_are)

    text-long : length (clean_text s) ≡ from + length (unlines ls)
    text-long = ap length text-is ∙ (length-append (take from s) (unlines ls) ∙ ap (λ n. n + length (unlines ls)) (length-take-le from s front.0))

    long-is : any_long (clean_lines s) ≡ any_long ls
    unfolding any_long
    long-is = rw (le-ltb 200 (length (line_of s 0)) (line-short s (right-length s g.read) 0), le-ltb 200 (length (line_of s 1)) (line-short s (right-length s g.read) 1)) (ap any_long (sym lines_are))

    module _ {o : Option ℕ} (e : o ≡ length_by from ls) where
      pub over-lines : {d : List ℕ} → o ≡ None → Written s d None d
      unfolding clean_wrong
      over-lines {d} i = written_over s d (rw (long-is, over-out (any_long ls) (from + length (unlines ls)) (sym e ∙ i)))

      module _ {size : ℕ} (i : o ≡ Some size) where
        measured : (any_long ls ≡ false) × (size ≡ from + length (unlines ls))
        measured = bytes-out (any_long ls) (from + length (unlines ls)) (sym e ∙ i)

        size_is : size ≡ length (clean_text s)
        size_is = measured.1 ∙ sym text-long

        -- no line is too long, so the size alone decides
        wrong-is : (n : ℕ) → clean_wrong s n ≡ (ltb 1024 size || ltb n size)
        unfolding clean_wrong
        wrong-is n = rw (long-is, measured.0, size_is)

        pub over-text : {d : List ℕ} → 1024 < size → Written s d None d
        over-text {d} h = written_over s d (wrong-is (length d) ∙ rw (lt-ltb 1024 size h))

        pub over-store : {d : List ℕ} → size ≤ 1024 → length d < size → Written s d None d
        over-store {d} k h = written_over s d (wrong-is (length d) ∙ rw (le-ltb 1024 size k, lt-ltb (length d) size h))

        pub front-room : {n : ℕ} → size ≤ n → 0 + length (take from s) ≤ n
        front-room h = let a = measured.1 in let b = length-take-le from s front.0 in omega arith

        module _ {d d₁ : List ℕ} {at : ℕ} (p : Put 0 (take from s) d d₁ at) (h : size ≤ length d) where
          pub lines-room : length d₁ ≡ length d → at + length (unlines ls) ≤ length d₁
          lines-room l = let a = measured.1 in let b = length-take-le from s front.0 in let c = p.used in omega arith

          pub text-put : {d₂ : List ℕ} {n : ℕ} → size ≤ 1024 → Put at (unlines ls) d₁ d₂ n → Written s d (Some size) d₂
          text-put k q =
              let w : clean_wrong s (length d) ≡ false = wrong-is (length d) ∙ rw (le-ltb 1024 size k, le-ltb (length d) size h) in
              let t = (put-join (omega arith) p q).holds in
              rw size_is (written-fits s d w (t ∙ ap₂ (λ a n. a ++ drop n d) (sym text-is) (zero-add (length (take from s ++ unlines ls)) ∙ ap length (sym text-is))))

-- From what the reader of sheets, the closing and the lean's finding promise to what the whole reading does. Assumes nothing.
use mathlib.Core.Path.{◌≡◌, sym, ap, ◌∙◌, subst}
use mathlib.Core.Logic.{◌⊎◌, inl, inr}
use mathlib.Core.List.{List, [], ◌∷◌, map}
use Prim.Native.Nat.{ℕ, zero, suc, ◌+◌, ◌-◌, ◌^◌, ◌≤◌, ◌<◌}
use native.Mathlib.Omega.{arith}
use lib.ListN.{length, get_or, take, length-map}
use Rattle.std.specs.Prelude.{Result, Ok, Err, Option, Some, None}
use Rattle.std.specs.Result.{IsErr, IsErrAnd}
use Rattle.refusal.specs.declared.Refusal.{Refusal}
use Rattle.refusal.specs.Number.{number_of}
use Rattle.refusal.proofs.NumberLaws.{number-some}
use lib.Seq.{get_or-take, length-take-le}
use Rattle.ctl.specs.Lists.{◌∈◌}
use Rattle.ctl.specs.Formula.{Form, lit}
use Rattle.ctl.specs.Raw.{Raw}
use Rattle.ctl.specs.Positive.{positive}
use Rattle.ctl.specs.Print.{print}
use Rattle.ctl.specs.Alphabet.{Alphabet, Over}
use Rattle.ctl.specs.Lean.{lean}
use Rattle.ctl.proofs.ListLaws.{kept-below, map-out}
use Rattle.ctl.proofs.LeanOrder.{with_out, with-over}
use Rattle.syntax.specs.Raw.{At}
use Rattle.head.specs.Head.{spellings, kinds}
use Rattle.head.proofs.Spellings.{sheet-spellings}
use Rattle.sheet.specs.declared.Sheet.{Sheet}
use Rattle.sheet.specs.Refusal.{read_refusal}
use Rattle.sheet.specs.Sheet.{sheet_refusal, Right}
use Rattle.sheet.specs.Reading.{formulas, values_in}
use Rattle.sheet.proofs.RefusalLaws.{sheet-refusal, right-kinds}
use Rattle.sheet.proofs.DeclaredLaws.{formulas-over}
use Rattle.sheet.proofs.SizeLaws.{formulas-many, texts-five, formula-size, end-within, formula-at}
use Rattle.sheet.proofs.Alphabet.{sheet-alphabet}
use Rattle.closure.specs.Given.{Given}
use Rattle.closure.specs.Closed.{Closes, Placed, ClosedIs, within, beyond, ClosedAs}
use Rattle.members.specs.Grown.{Ready, Tabled}
use Rattle.members.proofs.StepLaws.{grows_at}
use Rattle.values.specs.Values.{is_value, value_forms, Extended}
use Rattle.values.proofs.TableLaws.{tabled-with}
use Rattle.prints.specs.Prints.{spell_at}
use Rattle.lean.proofs.LengthLaws.{member-length, spell-short}
use Rattle.lean.specs.Leaned.{Leaning, Leans, Leaned, LeanIs, LeanAs}
use Rattle.closure.proofs.GivenLaws.{over-fits, over-signed}
use Rattle.reader.specs.declared.Reading.{Reading}
use Rattle.reader.specs.Reader.{forms, members, tabled, places, refusal_within, Says, ReadIs, RootsAre}
use Rattle.spelling.specs.Spelling.{word}
use Rattle.reader.proofs.SpellLaws.{spell-line}
use Rattle.reader.proofs.NumberLaws.{within-read, within-nine, within-ten, within_none}

pub take_within : (n : ℕ) (xs : List ℕ) → length (take n xs) ≡ n → n ≤ length xs
take_within zero xs e = omega arith
take_within (suc n) [] e = absurd (omega arith)
take_within (suc n) (x ∷ xs) e = let h = take_within n xs (omega arith) in omega arith

-- there are as many words as symbols
pub words-within : {s : List ℕ} {r : Reading} → Says s r → r.symbols ≤ length r.words
words-within {s} {r} x = take_within r.symbols r.words (ap length x.words_are ∙ length-map (spellings s) word ∙ sym x.symbols)

pub still-few : {m n : ℕ} → m ≡ n → (0 < n) × (n ≤ 1024) → (0 < m) × (m ≤ 1024)
still-few e h = let a = h.0 in let b = h.1 in (omega arith, omega arith)

-- a sheet that is not read has the lowest of the refusals 1 to 8
pub refused-read : (most wide : ℕ) (s : List ℕ) (e : Refusal) (r : Result Reading Refusal) → IsErr r × IsErrAnd r (λ x. x ≡ e) → sheet_refusal s ≡ number_of e → ReadIs most wide s r
refused-read most wide s e (Ok r) a f = absurd a.1
refused-read most wide s e (Err x) a f =
    let g : read_refusal s ≡ number_of e = sym (sheet-refusal s) ∙ f in
    within-read most wide s (λ z. number-some e (sym g ∙ z)) ∙ g ∙ ap number_of (sym a.1)

module _ {s tab' : List ℕ} {h : Sheet} (x : (sheet_refusal s ≡ 0) × Right s tab' h) (full : (0 < length tab') × (length tab' ≤ 1024)) where
  none : read_refusal s ≡ 0
  none = sym (sheet-refusal s) ∙ x.0

  right : Right s tab' h
  right = x.1

  -- at most five formulas
  lines-five : h.lines ≤ 5
  lines-five = let a = texts-five s none in let b = right.lines in omega arith

  -- at most 8 symbols have a kind, and values are among them
  kinds-few : length (kinds s) ≤ 8
  kinds-few = let a = right-kinds s none in let b = (sheet-spellings s).few in omega arith

  values-few : (k : ℕ) → k ∈ values_in s → k < length (spellings s)
  values-few k m = let a = ((kept-below (is_value (kinds s)) (length (kinds s)) k).0 m).0 in let b = right-kinds s none in omega arith

  forms-over : (p : Form) → p ∈ forms s → Over (length (spellings s)) p
  forms-over p m = let r = map-out positive (formulas s) m in subst (Over (length (spellings s))) (sym r.2) (over-signed (length (spellings s)) r.0 (formulas-over s none r.0 r.1)).0

  pub words-line : take h.symbols h.words ≡ map word (spellings s)
  words-line = right.words_are

  pub kinds-within : h.symbols ≤ length h.kinds
  kinds-within = let a = right-kinds s none in let b = right.symbols in take_within h.symbols h.kinds (omega (arith, ap length right.kinds-are))

  pub symbols-within : h.symbols ≤ length h.words
  symbols-within = take_within h.symbols h.words (ap length words-line ∙ length-map (spellings s) word ∙ sym right.symbols)

  module _ {all : List ℕ} (is : RootsAre h.ends all) where
    abbrev roots : List ℕ
    roots = take h.lines all

    pub lines-within : h.lines ≤ length all
    lines-within = let a = lines-five in let b = is.five in omega arith

    roots-length : length roots ≡ h.lines
    roots-length = length-take-le h.lines all lines-within

    root-at : (j : ℕ) → j < length roots → get_or roots j 0 ≡ get_or (take h.lines h.ends) j 0 - 1
    root-at j l =
        let n = roots-length in
        let f = lines-five in
        get_or-take h.lines all j 0 (omega arith) ∙ is.each j (omega arith) ∙ ap (λ (k : ℕ). k - 1) (sym (get_or-take h.lines h.ends j 0 (omega arith)))

    pub given : Given tab' roots (formulas s)
    given = record {
      many = formulas-many s none ∙ sym (roots-length ∙ right.lines);
      at = λ j l. (let n = roots-length in subst (λ k. At tab' (get_or (formulas s) j Raw.zero) k) (sym (root-at j l)) (formula-at s none right.lines right.stored j (omega arith)));
    }

    pub closes : {tab places : List ℕ} → length tab ≡ 136 → length places ≡ 5 → Closes tab' roots tab places
    closes {tab} {places} a b = record {
      few = full.1;
      roots-in = λ j l. (let some = full.0 in let n = roots-length in let e = root-at j l in let w = end-within s none right.lines right.stored j (omega arith) in omega arith);
      formulas = formulas s;
      given = given;
      fits = λ p m. over-fits (length (spellings s)) (let f = (sheet-spellings s).few in omega arith) p (formulas-over s none p m);
      small = omega arith;
      room = let n = roots-length in let f = lines-five in omega arith;
    }

    -- ---- the closure was found, or is too large

    module _ {most : ℕ} (limit : most ≤ 128) {tab tab₁ places₀ places₁ : List ℕ} (long : length tab ≡ 136) {a : Option ℕ} (found : ClosedAs tab' roots tab tab₁ places₀ places₁ a) where
      pub refused-beyond : (wide : ℕ) → a ≡ None → refusal_within most wide s ≡ 9
      refused-beyond wide e = go (subst (ClosedIs (forms s) tab tab₁ places₀ places₁) e (found (formulas s) given))
        where
          go : ClosedIs (forms s) tab tab₁ places₀ places₁ None → refusal_within most wide s ≡ 9
          go (beyond l n k) = within-nine most wide s none (omega arith)

      module _ {m : ℕ} (e : a ≡ Some m) where
        case : ClosedIs (forms s) tab tab₁ places₀ places₁ (Some m)
        case = subst (ClosedIs (forms s) tab tab₁ places₀ places₁) e (found (formulas s) given)

        table_is : Tabled (members s) tab₁ m
        table_is = go case
          where
            go : ClosedIs (forms s) tab tab₁ places₀ places₁ (Some m) → Tabled (members s) tab₁ m
            go (within t p n d q) = t

        room-is : length tab₁ ≡ 136
        room-is = go case
          where
            go : ClosedIs (forms s) tab tab₁ places₀ places₁ (Some m) → length tab₁ ≡ 136
            go (within t p n d q) = n ∙ long

        places-are : Placed (forms s) tab₁ places₁ m
        places-are = go case
          where
            go : ClosedIs (forms s) tab tab₁ places₀ places₁ (Some m) → Placed (forms s) tab₁ places₁ m
            go (within t p n d q) = p

        pub refused-many : (wide : ℕ) → most < m → refusal_within most wide s ≡ 9
        refused-many wide l = let c = table_is.count in within-nine most wide s none (omega arith)

        -- ---- the values that do not occur were put behind it

        module _ {wide : ℕ} (fits : m ≤ most) (short : wide ≤ 12) where
          pub values-ask : Ready tab₁ m × (m + length (take h.symbols h.kinds) ≤ length tab₁)
          values-ask =
              let n = room-is in
              (record { room = table_is.room; small = omega arith; members = table_is.members }, omega (arith, ap length right.kinds-are, kinds-few))

          module _ {tab₂ : List ℕ} {v : ℕ} (put : Extended (value_forms (take h.symbols h.kinds)) tab₁ m tab₂ v) where
            extended : Extended (map lit (values_in s)) tab₁ m tab₂ v
            extended = subst (λ ks. Extended (value_forms ks) tab₁ m tab₂ v) right.kinds-are put

            all-tabled : Tabled (tabled s) tab₂ v
            all-tabled = tabled-with (values_in s) table_is extended

            still_placed : Placed (forms s) tab₂ places₁ v
            still_placed = record {
              below = λ j l. (let a = places-are.below j l in let b = extended.up in omega arith);
              at = λ j l. grows_at extended.grows (get_or places₁ j 0) (let a = places-are.below j l in omega (arith, length-take-le m tab₁ table_is.room)) ∙ places-are.at j l;
            }

            -- ---- its lean was found, or is too long

            module _ {ls : List ℕ} (line : ls ≡ map word (spellings s)) where
              -- a print is no longer than that of a closure member of a formula of 1024 nodes
              brief : (p : Form) → p ∈ tabled s → length (print (spell_at ls) p) < 2 ^ 32
              unfolding print
              brief p i = go p (with_out (members s) (values_in s) i)
                where
                  go : (p : Form) → (p ∈ members s) ⊎ ((k : ℕ) × (k ∈ values_in s) × (p ≡ lit k)) → length (print (spell_at ls) p) < 2 ^ 32
                  go p (inl c) = let k = member-length (spell_at ls) (spell-short ls) (formulas s) 1024 (λ f j. (let a = formula-size s none right.lines right.stored f j in omega arith)) p c in omega arith
                  go p (inr w) = subst (λ f. length (print (spell_at ls) f) < 2 ^ 32) (sym w.2) (let k = spell-short ls w.0 in omega arith)

              leaning : Leaning (tabled s) (length (spellings s)) tab₂ v ls
              leaning = record {
                tabled = all-tabled;
                spellings = subst (λ k. Alphabet k (length (spellings s))) (sym (spell-line s line)) (sheet-alphabet s);
                over = with-over (length (spellings s)) (forms s) forms-over (values_in s) values-few;
                short = brief;
              }

              pub leans : Leans tab₂ v ls
              leans = record { formulas = tabled s; count = length (spellings s); leaning = leaning }

              module _ (l l' : List ℕ) (room : length l ≡ 12) (g : Option ℕ) (gathered : LeanAs tab₂ v ls l l' g) where
                lean-case : LeanIs (places s) (take v tab₂) l l' g
                lean-case = subst (λ k. LeanIs (lean k (tabled s)) (take v tab₂) l l' g) (spell-line s line) (gathered (tabled s) (length (spellings s)) leaning)

                pub refused-crowded : g ≡ None → refusal_within most wide s ≡ 10
                refused-crowded q =
                    let k = subst (LeanIs (places s) (take v tab₂) l l') q lean-case in
                    within-ten most wide s none (let c = table_is.count in omega arith) (omega (arith, k.0))

                module _ {w : ℕ} (q : g ≡ Some w) where
                  width_is : Leaned (places s) (take v tab₂) l l' w
                  width_is = subst (LeanIs (places s) (take v tab₂) l l') q lean-case

                  pub refused-wide : wide < w → refusal_within most wide s ≡ 10
                  refused-wide k = let c = width_is.count in within-ten most wide s none (let d = table_is.count in omega arith) (omega arith)

                  pub accepted-is : w ≤ wide
                      → ReadIs most wide s (Ok (record { symbols = h.symbols; words = h.words; kinds = h.kinds; formulas = h.lines; places = places₁; count = v; members = tab₂; width = w; lean = l' }))
                  accepted-is k = (
                    within_none most wide s none (let d = table_is.count in omega arith) (let c = width_is.count in omega arith),
                    record {
                      symbols = right.symbols;
                      words_are = right.words_are;
                      kinds-are = right.kinds-are;
                      many = right.lines ∙ sym (formulas-many s none);
                      tabled = all-tabled;
                      placed = still_placed;
                      lean-many = width_is.count;
                      brief = subst (λ k. (p : Form) → p ∈ tabled s → length (print k p) < 2 ^ 32) (spell-line s line) brief;
                      lean-are = width_is.members;
                    },
                  )

-- What the set-up of a sheet that is not refused gives to every operation. Assumes nothing.
use mathlib.Core.Path.{◌≡◌, sym, ap, ap₂, ◌∙◌, subst}
use mathlib.Core.List.{List, ◌++◌}
use Prim.Native.Nat.{ℕ, ◌+◌, ◌*◌, ◌^◌, ◌≤◌, ◌<◌}
use native.Mathlib.Omega.{arith}
use lib.ListN.{length, drop, length-map}
use lib.Seq.{length-take-le}
use Rattle.ctl.specs.Positive.{positive}
use Rattle.ctl.specs.Tableau.{Tableau, namings, start_types}
use Rattle.ctl.specs.Verdict.{rounds_of, surviving_types}
use Rattle.sheet.specs.Reading.{formulas, goal_of}
use Rattle.tableau.specs.Families.{Ready, Rounds, Survivors}
use Rattle.tableau.specs.declared.words.Sheet.{Sheet}
use Rattle.tableau.specs.Sheets.{rounds_of as sheet_rounds, starts_of, survivors_of}
use Rattle.truth.specs.Blocks.{list_of}
use Rattle.start.specs.Starts.{Based, in_base, start_list}
use Rattle.tableau.specs.Tabled.{Tabled}
use Rattle.truth.specs.Tables.{form, lean_forms}
use Rattle.tableau.specs.declared.table.Counts.{Counts}
use Rattle.tableau.proofs.TableauLaws.{store-types, surviving-types, tabled}
use Rattle.prepare.specs.Prepared.{tableau_in}
use Rattle.judge.specs.Judged.{Judged, Placed, Places, goals_at, goals_of, verdict_of}
use Rattle.judge.specs.declared.Verdict.{Verdict}
use Rattle.wordset.specs.Words.{packed}
use Rattle.ctl.specs.Lists.{elem}
use Rattle.booking.specs.Booked.{tables_by}
use Rattle.booking.proofs.BookLaws.{tables-ext}
use Rattle.frame.specs.Framed.{Framed}
use Rattle.frame.specs.SetUp.{Accepts, frame_in, globals_in, lean_in, members_in, names_in, values_in}
use Rattle.frame.specs.declared.Setup.{Setup}
use Rattle.frame.specs.Sheets.{SheetOf}
use Rattle.frame.proofs.Stores as Stores
use Rattle.frame.proofs.Stores.{enough-words}
use Rattle.frame.proofs.VerdictLaws.{framed-verdict}
use Rattle.prepare.specs.Width.{words_for}
use Rattle.fitted.specs.Accepted.{TabledIn, book_in, verdict_in, words_in}

module _ {s : List ℕ} {u : Setup} (x : Accepts s u) where
  abbrev S : Tableau
  S = tableau_in s

  framed : Framed S (positive (goal_of (formulas s))) (members_in u) (lean_in u) (globals_in u) (names_in u) (values_in u) (frame_in u)
  framed = x.framed

  pub few_words : u.words ≤ 64
  few_words = Stores.few_words framed

  enough : 2 ^ length (lean_in u) ≤ u.words * 64
  enough = enough-words framed

  pub namings-are : u.namings ≡ namings S
  namings-are = framed.namings-are

  lean-length : length S.ln ≡ length (lean_in u)
  unfolding lean_forms
  lean-length = ap length framed.matches.lean ∙ length-map (lean_in u) (form (members_in u))

  pub width_is : u.width ≡ length S.ln
  width_is = sym (length-take-le u.width u.lean x.lean-within) ∙ sym lean-length

  pub short-lean : u.width ≤ 60
  short-lean = let e = width_is in let l = lean-length in let h = framed.sound.leans.short in omega arith

  pub words_are : u.words ≡ words_in s
  unfolding words_in
  words_are = framed.words_are ∙ ap words_for (sym lean-length)

  -- what a store holds that has a naming's surviving types in its first words
  pub store-lists : (r : ℕ) (d d' : List ℕ) → u.words ≤ length d → d' ≡ packed (words_in s) (λ t. elem t (surviving_types S r)) d → list_of u.words d' ≡ surviving_types S r
  store-lists r d d' h e =
      store-types S u.words (subst (λ n. 2 ^ n ≤ u.words * 64) (sym lean-length) enough) r d d' h
      (e ∙ ap (λ w. packed w (λ t. elem t (surviving_types S r)) d) (sym words_are))

  pub few-namings : u.namings ≤ 2 ^ 22
  few-namings = framed.few-namings

  -- ---- the words that are computed once

  -- there are few members
  pub few-members : u.count ≤ 136
  few-members = let a = framed.sound.few in let b = length-take-le u.count u.members x.members-within in omega arith

  module _ {tw cw ns base : List ℕ} (f : Ready (members_in u) (lean_in u) u.words tw cw ns × Based u.words (in_base (members_in u) (lean_in u) (globals_in u) (values_in u)) (names_in u) base) (l : u.words + u.words ≤ length base) where
    places : Places u.words (lean_in u) (names_in u) base
    places = record { named = framed.named; enough = enough; base-room = l }

    -- ---- one naming's table

    pub fill-asked : {m k : ℕ} → (u.words ≤ m) × (u.words ≤ k)
        → Ready (members_in u) (lean_in u) u.words tw cw ns × (Places u.words (lean_in u) (names_in u) base × ((u.words ≤ 64) × ((u.words ≤ m) × (u.words ≤ k))))
    fill-asked h = (f.0, (places, (few_words, h)))

    module _ (r : ℕ) where
      abbrev start : List ℕ
      start = start_list u.words base (names_in u) (length (lean_in u)) r

      pub table_filled : {first second first' second' : List ℕ} {c : Counts} → Tabled start (Survivors (members_in u) (lean_in u) start) (Rounds (members_in u) (lean_in u) start) u.words first second first' second' c
          → TabledIn s r first second first' second' c
      table_filled {first} {second} {first'} {second'} {c} t =
          subst (λ w. Tabled (start_types S r) (surviving_types S r) (rounds_of S r) w first second first' second' c) words_are
          (tabled framed.matches u.words base f.1 enough r t)

      pub survivors-are : Survivors (members_in u) (lean_in u) start ≡ surviving_types S r
      survivors-are = surviving-types framed.matches u.words base f.1 enough r

    -- ---- the tables of all namings

    pub book-asked : (k : ℕ) → u.namings * u.words ≤ k
        → Ready (members_in u) (lean_in u) u.words tw cw ns × (Places u.words (lean_in u) (names_in u) base × ((u.words ≤ 64) × (u.namings * u.words ≤ k)))
    book-asked k h = (f.0, (places, (few_words, h)))

    pub book-filled : (d : List ℕ) {d' : List ℕ} → d' ≡ tables_by u.words (λ r t. elem t (Survivors (members_in u) (lean_in u) (start_list u.words base (names_in u) (length (lean_in u)) r))) u.namings ++ drop (u.namings * u.words) d → d' ≡ book_in s d
    book-filled d e =
        e ∙ ap (λ l. l ++ drop (u.namings * u.words) d) (tables-ext u.words _ _ u.namings (λ r t. ap (elem t) (survivors-are r)))
        ∙ ap₂ (λ w n. tables_by w (λ r t. elem t (surviving_types S r)) n ++ drop (n * w) d) words_are namings-are

    -- ---- judging

    pub judge-asked : Ready (members_in u) (lean_in u) u.words tw cw ns × (Places u.words (lean_in u) (names_in u) base × ((u.words ≤ 64) × (u.goal < length (members_in u))))
    judge-asked = (f.0, (places, (few_words, framed.goal-inside)))

    pub judged : {v : Verdict} → Judged (goals_at (members_in u) (lean_in u) u.words base (names_in u) u.goal) u.namings v → verdict_in s ≡ verdict_of v
    unfolding verdict_in
    judged j = framed-verdict framed base f.1 j

-- ---- the same of what the sheet's tables are made from

-- what is so of a sheet's members, lean, names and words is so of the set-up's
pub by-parts : (P : List ℕ → List ℕ → List ℕ → ℕ → Type 0) {ms ms' ln ln' names names' : List ℕ} {w w' : ℕ} → ms ≡ ms' → ln ≡ ln' → names ≡ names' → w ≡ w' → P ms ln names w → P ms' ln' names' w'
by-parts P {ms} {ms'} {ln} {ln'} {names} {names'} {w} {w'} e f g h x =
    subst (λ a. P a ln' names' w') e (subst (λ a. P ms a names' w') f (subst (λ a. P ms ln a w') g (subst (λ a. P ms ln names a) h x)))

module _ {s : List ℕ} {u : Setup} (x : Accepts s u) {t : Sheet} (f : SheetOf u t) where
  pub ready-of : Ready (members_in u) (lean_in u) u.words t.words.tw.now t.words.cw.now t.words.ns.now × Based u.words (in_base (members_in u) (lean_in u) (globals_in u) (values_in u)) (names_in u) t.base.now
  ready-of =
      (by-parts (λ ms ln names w. Ready ms ln w t.words.tw.now t.words.cw.now t.words.ns.now) f.members-are f.lean-is f.names-are f.width-is f.prepared, f.based)

  pub placed-of : Placed t
  placed-of =
      by-parts (λ ms ln names w. Places w ln names t.base.now) (sym f.members-are) (sym f.lean-is) (sym f.names-are) (sym f.width-is) (places x ready-of f.base-room)

  pub few-of : t.words.w ≤ 64
  few-of = subst (λ w. w ≤ 64) (sym f.width-is) (few_words x)

  pub goal-of : u.goal < length t.ms.now
  goal-of = subst (λ ms. u.goal < length ms) (sym f.members-are) (framed x).goal-inside

  pub room-of : {k : ℕ} → u.words ≤ k → t.words.w ≤ k
  room-of {k} h = subst (λ w. w ≤ k) (sym f.width-is) h

  pub table-of : (r : ℕ) {first second first' second' : List ℕ} {c : Counts} → Tabled (starts_of t r) (survivors_of t r) (sheet_rounds t r) t.words.w first second first' second' c → TabledIn s r first second first' second' c
  table-of r {first} {second} {first'} {second'} {c} h =
      table_filled x ready-of f.base-room r
      (by-parts (λ ms ln names w. let l = start_list w t.base.now names (length ln) r in Tabled l (Survivors ms ln l) (Rounds ms ln l) w first second first' second' c) f.members-are f.lean-is f.names-are f.width-is h)

  pub book-of : (d : List ℕ) {d' : List ℕ} → d' ≡ tables_by t.words.w (λ r q. elem q (survivors_of t r)) u.namings ++ drop (u.namings * t.words.w) d → d' ≡ book_in s d
  book-of d {d'} h =
      book-filled x ready-of f.base-room d
      (by-parts (λ ms ln names w. d' ≡ tables_by w (λ r q. elem q (Survivors ms ln (start_list w t.base.now names (length ln) r))) u.namings ++ drop (u.namings * w) d) f.members-are f.lean-is f.names-are f.width-is h)

  pub book-room : {k : ℕ} → u.namings * u.words ≤ k → u.namings * t.words.w ≤ k
  book-room {k} h = subst (λ w. u.namings * w ≤ k) (sym f.width-is) h

  pub verdict-of : {v : Verdict} → Judged (goals_of t u.goal) u.namings v → verdict_in s ≡ verdict_of v
  verdict-of {v} h =
      judged x ready-of f.base-room
      (by-parts (λ ms ln names w. Judged (goals_at ms ln w t.base.now names u.goal) u.namings v) f.members-are f.lean-is f.names-are f.width-is h)

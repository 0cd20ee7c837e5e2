-- Laws of the refusals 1 to 8. Assumes nothing.
use mathlib.Core.Path.{◌≡◌, sym, ap, ◌∙◌}
use mathlib.Core.Bool.{Bool, true, false, cond, ◌&&◌}
use mathlib.Core.List.{List, [], ◌∷◌}
use Prim.Native.Nat.{ℕ, ◌-◌, ◌≤◌, ◌<◌, min}
use native.Mathlib.Omega.{arith}
use lib.Dec.{leb, eqb}
use lib.ListN.{length, drop, length-drop}
use borrow.Author.Tests.{eq-eqb, ne_eqb, lt-ltb, le-ltb, leb-true}
use Rattle.syntax.specs.Parse.{Out, good, bad}
use Rattle.head.specs.declared.Head.{Head}
use native.Mathlib.Decide.{dec_le}
use Rattle.ctl.proofs.BoolLaws.{and_both}
use Rattle.layout.specs.declared.formulas.Span.{Span}
use Rattle.layout.specs.Layout.{lines, texts, texts_of, lines_from, ends_right, starts_right, layout_right, LastText, goal_of, last_of}
use Rattle.head.specs.Head.{layout_refusal, Accepted}
use Rattle.refusal.specs.declared.Refusal.{Refusal}
use Rattle.refusal.specs.Number.{number_of}
use Rattle.std.specs.Prelude.{Result, Ok, Err}
use Rattle.std.specs.Result.{IsErr, IsErrAnd}
use Rattle.sheet.specs.declared.Sheet.{Sheet}
use Rattle.refusal.proofs.NumberLaws.{number-some}
use Rattle.layout.proofs.ScanLaws.{part_length}
use Rattle.layout.proofs.LineLaws.{lines_end}
use Rattle.layout.proofs.FormulaTexts.{texts-length}
use Rattle.sheet.specs.declared.Formulas.{Formulas}
use Rattle.sheet.specs.Refusal.{read, decls}
use Rattle.sheet.specs.Sheet.{found_refusal, line_refusal, lowest, formula_refusal, sheet_refusal, Stored, FormulasRead, Right, SheetRead, goal_under, goal_start}

-- a formula's refusal is 6 at least
known : (a b : Bool) → 6 ≤ cond a 7 (cond b 8 9)
known true b = omega arith
known false true = omega arith
known false false = omega arith

line-six : (o : Out) → 6 ≤ line_refusal o
unfolding line_refusal found_refusal
line-six bad = omega arith
line-six (good p e low) = known (eqb low 7) (eqb low 8)

six-min : (a b : ℕ) → 6 ≤ a → 6 ≤ b → 6 ≤ min a b
six-min a b h k = omega arith

pub lowest-six : (low : ℕ) (decl : List ℕ) (ts : List (List ℕ)) → 6 ≤ low → 6 ≤ lowest low decl ts
unfolding lowest
lowest-six low decl [] h = h
lowest-six low decl (t ∷ ts) h = lowest-six (min low (line_refusal (read decl t))) decl ts (six-min low (line_refusal (read decl t)) h (line-six (read decl t)))

-- the refusals 1 to 5 come first
sheet-first : (s : List ℕ) (e : Refusal) → layout_refusal s ≡ number_of e → sheet_refusal s ≡ number_of e
unfolding sheet_refusal
sheet-first s e f = rw (ne_eqb (layout_refusal s) 0 (λ z. number-some e (sym f ∙ z))) f

pub sheet-refused : (s tab' : List ℕ) (e : Refusal) (r : Result Sheet Refusal) → IsErr r × IsErrAnd r (λ x. x ≡ e) → layout_refusal s ≡ number_of e → SheetRead s tab' r
sheet-refused s tab' e (Ok h) a f = absurd a.1
sheet-refused s tab' e (Err x) a f = sheet-first s e f ∙ ap number_of (sym a.1)

module _ (s tab' : List ℕ) (h : Head) (x : (layout_refusal s ≡ 0) × Accepted s h) where
  -- at most 5 formulas
  pub texts-few : length (texts_of (lines_from s h.from)) ≤ 5
  texts-few = rw (texts-length, x.1.third, length-drop) (omega (arith, x.1.bounded))

  texts-are : texts_of (lines_from s h.from) ≡ texts s
  texts-are = ap texts_of x.1.third

  module _ (f : Formulas) (y : FormulasRead h.decl (texts_of (lines_from s h.from)) tab' f) where
    low-is : f.low ≡ formula_refusal s
    low-is = y.low-is ∙ rw (texts-are, x.1.decl-is)

    pub sheet-low : (k : ℕ) → k < 9 → f.low ≡ k → sheet_refusal s ≡ k
    unfolding sheet_refusal
    sheet-low k l e = rw (eq-eqb (layout_refusal s) 0 x.0, sym low-is ∙ e, lt-ltb k 9 l)

    -- the number is 6 at least
    pub sheet-right : (f.low ≡ 6 → ⊥) → (f.low ≡ 7 → ⊥) → (f.low ≡ 8 → ⊥)
        → (sheet_refusal s ≡ 0) × Right s tab' (record { symbols = h.count; words = h.words; kinds = h.kinds; lines = f.lines; count = f.count; ends = f.ends })
    unfolding sheet_refusal
    sheet-right a b c = (
      rw (eq-eqb (layout_refusal s) 0 x.0, le-ltb (formula_refusal s) 9 nine),
      record {
        symbols = x.1.count;
        words_are = x.1.words_are;
        kinds-are = x.1.kinds-are;
        lines = y.lines ∙ ap length texts-are;
        stored = stored;
      },
    )
      where
        nine : 9 ≤ formula_refusal s
        nine = let six : 6 ≤ formula_refusal s = lowest-six 9 (decls s) (texts s) (omega arith) in omega (arith, low-is)

        stored : Stored (decls s) (texts s) f.lines f.count f.ends tab'
        stored =
            let w = y.then (omega (arith, low-is, nine)) in
            record { inside = w.inside; nodes-are = w.nodes-are ∙ rw (texts-are, x.1.decl-is); ends-are = w.ends-are ∙ rw (texts-are, x.1.decl-is) }

-- the goal's text
pub goal-refused : (s : List ℕ) (k : ℕ) → (k ≡ 0 → ⊥) → [] ≡ goal_under s k
unfolding goal_under
goal-refused s k ne = rw (ne_eqb k 0 ne)

pub goal-is : (s t : List ℕ) (k from : ℕ) → k ≡ 0 → lines_from s from ≡ drop 2 (lines s) → t ≡ last_of [] (texts_of (lines_from s from)) → t ≡ goal_under s k
unfolding goal_under
goal-is s t k from z q l = rw (eq-eqb k 0 z) (l ∙ rw q)

-- ---- where the goal's text begins

pub start-refused : (s : List ℕ) (k : ℕ) → (k ≡ 0 → ⊥) → 0 ≡ goal_start s k
unfolding goal_start
start-refused s k ne = rw (ne_eqb k 0 ne)

-- the third line is there
third-inside : (s : List ℕ) (from : ℕ) → layout_right s ≡ true → lines_from s from ≡ drop 2 (lines s) → from < length s
unfolding layout_right
third-inside s from e q = go (dec_le (length s) from)
  where
    three : 3 ≤ length (lines s)
    three = leb-true 3 (length (lines s)) (and_both (ends_right s) (leb 3 (length (lines s))) (and_both (ends_right s && leb 3 (length (lines s))) (leb (length (lines s)) 7) (and_both (ends_right s && leb 3 (length (lines s)) && leb (length (lines s)) 7) (starts_right (drop 2 (lines s))) e).0).0).1

    go : Dec (length s ≤ from) → from < length s
    go (yes h) = absurd (let n : length (lines_from s from) ≡ 0 = ap length (lines_end s from h) in omega (arith, three, ap length q ∙ length-drop 2 (lines s)))
    go (no h) = omega arith

ends : (s : List ℕ) → layout_right s ≡ true → ends_right s ≡ true
unfolding layout_right
ends s e = (and_both (ends_right s) (leb 3 (length (lines s))) (and_both (ends_right s && leb 3 (length (lines s))) (leb (length (lines s)) 7) (and_both (ends_right s && leb 3 (length (lines s)) && leb (length (lines s)) 7) (starts_right (drop 2 (lines s))) e).0).0).0

pub goal-place : (s : List ℕ) (k from : ℕ) (r : Span) → k ≡ 0 → lines_from s from ≡ drop 2 (lines s) → LastText s from r → layout_right s ≡ true → r.start ≡ goal_start s k
unfolding goal_start
goal-place s k from r z q l e =
    let close = l.closes (ends s e) (third-inside s from e q) in
    let n : r.end - r.start ≡ length (goal_of s) = sym (part_length s r.start r.end l.inside) ∙ ap length (l.is ∙ ap (λ (ls : List (List ℕ)). last_of [] (texts_of ls)) q) in
    let o = l.order in
    rw (eq-eqb k 0 z) (omega arith)

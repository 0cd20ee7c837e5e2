-- Laws of reading the formulas of a sheet. Assumes nothing.
use mathlib.Core.Path.{◌≡◌, refl, sym, ap, ◌∙◌, subst}
use mathlib.Core.List.{List, [], ◌∷◌}
use Prim.Native.Nat.{ℕ, ◌+◌, ◌≤◌, ◌<◌, min}
use native.Mathlib.Nat.{add-zero}
use native.Mathlib.Numerals.{add-one}
use native.Mathlib.Omega.{arith}
use lib.ListN.{length, take, set}
use lib.Seq.{length-take-le, take-suc-set}
use Rattle.std.specs.Prelude.{Option, Some, None}
use Rattle.syntax.specs.declared.nodes.Parsed.{Parsed}
use Rattle.syntax.specs.Parse.{Out, good, bad, line_at, LineReads}
use Rattle.syntax.proofs.Reading.{Read, meets-done, meets-wrong}
use Rattle.layout.specs.Text.{end_of}
use Rattle.layout.specs.Layout.{newline, texts_of, lines_from}
use Rattle.layout.proofs.LineLaws.{none, lines_end}
use Rattle.sheet.specs.declared.One.{One}
use Rattle.sheet.specs.Refusal.{read}
use Rattle.sheet.specs.Sheet.{found_refusal, line_refusal, lowest, trees, nodes_from, ends_from, Left, OneRead, FormulasRead}

-- ---- one formula
module _ (t decl : List ℕ) (n : ℕ) (tab tab' : List ℕ) (r : Option Parsed) (x : LineReads t decl 0 n tab tab' r) where
  module _ (p : Parsed) (d : r ≡ Some p) where
    found : Read (line_at t decl 0) n p tab tab'
    found = meets-done (line_at t decl 0) n p tab tab' r x.meets d

    inside : (0 < p.next) × ((p.next ≤ length t) × ((n < p.count) × (p.count + 0 ≤ n + p.next)))
    inside = rw d at x.inside

    pub one-done : (l : ℕ) → l ≡ found_refusal p.low → OneRead t decl n tab tab' (record { count = p.count; low = l })
    unfolding line_refusal
    one-done l f = record { low-is = rw found.is f; left = rw found.is (found.count, found.table); bound = omega (arith, inside) }

  pub one-wrong : r ≡ None → OneRead t decl n tab tab' (record { count = n; low = 6 })
  unfolding line_refusal
  one-wrong d = let z : line_at t decl 0 ≡ bad = meets-wrong (line_at t decl 0) n tab tab' r x.meets d in record { low-is = rw z; left = rw z tt; bound = omega arith }

-- ---- formulas, with `rest` still to read of `all`
pub record Going (decl : List ℕ) (all rest : List (List ℕ)) (low k n : ℕ) (ends tab : List ℕ) : Type 0 where
  pub count : k + length rest ≡ length all
  pub low-is : lowest low decl rest ≡ lowest 9 decl all
  pub nodes-are : 6 < low → nodes_from (take n tab) (trees decl rest) ≡ nodes_from [] (trees decl all)
  pub ends-are : 6 < low → ends_from (take k ends) n (trees decl rest) ≡ ends_from [] 0 (trees decl all)

pub going_start : (decl : List ℕ) (all : List (List ℕ)) (ends tab : List ℕ) → Going decl all all 9 0 0 ends tab
going_start decl all ends tab = record { count = omega arith; low-is = refl; nodes-are = λ h. refl; ends-are = λ h. refl }

pub going_done : (decl : List ℕ) (all : List (List ℕ)) (low k n : ℕ) (ends tab : List ℕ) → n ≤ length tab → Going decl all [] low k n ends tab → FormulasRead decl all tab (record { low = low; lines = k; count = n; ends = ends })
unfolding lowest trees nodes_from ends_from
going_done decl all low k n ends tab i g =
    record { low-is = g.low-is; lines = sym (add-zero k) ∙ g.count; then = λ h. record { inside = i; nodes-are = g.nodes-are h; ends-are = g.ends-are h } }

low-left : (a b : ℕ) → 6 < min a b → 6 < a
low-left a b h = omega arith

low-right : (a b : ℕ) → 6 < min a b → 6 < b
low-right a b h = omega arith

module _ (t decl : List ℕ) (rest : List (List ℕ)) (n k : ℕ) (tab tab' ends : List ℕ) (r : One) (room : n ≤ length tab) (small : k < length ends) where
  -- the table and the ends after one formula
  nodes-step : (o : Out) → read decl t ≡ o → Left o n r.count tab tab' → 6 < line_refusal o → nodes_from (take r.count tab') (trees decl rest) ≡ nodes_from (take n tab) (trees decl (t ∷ rest))
  unfolding trees nodes_from line_refusal
  nodes-step bad e l h = absurd (omega arith)
  nodes-step (good p z low) e l h = rw (e, l.1.front, length-take-le n tab room)

  ends-step : (o : Out) → read decl t ≡ o → Left o n r.count tab tab' → 6 < line_refusal o
      → ends_from (take (k + 1) (set ends k r.count)) r.count (trees decl rest) ≡ ends_from (take k ends) n (trees decl (t ∷ rest))
  unfolding trees ends_from line_refusal
  ends-step bad e l h = absurd (omega arith)
  ends-step (good p z low) e l h = rw (e, add-one k, take-suc-set ends k r.count small, l.0)

  module _ (all : List (List ℕ)) (low : ℕ) (x : OneRead t decl n tab tab' r) (g : Going decl all (t ∷ rest) low k n ends tab) where
    pub going_next : (low' : ℕ) → low' ≡ min low r.low → Going decl all rest low' (k + 1) r.count (set ends k r.count) tab'
    unfolding lowest
    going_next low' m =
        record {
          count = omega (arith, g.count);
          low-is = rw (m, x.low-is) g.low-is;
          nodes-are = λ h. nodes-step (read decl t) refl x.left (rw (← x.low-is) (low-right low r.low (rw m at h))) ∙ g.nodes-are (low-left low r.low (rw m at h));
          ends-are = λ h. ends-step (read decl t) refl x.left (rw (← x.low-is) (low-right low r.low (rw m at h))) ∙ g.ends-are (low-left low r.low (rw m at h));
        }

-- ---- in the sheet
pub texts-none : (s : List ℕ) (at e : ℕ) → e ≡ end_of newline s at → at ≤ length s → length s ≤ e → texts_of (lines_from s at) ≡ []
unfolding texts_of
texts-none s at e is i h = rw (none s at e is i h)

pub texts-end : (s : List ℕ) (at : ℕ) → length s ≤ at → texts_of (lines_from s at) ≡ []
unfolding texts_of
texts-end s at h = rw (lines_end s at h)

module _ (decl : List ℕ) (all ts : List (List ℕ)) (low k n : ℕ) (ends tab : List ℕ) (g : Going decl all ts low k n ends tab) where
  pub going-last : n ≤ length tab → ts ≡ [] → FormulasRead decl all tab (record { low = low; lines = k; count = n; ends = ends })
  going-last i e = going_done decl all low k n ends tab i (subst (λ (x : List (List ℕ)). Going decl all x low k n ends tab) e g)

  module _ (t : List ℕ) (rest : List (List ℕ)) (e : ts ≡ t ∷ rest) where
    pub going-room : length all ≤ 5 → k < 5
    going-room h = omega (arith, g.count, ap length e)

    pub going_step : (r : One) (tab' : List ℕ) (low' : ℕ) → OneRead t decl n tab tab' r → n ≤ length tab → k < length ends → low' ≡ min low r.low
        → Going decl all rest low' (k + 1) r.count (set ends k r.count) tab'
    going_step r tab' low' x room small m =
        going_next t decl rest n k tab tab' ends r room small all low x (subst (λ (x : List (List ℕ)). Going decl all x low k n ends tab) e g) low' m

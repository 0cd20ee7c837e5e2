-- The refusal that the reader works out, formula by formula, is the first of document 01's conditions that applies. Assumes nothing.
use mathlib.Core.Path.{◌≡◌, refl, sym, ap, ◌∙◌}
use mathlib.Core.Bool.{Bool, true, false, cond, not, ◌||◌, or-false, or_assoc}
use mathlib.Core.Logic.{◌⊎◌, inl, inr}
use mathlib.Core.List.Memᴰ
use mathlib.Core.List.{List, [], ◌∷◌, ◌++◌}
use Prim.Native.Nat.{ℕ, zero, suc, ◌+◌, ◌≤◌, ◌<◌, min}
use native.Mathlib.Omega.{arith}
use lib.Dec.{eqb, ltb}
use lib.ListN.{length}
use borrow.Author.Tests.{eqb-true, ne_eqb, not-false}
use Rattle.ctl.specs.Lists.{◌∈◌, any_of}
use Rattle.ctl.proofs.BoolLaws.{true-and-false}
use Rattle.syntax.specs.Parse.{Out, good, bad}
use Rattle.layout.specs.Layout.{length_wrong, byte_wrong, layout_right, texts}
use Rattle.head.specs.Head.{kinds, spellings, layout_refusal}
use Rattle.sheet.specs.Refusal.{decls, read, unread, finds, names_wrong, kinds_wrong, grammar_wrong, symbols_wrong, braces_wrong, first_of, conditions, read_refusal}
use Rattle.sheet.specs.Sheet.{found_refusal, line_refusal, lowest, sheet_refusal}

-- ---- the refusals 6 to 8

-- the lowest number, 9 for none, by which of 6, 7 and 8 apply
abbrev low : Bool → Bool → Bool → ℕ
low true y z = 6
low false true z = 7
low false false true = 8
low false false false = 9

low-six : (x y z : Bool) → min (low x y z) 6 ≡ low (x || true) (y || false) (z || false)
low-six true y z = refl
low-six false true z = refl
low-six false false true = refl
low-six false false false = refl

low-found : (x y z b c : Bool) → min (low x y z) (cond b 7 (cond c 8 9)) ≡ low (x || false) (y || b) (z || c)
low-found true y z true c = refl
low-found true y z false true = refl
low-found true y z false false = refl
low-found false true z true c = refl
low-found false true z false true = refl
low-found false true z false false = refl
low-found false false true true c = refl
low-found false false true false true = refl
low-found false false true false false = refl
low-found false false false true c = refl
low-found false false false false true = refl
low-found false false false false false = refl

low-line : (x y z : Bool) (o : Out) → min (low x y z) (line_refusal o) ≡ low (x || unread o) (y || finds 7 o) (z || finds 8 o)
unfolding line_refusal found_refusal
low-line x y z bad = low-six x y z
low-line x y z (good p e l) = low-found x y z (eqb l 7) (eqb l 8)

module _ (decl : List ℕ) where
  lowest-is : (x y z : Bool) (ts : List (List ℕ))
      → lowest (low x y z) decl ts ≡ low (x || any_of (λ t. unread (read decl t)) ts) (y || any_of (λ t. finds 7 (read decl t)) ts) (z || any_of (λ t. finds 8 (read decl t)) ts)
  unfolding lowest
  lowest-is x y z [] = rw (or-false x, or-false y, or-false z)
  lowest-is x y z (t ∷ ts) =
      let o = read decl t in
      ap (λ m. lowest m decl ts) (low-line x y z o) ∙ lowest-is (x || unread o) (y || finds 7 o) (z || finds 8 o) ts
      ∙ rw (
        or_assoc x (unread o) (any_of (λ t. unread (read decl t)) ts),
        or_assoc y (finds 7 o) (any_of (λ t. finds 7 (read decl t)) ts),
        or_assoc z (finds 8 o) (any_of (λ t. finds 8 (read decl t)) ts),
      )

low_first : (a b c : Bool) → cond (ltb (low a b c) 9) (low a b c) 0 ≡ first_of 6 (a ∷ b ∷ c ∷ [])
low_first true b c = refl
low_first false true c = refl
low_first false false true = refl
low_first false false false = refl

-- ---- all of them

first-five : (a b c d e : Bool) (bs : List Bool)
    → cond (eqb (cond a 1 (cond b 2 (cond c 3 (cond d 4 (cond e 5 0))))) 0) (first_of 6 bs) (cond a 1 (cond b 2 (cond c 3 (cond d 4 (cond e 5 0))))) ≡ first_of 1 (a ∷ b ∷ c ∷ d ∷ e ∷ bs)
first-five true b c d e bs = refl
first-five false true c d e bs = refl
first-five false false true d e bs = refl
first-five false false false true e bs = refl
first-five false false false false true bs = refl
first-five false false false false false bs = refl

pub sheet-refusal : (s : List ℕ) → sheet_refusal s ≡ read_refusal s
unfolding sheet_refusal read_refusal conditions layout_refusal grammar_wrong symbols_wrong braces_wrong
sheet-refusal s =
    ap (λ r. cond (eqb (layout_refusal s) 0) r (layout_refusal s))
    (ap (λ l. cond (ltb l 9) l 0) (lowest-is (decls s) false false false (texts s)) ∙ low_first (grammar_wrong s) (symbols_wrong s) (braces_wrong s))
    ∙ first-five (length_wrong s) (byte_wrong s) (not (layout_right s)) (names_wrong s) (kinds_wrong s) (grammar_wrong s ∷ symbols_wrong s ∷ braces_wrong s ∷ [])

-- ---- what a number says of the conditions

-- where none applies, each is false
pub first-none : (k : ℕ) (bs : List Bool) → 0 < k → first_of k bs ≡ 0 → (b : Bool) → b ∈ bs → b ≡ false
first-none k [] h e b m = absurd (Memᴰ.not-nil m)
first-none k (true ∷ bs) h e b m = absurd (omega arith)
first-none k (false ∷ bs) h e b m = go (Memᴰ.cases_cons m) (first-none (suc k) bs (omega arith) e b)
  where
    go : (b ≡ false) ⊎ (b ∈ bs) → (b ∈ bs → b ≡ false) → b ≡ false
    go (inl i) rec = i
    go (inr i) rec = rec i

-- further conditions: the first of both lists that applies
pub first-append : (k : ℕ) (xs bs : List Bool) → 0 < k → first_of k (xs ++ bs) ≡ cond (eqb (first_of k xs) 0) (first_of (k + length xs) bs) (first_of k xs)
first-append k [] bs h = ap (λ n. first_of n bs) (omega arith)
first-append k (true ∷ xs) bs h = sym (ap (λ t. cond t (first_of (k + length (true ∷ xs)) bs) k) (ne_eqb k 0 (omega arith)))
first-append k (false ∷ xs) bs h = first-append (suc k) xs bs (omega arith) ∙ ap (λ n. cond (eqb (first_of (suc k) xs) 0) (first_of n bs) (first_of (suc k) xs)) (omega arith)

-- a sheet that is not refused by 1 to 8
module _ (s : List ℕ) (e : read_refusal s ≡ 0) where
  none : (b : Bool) → b ∈ conditions s → b ≡ false
  unfolding read_refusal
  none = first-none 1 (conditions s) (omega arith) e

  pub right-length : length_wrong s ≡ false
  unfolding conditions
  right-length = none (length_wrong s) (Memᴰ.head refl)

  pub right-bytes : byte_wrong s ≡ false
  unfolding conditions
  right-bytes = none (byte_wrong s) (Memᴰ.tail (Memᴰ.head refl))

  pub right-layout : layout_right s ≡ true
  unfolding conditions
  right-layout = not-false (layout_right s) (none (not (layout_right s)) (Memᴰ.tail (Memᴰ.tail (Memᴰ.head refl))))

  -- there are symbols, and a kind for each
  pub right-kinds : length (kinds s) ≡ length (spellings s)
  unfolding conditions
  right-kinds = eqb-true _ _ (not-false (eqb (length (kinds s)) (length (spellings s))) (none (kinds_wrong s) (Memᴰ.tail (Memᴰ.tail (Memᴰ.tail (Memᴰ.tail (Memᴰ.head refl)))))))

  pub some-symbols : 1 ≤ length (spellings s)
  unfolding conditions
  some-symbols = go (length (spellings s)) (none (names_wrong s) (Memᴰ.tail (Memᴰ.tail (Memᴰ.tail (Memᴰ.head refl)))))
    where
      go : (n : ℕ) → eqb n 0 ≡ false → 1 ≤ n
      go zero e = absurd (true-and-false (eqb 0 0) refl e)
      go (suc n) e = omega arith

  pub right-grammar : grammar_wrong s ≡ false
  unfolding conditions
  right-grammar = none (grammar_wrong s) (Memᴰ.tail (Memᴰ.tail (Memᴰ.tail (Memᴰ.tail (Memᴰ.tail (Memᴰ.head refl))))))

  pub right-symbols : symbols_wrong s ≡ false
  unfolding conditions
  right-symbols = none (symbols_wrong s) (Memᴰ.tail (Memᴰ.tail (Memᴰ.tail (Memᴰ.tail (Memᴰ.tail (Memᴰ.tail (Memᴰ.head refl)))))))

  pub right-braces : braces_wrong s ≡ false
  unfolding conditions
  right-braces = none (braces_wrong s) (Memᴰ.tail (Memᴰ.tail (Memᴰ.tail (Memᴰ.tail (Memᴰ.tail (Memᴰ.tail (Memᴰ.tail (Memᴰ.head refl))))))))

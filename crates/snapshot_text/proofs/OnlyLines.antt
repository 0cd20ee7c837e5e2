-- A text is the text of no other lines. Assumes nothing.
use Prim.Native.Nat.{ℕ, suc, ◌+◌, ◌/◌, ◌%◌, ◌≤◌, ◌<◌}
use native.Mathlib.Omega.{arith}
use mathlib.Core.Path.{◌≡◌, refl, sym, ap, ap₂, ◌∙◌}
use mathlib.Core.Bool.{Bool, true, false, cond}
use mathlib.Core.List.{List, [], ◌∷◌, ◌++◌, append_assoc}
use lib.Dec.{ltb}
use lib.ListN.{length, get_or, drop}
use lib.Seq.{drop-append-add}
use Rattle.snapshot_text.specs.Text.{decimal, line_text, lines_text, Text}
use Rattle.snapshot_text.proofs.TextLaws.{text-taken}

-- ---- an entry and the byte that ends it

record Ends (v w a b : ℕ) (x y : List ℕ) : Type 0 where
  entry-same : v ≡ w
  end_same : a ≡ b
  rest-same : x ≡ y

module _ (a b : ℕ) (x y : List ℕ) (ha : a < 48) (hb : b < 48) where
  one-digit : (v w : ℕ) → (48 + v) ∷ a ∷ x ≡ (48 + w) ∷ b ∷ y → Ends v w a b x y
  one-digit v w e = record {
    entry-same = let h : 48 + v ≡ 48 + w = ap (λ (l : List ℕ). get_or l 0 0) e in omega arith;
    end_same = ap (λ (l : List ℕ). get_or l 1 0) e;
    rest-same = ap (drop 2) e;
  }

  two_digits : (v w : ℕ) → (48 + v / 10) ∷ (48 + v % 10) ∷ a ∷ x ≡ (48 + w / 10) ∷ (48 + w % 10) ∷ b ∷ y → Ends v w a b x y
  two_digits v w e = record {
    entry-same =
        let h : 48 + v / 10 ≡ 48 + w / 10 = ap (λ (l : List ℕ). get_or l 0 0) e in
        let g : 48 + v % 10 ≡ 48 + w % 10 = ap (λ (l : List ℕ). get_or l 1 0) e in
        omega arith;
    end_same = ap (λ (l : List ℕ). get_or l 2 0) e;
    rest-same = ap (drop 3) e;
  }

  entry-ends : (v w : ℕ) → decimal v ++ (a ∷ x) ≡ decimal w ++ (b ∷ y) → Ends v w a b x y
  unfolding decimal
  entry-ends v w = go (ltb v 10) (ltb w 10)
    where
      go : (c d : Bool) → cond c ((48 + v) ∷ []) ((48 + v / 10) ∷ (48 + v % 10) ∷ []) ++ (a ∷ x) ≡ cond d ((48 + w) ∷ []) ((48 + w / 10) ∷ (48 + w % 10) ∷ []) ++ (b ∷ y) → Ends v w a b x y
      go true true e = one-digit v w e
      go true false e = absurd (let h : a ≡ 48 + w % 10 = ap (λ (l : List ℕ). get_or l 1 0) e in omega arith)
      go false true e = absurd (let h : 48 + v % 10 ≡ b = ap (λ (l : List ℕ). get_or l 1 0) e in omega arith)
      go false false e = two_digits v w e

-- ---- a line and what stands behind it

line-ends : (l k : List ℕ) (x y : List ℕ) → 1 ≤ length l → length l ≡ length k → line_text l ++ x ≡ line_text k ++ y → (l ≡ k) × (x ≡ y)
unfolding line_text
line-ends [] k x y h e f = absurd (omega arith)
line-ends (v ∷ l) [] x y h e f = absurd (omega arith)
line-ends (v ∷ []) (w ∷ []) x y h e f =
    let r = entry-ends 10 10 x y (omega arith) (omega arith) v w (sym (append_assoc (decimal v) (10 ∷ []) x) ∙ f ∙ append_assoc (decimal w) (10 ∷ []) y) in
    (ap (λ z. z ∷ []) r.entry-same, r.rest-same)
line-ends (v ∷ []) (w ∷ (q ∷ k)) x y h e f = absurd (omega arith)
line-ends (v ∷ (p ∷ l)) (w ∷ []) x y h e f = absurd (omega arith)
line-ends (v ∷ (p ∷ l)) (w ∷ (q ∷ k)) x y h e f =
    let r = entry-ends 32 32 (line_text (p ∷ l) ++ x) (line_text (q ∷ k) ++ y) (omega arith) (omega arith) v w
    (sym (append_assoc (decimal v) (32 ∷ line_text (p ∷ l)) x) ∙ f ∙ append_assoc (decimal w) (32 ∷ line_text (q ∷ k)) y) in
    let s = line-ends (p ∷ l) (q ∷ k) x y (omega arith) (omega arith) r.rest-same in
    (ap₂ (λ z t. z ∷ t) r.entry-same s.0, s.1)

lines_end : (m : ℕ) → 1 ≤ m → (a b : List (List ℕ)) → length a ≡ length b → ((i : ℕ) → i < length a → length (get_or a i []) ≡ m) → ((i : ℕ) → i < length b → length (get_or b i []) ≡ m)
    → lines_text a ≡ lines_text b → a ≡ b
unfolding lines_text
lines_end m hm [] [] h e f g = refl
lines_end m hm [] (k ∷ b) h e f g = absurd (omega arith)
lines_end m hm (l ∷ a) [] h e f g = absurd (omega arith)
lines_end m hm (l ∷ a) (k ∷ b) h e f g =
    let p : length l ≡ m = e 0 (omega arith) in
    let q : length k ≡ m = f 0 (omega arith) in
    let r = line-ends l k (lines_text a) (lines_text b) (omega arith) (p ∙ sym q) g in
    ap₂ (λ z t. z ∷ t) r.0 (lines_end m hm a b (omega arith) (λ i l. e (suc i) (omega arith)) (λ i l. f (suc i) (omega arith)) r.1)

-- The lines whose text s is are the only ones
pub same_lines : (line : List ℕ) (m : ℕ) (s : List ℕ) (a b : List (List ℕ)) → 1 ≤ m → Text line m s a → Text line m s b → a ≡ b
same_lines line m s a b hm t u =
    lines_end m hm a b (text-taken line m s [] a hm t ∙ sym (text-taken line m s [] b hm u)) t.each u.each
    (sym (drop-append-add line (10 ∷ lines_text a) 1) ∙ ap (drop (length line + 1)) (sym t.spelled ∙ u.spelled) ∙ drop-append-add line (10 ∷ lines_text b) 1)

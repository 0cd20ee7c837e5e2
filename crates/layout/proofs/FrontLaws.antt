-- A sheet is the text of its lines, and its first two lines stand in front of the others. Assumes nothing.
use mathlib.Core.Path.{◌≡◌, refl, sym, ap, ap₂, ◌∙◌}
use mathlib.Core.Bool.{Bool, true, false, ◌&&◌, ◌||◌, and-eq-true_iff}
use mathlib.Core.List.{List, [], ◌∷◌, ◌++◌, append_assoc}
use Prim.Native.Nat.{ℕ, zero, suc, ◌+◌, ◌-◌, ◌≤◌, ◌<◌}
use native.Mathlib.Decide.{dec_lt}
use native.Mathlib.Omega.{arith}
use lib.Dec.{eqb, ltb, leb}
use lib.ListN.{length, get_or, take, drop, length-append, length-drop, drop_of_length-le}
use lib.Seq.{get_or-drop, take_at}
use borrow.Author.Tests.{eqb-true, leb-true, ltb-false}
use Rattle.layout.specs.Text.{push, split, ended}
use Rattle.layout.specs.Layout.{newline, parts, lines, lines_from, line_of, unlines, any_long, length_wrong, starts_right, ends_right, layout_right}
use Rattle.layout.proofs.TextLaws.{ended-split}
use Rattle.layout.proofs.UnlinesLaws.{or-none}

pub unlines-append : (k l : List (List ℕ)) → unlines (k ++ l) ≡ unlines k ++ unlines l
unfolding unlines
unlines-append [] l = refl
unlines-append (x ∷ k) l = ap (λ t. x ++ (newline ∷ t)) (unlines-append k l) ∙ sym (append_assoc x (newline ∷ unlines k) (unlines l))

-- ---- a text that ends with a newline is the text of its lines

-- a byte in front of a text that has a line is in front of its first line
push-text : (c d : ℕ) (r : List ℕ) (ps : List (List ℕ)) → unlines (ended ps) ≡ d ∷ r → unlines (ended (push c ps)) ≡ c ∷ d ∷ r
unfolding unlines ended
push-text c d r [] e = absurd (let z : ◌≡◌ {A = ℕ} 0 1 = cc in omega arith)
push-text c d r (l ∷ []) e = absurd (let z : ◌≡◌ {A = ℕ} 0 1 = cc in omega arith)
push-text c d r (l ∷ m ∷ ms) e = ap (λ t. c ∷ t) e

text-step : (c d : ℕ) (r : List ℕ) (t : Bool) → eqb c newline ≡ t → unlines (lines (d ∷ r)) ≡ d ∷ r → unlines (lines (c ∷ d ∷ r)) ≡ c ∷ d ∷ r
unfolding unlines split
text-step c d r true e h = rw (e, ended-split newline [] (d ∷ r), h, eqb-true c newline e)
text-step c d r false e h = rw e (push-text c d r (split newline (d ∷ r)) h)

-- what is left of a text ends as the text does
ends-drop : (s : List ℕ) (r : ℕ) → r < length s → ends_right (drop r s) ≡ ends_right s
unfolding ends_right
ends-drop s r h =
    let n : length (drop r s) ≡ length s - r = length-drop r s in
    let i : r + (length (drop r s) - 1) ≡ length s - 1 = omega arith in
    ap (λ b. eqb b newline) (get_or-drop r s (length (drop r s) - 1) 0 ∙ ap (λ k. get_or s k 0) i)

pub unlines-lines : (s : List ℕ) → ends_right s ≡ true → unlines (lines s) ≡ s
unfolding ends_right unlines split ended
unlines-lines [] e = absurd (let z = eqb-true 0 newline e in omega arith)
unlines-lines (c ∷ []) e = rw (e, eqb-true c newline e)
unlines-lines (c ∷ d ∷ r) e = text-step c d r (eqb c newline) refl (unlines-lines (d ∷ r) (ends-drop (c ∷ d ∷ r) 1 (omega arith) ∙ e))

-- the rest of a text, from any byte on
rest-text : (s : List ℕ) (r : ℕ) → ends_right s ≡ true → unlines (lines_from s r) ≡ drop r s
unfolding unlines split ended
rest-text s r e = go (dec_lt r (length s))
  where
    go : Dec (r < length s) → unlines (lines_from s r) ≡ drop r s
    go (yes l) = unlines-lines (drop r s) (ends-drop s r l ∙ e)
    go (no n) = let k : length s ≤ r = omega arith in rw (drop_of_length-le s k)

-- ---- the first two lines

-- the lines that a newline ends are the first parts
ended_at : (ps : List (List ℕ)) (k : ℕ) → k < length (ended ps) → get_or (ended ps) k [] ≡ get_or ps k []
unfolding ended
ended_at [] k h = absurd (omega arith)
ended_at (l ∷ []) k h = absurd (omega arith)
ended_at (l ∷ m ∷ ms) zero h = refl
ended_at (l ∷ m ∷ ms) (suc k) h = ended_at (m ∷ ms) k (omega arith)

front-two : (ls : List (List ℕ)) → 2 ≤ length ls → ls ≡ get_or ls 0 [] ∷ get_or ls 1 [] ∷ drop 2 ls
front-two [] h = absurd (omega arith)
front-two (a ∷ []) h = absurd (omega arith)
front-two (a ∷ b ∷ ls) h = refl

-- a sheet of the right layout ends with a newline and has 3 to 7 lines
pub layout-parts : (s : List ℕ) → layout_right s ≡ true → (ends_right s ≡ true) × (3 ≤ length (lines s)) × (length (lines s) ≤ 7)
unfolding layout_right
layout-parts s e =
    let a = (and-eq-true_iff (ends_right s && leb 3 (length (lines s)) && leb (length (lines s)) 7) (starts_right (drop 2 (lines s)))).0 e in
    let b = (and-eq-true_iff (ends_right s && leb 3 (length (lines s))) (leb (length (lines s)) 7)).0 a.0 in
    let c = (and-eq-true_iff (ends_right s) (leb 3 (length (lines s)))).0 b.0 in
    (c.0, leb-true 3 (length (lines s)) c.1, leb-true (length (lines s)) 7 b.1)

pub front-lines : (s : List ℕ) (r : ℕ) → layout_right s ≡ true → r ≤ length s → lines_from s r ≡ drop 2 (lines s) → take r s ≡ unlines (line_of s 0 ∷ line_of s 1 ∷ [])
front-lines s r e h rest =
    let ends = (layout-parts s e).0 in
    let many = (layout-parts s e).1 in
    let u = unlines (line_of s 0 ∷ line_of s 1 ∷ []) in
    let two : lines s ≡ line_of s 0 ∷ line_of s 1 ∷ drop 2 (lines s) = front-two (lines s) (omega arith) ∙ ap₂ (λ a b. a ∷ b ∷ drop 2 (lines s)) (ended_at (parts s) 0 (omega arith)) (ended_at (parts s) 1 (omega arith)) in
    let whole : s ≡ u ++ drop r s = sym (unlines-lines s ends) ∙ ap unlines two ∙ unlines-append (line_of s 0 ∷ line_of s 1 ∷ []) (drop 2 (lines s)) ∙ ap (λ t. u ++ t) (sym (ap unlines rest) ∙ rest-text s r ends) in
    let long : length u ≡ r = (let a = ap length whole in let b = length-append u (drop r s) in let c = length-drop r s in omega arith) in
    ap (take r) whole ∙ take_at u (drop r s) r long

-- ---- a sheet of the right length, and its lines

short-at : (ps : List (List ℕ)) (k : ℕ) → any_long ps ≡ false → length (get_or ps k []) ≤ 200
unfolding any_long
short-at [] k e = omega arith
short-at (l ∷ ps) zero e = ltb-false 200 (length l) (or-none (ltb 200 (length l)) (any_long ps) e).0
short-at (l ∷ ps) (suc k) e = short-at ps k (or-none (ltb 200 (length l)) (any_long ps) e).1

module _ (s : List ℕ) (e : length_wrong s ≡ false) where
  length-parts : (length s ≤ 1024) × (any_long (parts s) ≡ false)
  unfolding length_wrong
  length-parts =
      let a = or-none (eqb (length s) 0 || ltb 1024 (length s)) (any_long (parts s)) e in
      (ltb-false 1024 (length s) (or-none (eqb (length s) 0) (ltb 1024 (length s)) a.0).1, a.1)

  pub sheet-small : length s ≤ 1024
  sheet-small = length-parts.0

  pub line-short : (k : ℕ) → length (line_of s k) ≤ 200
  line-short k = short-at (parts s) k length-parts.1

-- What the library's methods and the loops' tests say of a text. Assumes nothing.
use mathlib.Core.Path.{◌≡◌, refl, sym, ap, ap₂, ◌∙◌}
use mathlib.Core.Bool.{Bool, true, false, cond, not, ◌&&◌, ◌||◌, or-false, and-true}
use mathlib.Core.List.{List, [], ◌∷◌}
use Prim.Native.Nat.{ℕ, zero, suc, ◌+◌, ◌-◌, ◌≤◌, ◌<◌}
use native.Mathlib.Omega.{arith}
use native.Mathlib.Decide.{dec_le}
use lib.ListN.{length, get_or, take, drop, length-drop, length-take, drop_of_length-le}
use lib.Seq.{drop-cons}
use lib.Dec.{eqb, ltb}
use borrow.Author.Tests.{eq-eqb, ne_eqb, eqb-true, eqb-false, lt-ltb, le-ltb}
use Rattle.std.specs.List.{list_any, count_by, slice_split, starts_with, ends_with}
use Rattle.std.specs.Cmp.Lexicographic.{pointwise}
use Rattle.std.proofs.lemmas.List.Splits.{length-slice_split}
use Rattle.layout.specs.Text.{part, upto, end_of, push, split, ended, same, begins, has}
use Rattle.layout.specs.Layout.{newline, any_long, byte_right, byte_wrong, ends_right}
use Rattle.layout.proofs.TextLaws.{split-last, split-next, cut-last, cut-next}

-- ---- what the library's methods answer
-- a byte in a text
pub has-any : (b : ℕ) (s : List ℕ) → list_any (λ c. eqb c b) s ≡ has b s
unfolding has
has-any b [] = refl
has-any b (c ∷ r) = ap (λ t. eqb c b || t) (has-any b r)

-- a byte that is neither printable nor a newline
pub bad-any : (s : List ℕ) → list_any (λ b. not (byte_right b)) s ≡ byte_wrong s
unfolding byte_wrong
bad-any [] = refl
bad-any (b ∷ r) = ap (λ t. not (byte_right b) || t) (bad-any r)

-- two texts compared
pub same-is : (a b : List ℕ) → pointwise eqb a b ≡ same a b
unfolding same
same-is [] [] = refl
same-is [] (d ∷ q) = refl
same-is (c ∷ r) [] = refl
same-is (c ∷ r) (d ∷ q) = ap (λ t. eqb c d && t) (same-is r q)

-- the parts of a text between its b's
pub split-is : (b : ℕ) (s : List ℕ) → slice_split (λ c. eqb c b) s ≡ split b s
unfolding split
split-is b [] = refl
split-is b (c ∷ r) = ap (λ t. cond (eqb c b) ([] ∷ t) (push c t)) (split-is b r)

-- the lines that a newline ends are as many as there are newlines
ended-less : (ps : List (List ℕ)) → length (ended ps) ≡ length ps - 1
unfolding ended
ended-less [] = refl
ended-less (l ∷ []) = refl
ended-less (l ∷ m ∷ ms) = let h = ended-less (m ∷ ms) in omega arith

pub lines-count : (s : List ℕ) → count_by (λ b. eqb b newline) s ≡ length (ended (split newline s))
lines-count s =
    let h = length-slice_split (λ b. eqb b newline) s in
    let e : length (slice_split (λ b. eqb b newline) s) ≡ length (split newline s) = ap length (split-is newline s) in
    omega (arith, ended-less (split newline s))

eqb-comm : (c d : ℕ) → eqb d c ≡ eqb c d
eqb-comm c d = go (eqb d c) refl
  where
    go : (t : Bool) → eqb d c ≡ t → t ≡ eqb c d
    go true e = sym (eq-eqb c d (sym (eqb-true d c e)))
    go false e = sym (ne_eqb c d (λ q. eqb-false d c e (sym q)))

-- a text that begins with another
pub begins-is : (s p : List ℕ) → starts_with eqb s p ≡ begins s p
unfolding begins
begins-is s [] = refl
begins-is [] (d ∷ q) = refl
begins-is (c ∷ r) (d ∷ q) = ap₂ ◌&&◌ (eqb-comm c d) (begins-is r q)

-- a text that ends with a newline
pub ends-is : (s : List ℕ) → ends_with eqb s (newline ∷ []) ≡ ends_right s
unfolding ends_right
ends-is [] = refl
ends-is (c ∷ r) =
    let s = c ∷ r in
    let n : ℕ = length s - 1 in
    let e : drop n s ≡ get_or s n 0 ∷ [] = drop-cons s n 0 (omega arith) ∙ ap (λ t. get_or s n 0 ∷ t) (drop_of_length-le s {i = suc n} (omega arith)) in
    ap (pointwise eqb (newline ∷ [])) e ∙ and-true (eqb newline (get_or s n 0)) ∙ eqb-comm (get_or s n 0) newline

-- ---- lines over 200
pub part_length : (s : List ℕ) (a e : ℕ) → e ≤ length s → length (part s a e) ≡ e - a
part_length s a e h = simp (length-take, length-drop) (omega arith)

module _ (s : List ℕ) (at e : ℕ) (is : e ≡ end_of newline s at) (inside : at ≤ length s) where
  pub long-last : e ≤ length s → length s ≤ e → any_long (split newline (drop at s)) ≡ ltb 200 (e - at)
  unfolding any_long
  long-last h k =
      let q : length s ≡ e = omega arith in
      rw (cut-last newline s at inside (rw (← is) k), length-drop, q) (or-false _)

  pub long-here : e < length s → 200 < e - at → any_long (split newline (drop at s)) ≡ true
  unfolding any_long
  long-here h l = rw (cut-next newline s at inside (rw (← is) h), ← is, part_length s at e (omega arith), lt-ltb _ _ l)

  pub long-next : e < length s → e - at ≤ 200 → any_long (split newline (drop (e + 1) s)) ≡ any_long (split newline (drop at s))
  unfolding any_long
  long-next h l = rw (cut-next newline s at inside (rw (← is) h), ← is, part_length s at e (omega arith), le-ltb _ _ l)

pub long-end : (s : List ℕ) (at : ℕ) → length s ≤ at → any_long (split newline (drop at s)) ≡ false
unfolding any_long split
long-end s at h = rw (drop_of_length-le s h)

-- a part is no longer than its text
pub long-none : (n : ℕ) (x : List ℕ) → length x ≤ n → n ≤ 200 → any_long (split newline x) ≡ false
unfolding any_long
long-none zero x h k = long-end x 0 h
long-none (suc n) x h k = go (dec_le (length x) (upto newline x)) (long-none n (drop (suc (upto newline x)) x) (rw length-drop (omega arith)) (omega arith))
  where
    go : Dec (length x ≤ upto newline x) → any_long (split newline (drop (suc (upto newline x)) x)) ≡ false → any_long (split newline x) ≡ false
    go (yes l) e = rw (split-last newline x l, le-ltb 200 (length x) (omega arith))
    go (no l) e = rw (split-next newline x (omega arith), le-ltb 200 (length (take (upto newline x) x)) (simp length-take (omega arith)), e)

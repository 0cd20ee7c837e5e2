-- The lines of a text that is made of lines are those lines, where none of them has a newline; and no line of a text has one. Assumes nothing.
use mathlib.Core.Path.{◌≡◌, refl, ap, ◌∙◌}
use mathlib.Core.Bool.{Bool, true, false, cond, not, ◌||◌, true≢false}
use mathlib.Core.List.Memᴰ
use mathlib.Core.List.{List, [], ◌∷◌, ◌++◌, Memᴰ}
use mathlib.Core.Logic.{◌⊎◌, inl, inr}
use Prim.Native.Nat.{ℕ, zero, suc, ◌+◌, ◌-◌, ◌<◌}
use native.Mathlib.Omega.{arith}
use lib.Dec.{eqb, ltb}
use lib.ListN.{length, get_or, length-append}
use lib.Seq.{get_or-append-add}
use borrow.Author.Tests.{eq-eqb, not-false}
use Rattle.layout.specs.Text.{push, split, ended, has}
use Rattle.layout.specs.Layout.{newline, parts, lines, line_of, unlines, any_long, byte_right, byte_wrong, ends_right}
use Rattle.layout.proofs.TextLaws.{ended-split}

pub or-none : (a b : Bool) → (a || b) ≡ false → (a ≡ false) × (b ≡ false)
or-none true b e = absurd (true≢false e)
or-none false b e = (refl, e)

-- ---- from lines to a text and back

-- a line without the byte is the first part before it
pub split-line : (b : ℕ) (l r : List ℕ) → has b l ≡ false → split b (l ++ (b ∷ r)) ≡ l ∷ split b r
unfolding split has
split-line b [] r h = rw (eq-eqb b b refl)
split-line b (c ∷ l) r h = let w = or-none (eqb c b) (has b l) h in rw (w.0, split-line b l r w.1)

-- no line of a list has a newline
abbrev pub Free : List (List ℕ) → Type 0
Free ls = (l : List ℕ) → Memᴰ l ls → has newline l ≡ false

rest-free : (l : List ℕ) (ls : List (List ℕ)) → Free (l ∷ ls) → Free ls
rest-free l ls f k m = f k (Memᴰ.tail m)

pub lines-unlines : (ls : List (List ℕ)) → Free ls → lines (unlines ls) ≡ ls
unfolding unlines split ended
lines-unlines [] f = refl
lines-unlines (l ∷ ls) f =
    ap ended (split-line newline l (unlines ls) (f l (Memᴰ.head refl))) ∙ ended-split newline l (unlines ls)
    ∙ ap (λ (k : List (List ℕ)). l ∷ k) (lines-unlines ls (rest-free l ls f))

pub parts-unlines : (ls : List (List ℕ)) → Free ls → parts (unlines ls) ≡ ls ++ ([] ∷ [])
unfolding unlines split
parts-unlines [] f = refl
parts-unlines (l ∷ ls) f = split-line newline l (unlines ls) (f l (Memᴰ.head refl)) ∙ ap (λ (k : List (List ℕ)). l ∷ k) (parts-unlines ls (rest-free l ls f))

-- nothing stands after the last newline, so no more is too long
long-snoc : (ls : List (List ℕ)) → any_long (ls ++ ([] ∷ [])) ≡ any_long ls
unfolding any_long
long-snoc [] = refl
long-snoc (l ∷ ls) = ap (λ b. ltb 200 (length l) || b) (long-snoc ls)

pub long-unlines : (ls : List (List ℕ)) → Free ls → any_long (parts (unlines ls)) ≡ any_long ls
long-unlines ls f = ap any_long (parts-unlines ls f) ∙ long-snoc ls

-- ---- the last byte

last-append : (x r : List ℕ) → 0 < length r → get_or (x ++ r) (length (x ++ r) - 1) 0 ≡ get_or r (length r - 1) 0
last-append x r h =
    let n = length-append x r in
    let i : length (x ++ r) - 1 ≡ length x + (length r - 1) = omega arith in
    rw i (get_or-append-add x r (length r - 1) 0)

pub unlines-some : (l : List ℕ) (ls : List (List ℕ)) → 0 < length (unlines (l ∷ ls))
unfolding unlines
unlines-some l ls = let n = length-append l (newline ∷ unlines ls) in omega arith

unlines-last : (l : List ℕ) (ls : List (List ℕ)) → get_or (unlines (l ∷ ls)) (length (unlines (l ∷ ls)) - 1) 0 ≡ newline
unfolding unlines
unlines-last l [] = last-append l (newline ∷ []) (omega arith)
unlines-last l (m ∷ ms) =
    last-append l (newline ∷ unlines (m ∷ ms)) (omega arith) ∙ last-append (newline ∷ []) (unlines (m ∷ ms)) (unlines-some m ms) ∙ unlines-last m ms

pub unlines-ends : (l : List ℕ) (ls : List (List ℕ)) → ends_right (unlines (l ∷ ls)) ≡ true
unfolding ends_right
unlines-ends l ls = eq-eqb _ _ (unlines-last l ls)

-- ---- the parts of a text

-- what holds of no bytes, and of one byte more where it is of the text and not the one that cuts, holds of each part
module _ (Q : List ℕ → Type 0) (none : Q []) (b : ℕ) where
  push-all : (c : ℕ) (ls : List (List ℕ)) → ((l : List ℕ) → Q l → Q (c ∷ l)) → ((k : ℕ) → Q (get_or ls k [])) → (k : ℕ) → Q (get_or (push c ls) k [])
  push-all c [] g f zero = g [] none
  push-all c [] g f (suc k) = none
  push-all c (l ∷ ls) g f zero = g l (f 0)
  push-all c (l ∷ ls) g f (suc k) = f (suc k)

  pub part-all : (x : List ℕ) → ((c : ℕ) → Memᴰ c x → eqb c b ≡ false → (l : List ℕ) → Q l → Q (c ∷ l)) → (k : ℕ) → Q (get_or (split b x) k [])
  unfolding split
  part-all [] g zero = none
  part-all [] g (suc k) = none
  part-all (c ∷ r) g k = go (eqb c b) refl (part-all r (λ d m. g d (Memᴰ.tail m))) k
    where
      go : (t : Bool) → eqb c b ≡ t → ((k : ℕ) → Q (get_or (split b r) k [])) → (k : ℕ) → Q (get_or (cond t ([] ∷ split b r) (push c (split b r))) k [])
      go true e f zero = none
      go true e f (suc k) = f k
      go false e f k = push-all c (split b r) (g c (Memᴰ.head refl) e) f k

pub part_free : (b : ℕ) (x : List ℕ) (k : ℕ) → has b (get_or (split b x) k []) ≡ false
unfolding has
part_free b x k = part-all (λ l. has b l ≡ false) refl b x (λ c m e l h. rw (e, h)) k

pub line-free : (s : List ℕ) (k : ℕ) → has newline (line_of s k) ≡ false
line-free s k = part_free newline s k

-- ---- bytes that are right

pub byte-right : (x : List ℕ) → byte_wrong x ≡ false → (c : ℕ) → Memᴰ c x → byte_right c ≡ true
unfolding byte_wrong
byte-right [] e c m = elim m [ ]
byte-right (d ∷ r) e c m = let w = or-none (not (byte_right d)) (byte_wrong r) e in go (Memᴰ.cases_cons m) (not-false (byte_right d) w.0) (byte-right r w.1 c)
  where
    go : (c ≡ d) ⊎ Memᴰ c r → byte_right d ≡ true → (Memᴰ c r → byte_right c ≡ true) → byte_right c ≡ true
    go (inl i) h f = ap byte_right i ∙ h
    go (inr i) h f = f i

pub line-right : (s : List ℕ) → byte_wrong s ≡ false → (k : ℕ) → byte_wrong (line_of s k) ≡ false
unfolding byte_wrong
line-right s e k = part-all (λ l. byte_wrong l ≡ false) refl newline s (λ c m n l h. rw (byte-right s e c m, h)) k

right-append : (x y : List ℕ) → byte_wrong x ≡ false → byte_wrong y ≡ false → byte_wrong (x ++ y) ≡ false
unfolding byte_wrong
right-append [] y e f = f
right-append (c ∷ x) y e f = let w = or-none (not (byte_right c)) (byte_wrong x) e in rw (w.0, right-append x y w.1 f)

pub unlines-right : (ls : List (List ℕ)) → ((l : List ℕ) → Memᴰ l ls → byte_wrong l ≡ false) → byte_wrong (unlines ls) ≡ false
unfolding byte_wrong unlines
unlines-right [] f = refl
unlines-right (l ∷ ls) f = right-append l (newline ∷ unlines ls) (f l (Memᴰ.head refl)) (unlines-right ls (λ k m. f k (Memᴰ.tail m)))

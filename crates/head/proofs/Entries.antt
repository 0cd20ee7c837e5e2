-- The entries of a sheet's declarations: that of a symbol's word is its symbol's, by number and kind, and that of another word is 0. Assumes nothing.
use mathlib.Core.Path.{◌≡◌, refl, sym, ap, ◌∙◌}
use mathlib.Core.Bool.{Bool, true, false, cond}
use mathlib.Core.List.{List, [], ◌∷◌, map}
use Prim.Native.Nat.{ℕ, zero, suc, ◌+◌, ◌≤◌, ◌<◌}
use native.Mathlib.Omega.{arith}
use lib.Dec.{eqb}
use lib.ListN.{length, get_or, set, replicate, get_or-replicate, length-replicate, length-set, length-map, get_or-map}
use lib.Seq.{get_or-set_same, get_or-set_other}
use borrow.Author.Tests.{eqb-true, eqb-false}
use Rattle.spelling.specs.Spelling.{word, entry_in}
use Rattle.spelling.proofs.SpellingLaws.{spelled-some, word-injective}
use Rattle.spelling.proofs.EntryLaws.{no-entry, entry-is, entry-isnt}
use Rattle.head.specs.Head.{place_of, declare, declared, spellings, kinds}
use Rattle.head.proofs.DeclareLaws.{place-low}
use Rattle.head.proofs.Spellings.{sheet-spellings}

-- ---- places
-- symbols of one place are one symbol, whatever their kinds
place-injective : (a b k l : ℕ) → a < 8 → b < 8 → place_of a k ≡ place_of b l → a ≡ b
place-injective a b k l h g e = go (eqb k 3) (eqb l 3) e
  where
    go : (x y : Bool) → cond x (8 + a) a ≡ cond y (8 + b) b → a ≡ b
    go true true q = omega arith
    go true false q = omega arith
    go false true q = omega arith
    go false false q = q

-- ---- the table
declare-size : (i : ℕ) (xs ks tab : List ℕ) → length (declare i xs ks tab) ≡ length tab
unfolding declare
declare-size i [] ks tab = refl
declare-size i (x ∷ xs) [] tab = refl
declare-size i (x ∷ xs) (k ∷ ks) tab = declare-size (suc i) xs ks (set tab (place_of i k) x) ∙ length-set tab (place_of i k) x

-- a place of no later symbol keeps what it has
declare-keeps : (i : ℕ) (xs ks tab : List ℕ) (p : ℕ) → ((j : ℕ) → j < length xs → p ≡ place_of (i + j) (get_or ks j 0) → ⊥) → get_or (declare i xs ks tab) p 0 ≡ get_or tab p 0
unfolding declare
declare-keeps i [] ks tab p other = refl
declare-keeps i (x ∷ xs) [] tab p other = refl
declare-keeps i (x ∷ xs) (k ∷ ks) tab p other =
    declare-keeps (suc i) xs ks (set tab (place_of i k) x) p (λ j h e. let z : suc i + j ≡ i + suc j = omega arith in other (suc j) (omega arith) (e ∙ ap (λ n. place_of n (get_or ks j 0)) z))
    ∙ get_or-set_other tab (place_of i k) p x 0 (λ e. let z : i + 0 ≡ i = omega arith in other 0 (omega arith) (e ∙ ap (λ n. place_of n k) (sym z)))

-- each symbol has its place
declare-places : (i : ℕ) (xs ks tab : List ℕ) (j : ℕ) → length tab ≡ 16 → i + length xs ≤ 8 → length ks ≡ length xs → j < length xs → get_or (declare i xs ks tab) (place_of (i + j) (get_or ks j 0)) 0 ≡ get_or xs j 0
unfolding declare
declare-places i [] ks tab j size few same h = absurd (omega arith)
declare-places i (x ∷ xs) [] tab j size few same h = absurd (omega arith)
declare-places i (x ∷ xs) (k ∷ ks) tab zero size few same h =
    let z : i + 0 ≡ i = omega arith in
    let p : place_of i k < length tab = omega (arith, place-low i k (omega arith)) in
    rw z (declare-keeps (suc i) xs ks (set tab (place_of i k) x) (place_of i k) (λ j g e. let w : i ≡ suc i + j = place-injective i (suc i + j) k (get_or ks j 0) (omega arith) (omega arith) e in omega arith) ∙ get_or-set_same tab (place_of i k) x 0 p)
declare-places i (x ∷ xs) (k ∷ ks) tab (suc j) size few same h =
    let z : suc i + j ≡ i + suc j = omega arith in
    ap (λ n. get_or (declare (suc i) xs ks (set tab (place_of i k) x)) (place_of n (get_or ks j 0)) 0) (sym z)
    ∙ declare-places (suc i) xs ks (set tab (place_of i k) x) j (length-set tab (place_of i k) x ∙ size) (omega arith) (omega arith) (omega arith)

-- and only symbols with a word put it at a place
declare-lacks : (x i : ℕ) (xs ks tab : List ℕ) (p : ℕ) → p < length tab → ((j : ℕ) → j < length xs → get_or xs j 0 ≡ x → p ≡ place_of (i + j) (get_or ks j 0) → ⊥) → (get_or tab p 0 ≡ x → ⊥) → get_or (declare i xs ks tab) p 0 ≡ x → ⊥
unfolding declare
declare-lacks x i [] ks tab p inside other blank = blank
declare-lacks x i (y ∷ xs) [] tab p inside other blank = blank
declare-lacks x i (y ∷ xs) (k ∷ ks) tab p inside other blank =
    declare-lacks x (suc i) xs ks (set tab (place_of i k) y) p (rw length-set inside) (λ j h e q. let z : suc i + j ≡ i + suc j = omega arith in other (suc j) (omega arith) e (q ∙ ap (λ n. place_of n (get_or ks j 0)) z)) (go (eqb p (place_of i k)) refl)
  where
    go : (t : Bool) → eqb p (place_of i k) ≡ t → get_or (set tab (place_of i k) y) p 0 ≡ x → ⊥
    go true e q =
        let z : p ≡ place_of i k = eqb-true p (place_of i k) e in
        let w : i + 0 ≡ i = omega arith in
        other 0 (omega arith) (sym (get_or-set_same tab p y 0 inside) ∙ ap (λ n. get_or (set tab n y) p 0) z ∙ q) (z ∙ ap (λ n. place_of n k) (sym w))
    go false e q = blank (sym (get_or-set_other tab (place_of i k) p y 0 (eqb-false p (place_of i k) e)) ∙ q)

-- ---- the declarations
module _ (xs ks : List ℕ) where
  pub declared-size : length (declared xs ks) ≡ 16
  unfolding declared
  declared-size = declare-size 0 xs ks (replicate 16 0)

  declared-lacks : (x p : ℕ) → (x ≡ 0 → ⊥) → p < 16 → ((j : ℕ) → j < length xs → get_or xs j 0 ≡ x → p ≡ place_of j (get_or ks j 0) → ⊥) → get_or (declared xs ks) p 0 ≡ x → ⊥
  unfolding declared
  declared-lacks x p n h other =
      declare-lacks x 0 xs ks (replicate 16 0) p h (λ j g e q. let z : 0 + j ≡ j = omega arith in other j g e (q ∙ ap (λ m. place_of m (get_or ks j 0)) z)) (λ e. n (sym e ∙ get_or-replicate 16 p 0 0 h))

  -- a word that no symbol has, has no entry
  declared-none : (x : ℕ) → ((j : ℕ) → j < length xs → get_or xs j 0 ≡ x → ⊥) → entry_in (declared xs ks) x ≡ 0
  declared-none x other = go (eqb x 0) refl
    where
      go : (t : Bool) → eqb x 0 ≡ t → entry_in (declared xs ks) x ≡ 0
      go true e = no-entry (declared xs ks) x (eqb-true x 0 e)
      go false e = entry-isnt (declared xs ks) declared-size x (eqb-false x 0 e) (λ p h. declared-lacks x p (eqb-false x 0 e) h (λ j g q r. other j g q))

  module _ (few : length xs ≤ 8) (same : length ks ≡ length xs) where
    declared-places : (j : ℕ) → j < length xs → get_or (declared xs ks) (place_of j (get_or ks j 0)) 0 ≡ get_or xs j 0
    unfolding declared
    declared-places j h =
        let z : 0 + j ≡ j = omega arith in
        ap (λ n. get_or (declare 0 xs ks (replicate 16 0)) (place_of n (get_or ks j 0)) 0) (sym z) ∙ declare-places 0 xs ks (replicate 16 0) j (length-replicate {A = ℕ} 16 0) (omega arith) same h

    -- where words are different and none is 0, each has its symbol's entry
    declared-entry : (j : ℕ) → j < length xs → (get_or xs j 0 ≡ 0 → ⊥) → ((k : ℕ) → k < length xs → get_or xs k 0 ≡ get_or xs j 0 → k ≡ j) → entry_in (declared xs ks) (get_or xs j 0) ≡ suc (place_of j (get_or ks j 0))
    declared-entry j h n different =
        let low : place_of j (get_or ks j 0) < 16 = place-low j (get_or ks j 0) (omega arith) in
        entry-is (declared xs ks) declared-size (get_or xs j 0) n (place_of j (get_or ks j 0)) low (declared-places j h)
        (λ p l. declared-lacks (get_or xs j 0) p n (omega arith) (λ k g e q. let z : place_of k (get_or ks k 0) ≡ place_of j (get_or ks j 0) = ap (λ i. place_of i (get_or ks i 0)) (different k g e) in omega arith))

-- ---- the sheet's
word_at : (s : List ℕ) (k : ℕ) → get_or (map word (spellings s)) k 0 ≡ word (get_or (spellings s) k [])
unfolding word
word_at s k = get_or-map word (spellings s) k []

pub sheet-entry : (s : List ℕ) (j : ℕ) → j < length (spellings s) → length (kinds s) ≡ length (spellings s)
    → entry_in (declared (map word (spellings s)) (kinds s)) (word (get_or (spellings s) j [])) ≡ suc (place_of j (get_or (kinds s) j 0))
sheet-entry s j h same =
    let x = sheet-spellings s in
    let size : length (map word (spellings s)) ≡ length (spellings s) = length-map (spellings s) word in
    ap (entry_in (declared (map word (spellings s)) (kinds s))) (sym (word_at s j))
    ∙ declared-entry (map word (spellings s)) (kinds s) (omega (arith, x.few)) (same ∙ sym size) j (omega arith) (λ e. spelled-some (get_or (spellings s) j []) (x.spelled j h) (sym (word_at s j) ∙ e))
    (λ k g e. let l : k < length (spellings s) = omega arith in x.different k j l h (word-injective (get_or (spellings s) k []) (get_or (spellings s) j []) (x.spelled k l) (x.spelled j h) (sym (word_at s k) ∙ e ∙ word_at s j)))

-- a word that no symbol has, has no entry
pub sheet-no-entry : (s : List ℕ) (x : ℕ) → ((k : ℕ) → k < length (spellings s) → word (get_or (spellings s) k []) ≡ x → ⊥) → entry_in (declared (map word (spellings s)) (kinds s)) x ≡ 0
sheet-no-entry s x other =
    let size : length (map word (spellings s)) ≡ length (spellings s) = length-map (spellings s) word in
    declared-none (map word (spellings s)) (kinds s) x (λ k h e. other k (omega arith) (sym (word_at s k) ∙ e))

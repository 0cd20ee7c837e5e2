-- Runs of letters, and letters as numbers: a spelling's number has its letters, so different spellings have different numbers. Assumes nothing.
use mathlib.Core.Path.{◌≡◌, refl, sym, ap, ap₂, ◌∙◌}
use mathlib.Core.Bool.{Bool, true, false, cond, ◌&&◌, false≢true}
use mathlib.Core.List.{List, [], ◌∷◌, ◌++◌}
use Prim.Native.Nat.{ℕ, suc, ◌+◌, ◌-◌, ◌*◌, ◌/◌, ◌%◌, ◌^◌, ◌≤◌, ◌<◌}
use native.Mathlib.Omega.{arith}
use native.Mathlib.Nat.{pow-suc}
use native.Mathlib.Numerals.{add-one}
use lib.ListN.{length, get_or, drop, drop_of_length-le}
use lib.Seq.{drop-cons}
use lib.Dec.{eqb, leb}
use borrow.Author.Tests.{eq-eqb, ne_eqb, eqb-true, eqb-false, leb-true, le-leb}
use Rattle.spelling.specs.Spelling.{lower, run, spelled, word, letters_from, letters_of}

-- ---- runs
module _ (s : List ℕ) (i : ℕ) where
  pub run_more : i < length s → lower (get_or s i 0) ≡ true → run (drop i s) ≡ suc (run (drop (i + 1) s))
  unfolding run
  run_more h e = rw (drop-cons s i 0 h, e, add-one i)

  pub run-stop : i < length s → lower (get_or s i 0) ≡ false → run (drop i s) ≡ 0
  unfolding run
  run-stop h e = rw (drop-cons s i 0 h, e)

  pub run_out : length s ≤ i → run (drop i s) ≡ 0
  unfolding run
  run_out h = rw (drop_of_length-le s h)

pub run-all : (xs : List ℕ) → 0 + run (drop 0 xs) ≡ run xs
unfolding run
run-all [] = refl
run-all (b ∷ r) = omega arith

pub run-le : (xs : List ℕ) → run xs ≤ length xs
unfolding run
run-le [] = omega arith
run-le (b ∷ r) = go (lower b) (run-le r)
  where
    go : (t : Bool) → run r ≤ length r → cond t (suc (run r)) 0 ≤ suc (length r)
    go true h = omega arith
    go false h = omega arith

-- ---- letters of a number
pub letters-none : (f x : ℕ) → x ≡ 0 → letters_from f x ≡ []
unfolding letters_from
letters-none ℕ.zero x e = refl
letters-none (suc f) x e = rw (eq-eqb x 0 e) refl

-- a number that is not 0 has its lowest letter first
pub record More (f x : ℕ) : Type 0 where
  pub is : letters_from f x ≡ x % 256 ∷ letters_from (f - 1) (x / 256)
  pub small : x / 256 < 256 ^ (f - 1)
  pub some : 0 < f

pub letters-more : (f x : ℕ) → x < 256 ^ f → (x ≡ 0 → ⊥) → More f x
unfolding letters_from
letters-more ℕ.zero x h n = absurd (n (omega arith))
letters-more (suc f) x h n =
    let e : suc f - 1 ≡ f = omega arith in
    record { is = rw (ne_eqb x 0 n, e) refl; small = rw e (omega (arith, pow-suc 256 f)); some = omega arith }

pub letters-few : (f x : ℕ) → length (letters_from f x) ≤ f
unfolding letters_from
letters-few ℕ.zero x = omega arith
letters-few (suc f) x = go (eqb x 0) (letters-few f (x / 256))
  where
    go : (t : Bool) → length (letters_from f (x / 256)) ≤ f → length (cond t [] (x % 256 ∷ letters_from f (x / 256))) ≤ suc f
    go true h = omega arith
    go false h = omega arith

-- ---- the number of letters
module _ (f x : ℕ) (h : x < 256 ^ f) where
  pub count_none : x ≡ 0 → (0 ≡ length (letters_from f x)) × (0 ≤ f)
  count_none e = (rw (letters-none f x e) refl, omega arith)

  pub count-more : (x ≡ 0 → ⊥) → {r : ℕ} → ((g : ℕ) → x / 256 < 256 ^ g → (r ≡ length (letters_from g (x / 256))) × (r ≤ g)) → (1 + r ≡ length (letters_from f x)) × (1 + r ≤ f)
  count-more n w = let m = letters-more f x h n in let q = w (f - 1) m.small in (rw m.is (omega (arith, q.0)), omega (arith, q.1, m.some))

  pub letter-first : x % 256 ≡ get_or (letters_from f x) 0 0
  letter-first = go (eqb x 0) refl
    where
      go : (t : Bool) → eqb x 0 ≡ t → x % 256 ≡ get_or (letters_from f x) 0 0
      go true e = let z : x ≡ 0 = eqb-true x 0 e in rw (letters-none f x z) (omega arith)
      go false e = let m = letters-more f x h (eqb-false x 0 e) in rw m.is refl

  pub letter-next : (k : ℕ) → (k ≡ 0 → ⊥) → {r : ℕ} → ((g : ℕ) → x / 256 < 256 ^ g → r ≡ get_or (letters_from g (x / 256)) (k - 1) 0) → r ≡ get_or (letters_from f x) k 0
  letter-next k n {r} w = go (eqb x 0) refl
    where
      go : (t : Bool) → eqb x 0 ≡ t → r ≡ get_or (letters_from f x) k 0
      go true e =
          let z : x ≡ 0 = eqb-true x 0 e in
          let a : x / 256 ≡ 0 = omega arith in
          w 0 (omega arith) ∙ ap (λ l. get_or l (k - 1) 0) (letters-none 0 (x / 256) a) ∙ ap (λ l. get_or l k 0) (sym (letters-none f x z))
      go false e =
          let m = letters-more f x h (eqb-false x 0 e) in
          let j : k ≡ suc (k - 1) = omega arith in
          w (f - 1) m.small ∙ sym (rw m.is (ap (λ i. get_or (x % 256 ∷ letters_from (f - 1) (x / 256)) i 0) j))

-- ---- letters as a number
module _ (w : List ℕ) (i : ℕ) where
  pub word_end : length w ≤ i → word (drop i w) ≡ 0
  unfolding word
  word_end h = rw (drop_of_length-le w h)

  pub word_more : i < length w → word (drop i w) ≡ get_or w i 0 + 256 * word (drop (i + 1) w)
  unfolding word
  word_more h = rw (drop-cons w i 0 h, add-one i)

pub pow-some : (f : ℕ) → 0 < 256 ^ f
pow-some ℕ.zero = omega arith
pow-some (suc f) = let h = pow-some f in omega (arith, pow-suc 256 f)

-- a number with one letter more
word_fits : (f b r n i : ℕ) → b < 256 → i < n → n ≤ i + f → ((g : ℕ) → n ≤ i + 1 + g → r < 256 ^ g) → b + 256 * r < 256 ^ f
word_fits ℕ.zero b r n i h k l w = absurd (omega arith)
word_fits (suc f) b r n i h k l w = let q = w f (omega arith) in omega (arith, pow-suc 256 f)

-- the letters from i on, packed
pub record Packed (w : List ℕ) (i x : ℕ) : Type 0 where
  pub is : x ≡ word (drop i w)
  pub small : (f : ℕ) → length w ≤ i + f → x < 256 ^ f

pub packed_none : (w : List ℕ) → Packed w (length w) 0
packed_none w = record { is = sym (word_end w (length w) (omega arith)); small = λ f k. pow-some f }

pub packed-next : {w : List ℕ} {i x b : ℕ} → Packed w i x → 0 < i → i ≤ length w → b ≡ get_or w (i - 1) 0 → b < 256 → Packed w (i - 1) (b + 256 * x)
packed-next {w} {i} {x} {b} p m h e l =
    let j : i - 1 + 1 ≡ i = omega arith in
    record {
      is = ap₂ (λ c y. c + 256 * y) e (p.is ∙ ap (λ k. word (drop k w)) (sym j)) ∙ sym (word_more w (i - 1) (omega arith));
      small = λ f k. word_fits f b x (length w) (i - 1) l (omega arith) k (λ g n. p.small g (omega arith));
    }

-- ---- spellings
-- lower-case letters, and nothing else
abbrev pub Lower : List ℕ → Type 0
Lower [] = Unit {0}
Lower (b ∷ r) = ((97 ≤ b) × (b ≤ 122)) × Lower r

pub lower-is : (b : ℕ) → lower b ≡ true → (97 ≤ b) × (b ≤ 122)
lower-is b e = go (leb 97 b) (leb b 122) refl refl e
  where
    go : (x y : Bool) → leb 97 b ≡ x → leb b 122 ≡ y → (x && y) ≡ true → (97 ≤ b) × (b ≤ 122)
    go true true p q e = (leb-true 97 b p, leb-true b 122 q)
    go true false p q e = absurd (false≢true e)
    go false y p q e = absurd (false≢true e)

pub is-lower-case : (b : ℕ) → 97 ≤ b → b ≤ 122 → lower b ≡ true
is-lower-case b h k = rw (le-leb 97 b h, le-leb b 122 k) refl

run-lower : (w : List ℕ) → run w ≡ length w → Lower w
unfolding run
run-lower [] e = tt
run-lower (b ∷ r) e = go (lower b) refl (λ q. run-lower r q) e
  where
    go : (t : Bool) → lower b ≡ t → (run r ≡ length r → Lower r) → cond t (suc (run r)) 0 ≡ suc (length r) → ((97 ≤ b) × (b ≤ 122)) × Lower r
    go true p f q = (lower-is b p, f (omega arith))
    go false p f q = absurd (omega arith)

-- a run of letters before what is no letter, or nothing
pub run-whole : (w r : List ℕ) → Lower w → run r ≡ 0 → run (w ++ r) ≡ length w
unfolding run
run-whole [] r l e = e
run-whole (b ∷ w) r l e = rw (is-lower-case b l.0.0 l.0.1) (ap suc (run-whole w r l.1 e))

-- what a spelling is
pub record Spelled (w : List ℕ) : Type 0 where
  pub some : 1 ≤ length w
  pub short : length w ≤ 8
  pub letters : Lower w

pub spelled_is : (w : List ℕ) → spelled w ≡ true → Spelled w
unfolding spelled
spelled_is w e = go (leb 1 (length w)) (leb (length w) 8) (eqb (run w) (length w)) refl refl refl e
  where
    go : (x y z : Bool) → leb 1 (length w) ≡ x → leb (length w) 8 ≡ y → eqb (run w) (length w) ≡ z → (x && y && z) ≡ true → Spelled w
    go true true true p q r e = record { some = leb-true 1 (length w) p; short = leb-true (length w) 8 q; letters = run-lower w (eqb-true (run w) (length w) r) }
    go true true false p q r e = absurd (false≢true e)
    go true false z p q r e = absurd (false≢true e)
    go false y z p q r e = absurd (false≢true e)

-- the first of the letters is the lowest byte, and a letter is not 0
word_some : (b : ℕ) (w : List ℕ) → 97 ≤ b → (word (b ∷ w) ≡ 0 → ⊥)
unfolding word
word_some b w h e = omega arith

pub letters-word : (f : ℕ) (w : List ℕ) → length w ≤ f → Lower w → letters_from f (word w) ≡ w
unfolding letters_from word
letters-word f [] h l = letters-none f (word []) refl
letters-word ℕ.zero (b ∷ w) h l = absurd (omega arith)
letters-word (suc f) (b ∷ w) h l = first ∙ ap₂ ◌∷◌ low (ap (letters_from f) high ∙ letters-word f w (omega arith) l.1)
  where
    first : letters_from (suc f) (word (b ∷ w)) ≡ word (b ∷ w) % 256 ∷ letters_from f (word (b ∷ w) / 256)
    first = rw (ne_eqb (word (b ∷ w)) 0 (word_some b w l.0.0)) refl

    low : word (b ∷ w) % 256 ≡ b
    low = omega (arith, l.0.1)

    high : word (b ∷ w) / 256 ≡ word w
    high = omega (arith, l.0.1)

-- the letters of a spelling's number
pub spelled-letters : (w : List ℕ) → Spelled w → letters_of (word w) ≡ w
spelled-letters w s = letters-word 8 w s.short s.letters

-- so different spellings have different numbers
pub word-injective : (v w : List ℕ) → Spelled v → Spelled w → word v ≡ word w → v ≡ w
word-injective v w s t e = sym (spelled-letters v s) ∙ ap letters_of e ∙ spelled-letters w t

-- none of which is 0
pub spelled-some : (w : List ℕ) → Spelled w → (word w ≡ 0 → ⊥)
spelled-some [] s e = let h = s.some in omega arith
spelled-some (b ∷ w) s e = word_some b w s.letters.0.0 e

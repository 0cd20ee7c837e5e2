-- Laws of the words of lines 1 and 2. Assumes nothing.
use mathlib.Core.Path.{◌≡◌, refl, sym, ap, ap₂, ◌∙◌}
use mathlib.Core.Bool.{Bool, true, false, cond, ◌&&◌, false≢true}
use mathlib.Core.List.{List, [], ◌∷◌, ◌++◌, map}
use Prim.Native.Nat.{ℕ, suc, ◌+◌, ◌-◌, ◌≤◌, ◌<◌}
use native.Mathlib.Numerals.{add-one}
use native.Mathlib.Omega.{arith}
use lib.Dec.{eqb, ltb}
use lib.ListN.{length, take, drop, set, length-drop, length-set, get_or, drop_of_length-le}
use lib.Seq.{take-suc-set, length-take-le, take_all, drop-cons}
use borrow.Author.Tests.{ltb-true, ltb-false}
use Rattle.std.specs.List.{count_by, slice_split}
use Rattle.std.proofs.lemmas.List.Splits.{length-slice_split}
use Rattle.layout.proofs.ScanLaws.{split-is}
use Rattle.std.proofs.lemmas.List.Recursion.{is_count_by}
use Rattle.spelling.specs.Spelling.{spelled, word}
use Rattle.spelling.proofs.SpellingLaws.{Spelled, spelled_is}
use Rattle.layout.specs.Text.{part, end_of, split}
use Rattle.head.specs.Head.{space, word_right, name_count, kind_of, kind_right, kinds_from, kinds_of}
use Rattle.layout.proofs.TextLaws.{cut-last, cut-next}

pub and-fst : (a b : Bool) → (a && b) ≡ true → a ≡ true
and-fst true b e = refl
and-fst false b e = e

pub and-snd : (a b : Bool) → (a && b) ≡ true → b ≡ true
and-snd true b e = e
and-snd false b e = absurd (false≢true e)

-- the first word from a position on, and those after it
unfoldable pub rest : ℕ → List ℕ → ℕ → List (List ℕ)
rest b s e = cond (ltb e (length s)) (split b (drop (e + 1) s)) []

module _ (b : ℕ) (s : List ℕ) (at e : ℕ) (is : e ≡ end_of b s at) (inside : at ≤ length s) (within : e ≤ length s) where
  first-at : (t : Bool) → ltb e (length s) ≡ t → split b (drop at s) ≡ part s at e ∷ cond t (split b (drop (e + 1) s)) []
  first-at true h = rw (cut-next b s at inside (rw (← is) (ltb-true _ _ h)), ← is)
  first-at false h =
      let k : length s ≤ e = ltb-false _ _ h in
      cut-last b s at inside (rw (← is) k) ∙ rw (take_all (e - at) (drop at s) (rw length-drop (omega arith)))

  pub first : split b (drop at s) ≡ part s at e ∷ rest b s e
  unfolding rest
  first = first-at (ltb e (length s)) refl

-- ---- words read one by one into an array of 8
-- each right word's number after those seen; none where a word is wrong
unfoldable pub collect : (List ℕ → List ℕ → Bool) → (List ℕ → ℕ) → List ℕ → List (List ℕ) → List ℕ
collect right value seen [] = seen
collect right value seen (w ∷ ws) = cond (right seen w) (collect right value (seen ++ (value w ∷ [])) ws) []

-- a turn of a loop over the library's parts of a text, after k of them
pub word-turn : (b : ℕ) (s w : List ℕ) (n k : ℕ) → n ≡ k → (k < length (slice_split (λ c. eqb c b) s)) × (w ≡ get_or (slice_split (λ c. eqb c b) s) k w) → (n < length (split b s)) × (w ≡ get_or (split b s) n w)
word-turn b s w n k e t = rw (e, ← split-is b s) t

-- and its end: there is a word
pub word-end : (b : ℕ) (s : List ℕ) (n k : ℕ) → n ≡ k → k ≡ length (slice_split (λ c. eqb c b) s) → (1 ≤ n) × (length (split b s) ≤ n)
word-end b s n k e t = let h = length-slice_split (λ c. eqb c b) s in let q = ap length (split-is b s) in (omega arith, omega arith)

-- the first n words are in an array, and the numbers of the others, after those, give all
pub record Collecting (right : List ℕ → List ℕ → Bool) (value : List ℕ → ℕ) (ws : List (List ℕ)) (all l : List ℕ) (n : ℕ) : Type 0 where
  pub few : n ≤ 8
  pub room : length l ≡ 8
  pub are : collect right value (take n l) (drop n ws) ≡ all

module _ {right : List ℕ → List ℕ → Bool} {value : List ℕ → ℕ} {ws : List (List ℕ)} {all l : List ℕ} {n : ℕ} (p : Collecting right value ws all l n) where
  pub collect-end : length ws ≤ n → take n l ≡ all
  unfolding collect
  collect-end h = sym (rw (drop_of_length-le ws h)) ∙ p.are

  module _ (w : List ℕ) (h : n < length ws) (is : w ≡ get_or ws n w) where
    next : collect right value (take n l) (w ∷ drop (n + 1) ws) ≡ all
    next =
        let front : drop n ws ≡ w ∷ drop (n + 1) ws = drop-cons ws n w h ∙ ap₂ ◌∷◌ (sym is) (ap (λ k. drop k ws) (sym (add-one n))) in
        sym (ap (collect right value (take n l)) front) ∙ p.are

    pub collect-wrong : right (take n l) w ≡ false → all ≡ []
    unfolding collect
    collect-wrong r = sym next ∙ rw r

    module _ (right-few : (seen w : List ℕ) → right seen w ≡ true → length seen < 8) (r : right (take n l) w ≡ true) where
      pub collect-room : n < 8
      collect-room = let f : length (take n l) < 8 = right-few (take n l) w r in omega (arith, length-take-le n l (omega (arith, p.few, p.room)))

      pub collect-next : {x : ℕ} → x ≡ value w → Collecting right value ws all (set l n x) (n + 1)
      unfolding collect
      collect-next {x} v =
          let q : n < length l = omega (arith, collect-room, p.room) in
          let add : take n l ++ (value w ∷ []) ≡ take (n + 1) (set l n x) = rw (← v, add-one n, take-suc-set l n x q) in
          record {
            few = omega (arith, collect-room);
            room = length-set l n x ∙ p.room;
            are = rw (← add) (sym (rw r) ∙ next);
          }

-- ---- the kinds
pub name-count : (ks : List ℕ) → name_count ks ≡ count_by (λ k. eqb k 2) ks
unfolding name_count
name-count = is_count_by name_count (λ k. eqb k 2) refl (λ k ks. let z : suc (name_count ks) ≡ 1 + name_count ks = omega arith in ap (λ n. cond (eqb k 2) n (name_count ks)) z)

-- a word that may follow the kinds seen
abbrev pub kind_fits : List ℕ → List ℕ → Bool
kind_fits seen w = kind_right seen (kind_of w)

pub kind-few : (seen w : List ℕ) → kind_fits seen w ≡ true → length seen < 8
unfolding kind_right
kind-few seen w e = ltb-true _ _ (and-snd (ltb 0 (kind_of w)) _ (and-fst _ _ e))

kinds-from : (ws : List (List ℕ)) (seen : List ℕ) → collect kind_fits kind_of seen ws ≡ kinds_from seen ws
unfolding collect kinds_from
kinds-from [] seen = refl
kinds-from (w ∷ ws) seen = ap (λ l. cond (kind_fits seen w) l []) (kinds-from ws (seen ++ (kind_of w ∷ [])))

pub kinds-collected : (line : List ℕ) → collect kind_fits kind_of [] (split space line) ≡ kinds_of line
unfolding kinds_of
kinds-collected line = kinds-from (split space line) []

-- ---- the words of line 1
-- no numbers, no words
pub none-of : (ws : List (List ℕ)) → map word ws ≡ [] → ws ≡ []
none-of [] e = refl
none-of (w ∷ ws) e = absurd (let z : ◌≡◌ {A = ℕ} 0 1 = cc in omega arith)

pub word-few : (seen w : List ℕ) → word_right seen w ≡ true → length seen < 8
unfolding word_right
word-few seen w e = ltb-true _ _ (and-snd (spelled w) _ (and-fst _ _ e))

pub word-spelled : (seen w : List ℕ) → word_right seen w ≡ true → Spelled w
unfolding word_right
word-spelled seen w e = spelled_is w (and-fst _ _ (and-fst _ _ e))

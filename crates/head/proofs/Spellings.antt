-- The symbols of line 1 are different spellings, at most 8: what a print of formulas asks of them. Their packed words are told apart as they are. Assumes nothing.
use mathlib.Core.Path.{◌≡◌, refl, sym, ap, ap₂, ◌∙◌}
use mathlib.Core.Bool.{Bool, true, false, cond, not, ◌&&◌, ◌||◌, false≢true, true≢false}
use mathlib.Core.List.{List, [], ◌∷◌, ◌++◌, map, map-append}
use Prim.Native.Nat.{ℕ, zero, suc, ◌+◌, ◌≤◌, ◌<◌}
use native.Mathlib.Nat.{not-suc-le-zero}
use native.Mathlib.Decide.{dec_lt}
use native.Mathlib.Omega.{arith}
use lib.Dec.{eqb, ltb}
use lib.ListN.{length, get_or, get_or-append, length-append, length-map}
use lib.Seq.{get_or-append_seam}
use borrow.Author.Tests.{eq-eqb, ne_eqb, eqb-true, ltb-true, not-true}
use Rattle.spelling.specs.Spelling.{spelled, word}
use Rattle.spelling.proofs.SpellingLaws.{Spelled, spelled_is, word-injective}
use Rattle.layout.specs.Text.{same, has, split}
use Rattle.layout.specs.Layout.{line_of}
use Rattle.layout.proofs.UnlinesLaws.{or-none}
use Rattle.head.specs.Head.{has_text, name_right, word_right, names_from, names_of, spellings, space}
use Rattle.head.proofs.WordLaws.{and-fst, and-snd, collect}

pub record Spellings (ws : List (List ℕ)) : Type 0 where
  pub few : length ws ≤ 8
  pub spelled : (k : ℕ) → k < length ws → Spelled (get_or ws k [])
  pub different : (j k : ℕ) → j < length ws → k < length ws → get_or ws j [] ≡ get_or ws k [] → j ≡ k

none : Spellings []
none = record { few = omega arith; spelled = λ k h. absurd (not-suc-le-zero h); different = λ j k h i e. absurd (not-suc-le-zero h) }

-- ---- texts compared
same_self : (w : List ℕ) → same w w ≡ true
unfolding same
same_self [] = refl
same_self (b ∷ w) = rw (eq-eqb b b refl) (same_self w)

same-equal : (v w : List ℕ) → same v w ≡ true → v ≡ w
unfolding same
same-equal [] [] e = refl
same-equal [] (c ∷ w) e = absurd (false≢true e)
same-equal (b ∷ v) [] e = absurd (false≢true e)
same-equal (b ∷ v) (c ∷ w) e = ap₂ ◌∷◌ (eqb-true b c (and-fst (eqb b c) (same v w) e)) (same-equal v w (and-snd (eqb b c) (same v w) e))

-- spellings are the same where their words are
same_word : (v w : List ℕ) → Spelled v → Spelled w → eqb (word v) (word w) ≡ same v w
same_word v w x y = go (same v w) refl
  where
    go : (t : Bool) → same v w ≡ t → eqb (word v) (word w) ≡ t
    go true e = eq-eqb (word v) (word w) (ap word (same-equal v w e))
    go false e = ne_eqb (word v) (word w) (λ q. let z : v ≡ w = word-injective v w x y q in true≢false (sym (same_self w) ∙ ap (λ u. same u w) (sym z) ∙ e))

-- ---- a text among some
text-not : (w : List ℕ) (seen : List (List ℕ)) → has_text w seen ≡ false → (k : ℕ) → k < length seen → get_or seen k [] ≡ w → ⊥
unfolding has_text
text-not w [] e k h q = not-suc-le-zero h
text-not w (v ∷ r) e zero h q = true≢false (sym (ap (λ u. same u w) q ∙ same_self w) ∙ (or-none (same v w) (has_text w r) e).0)
text-not w (v ∷ r) e (suc k) h q = text-not w r (or-none (same v w) (has_text w r) e).1 k (omega arith) q

has-text : (w : List ℕ) (seen : List (List ℕ)) → Spelled w → ((k : ℕ) → k < length seen → Spelled (get_or seen k [])) → has (word w) (map word seen) ≡ has_text w seen
unfolding has has_text
has-text w [] y x = refl
has-text w (v ∷ r) y x = ap₂ ◌||◌ (same_word v w (x 0 (omega arith)) y) (has-text w r y (λ k h. x (suc k) (omega arith)))

-- the test of packed words is that of the spellings
pub word-right : (seen : List (List ℕ)) (w : List ℕ) → Spellings seen → word_right (map word seen) w ≡ name_right seen w
unfolding word_right name_right
word-right seen w x = go (spelled w) refl
  where
    go : (t : Bool) → spelled w ≡ t → (t && ltb (length (map word seen)) 8 && not (has (word w) (map word seen))) ≡ (t && ltb (length seen) 8 && not (has_text w seen))
    go true e = rw (length-map seen word, has-text w seen (spelled_is w e) x.spelled) refl
    go false e = refl

-- ---- one spelling more
module _ (seen : List (List ℕ)) (w : List ℕ) (x : Spellings seen) (r : (spelled w && ltb (length seen) 8 && not (has_text w seen)) ≡ true) where
  size : length (seen ++ (w ∷ [])) ≡ length seen + 1
  size = length-append seen (w ∷ [])

  -- what stands at a place: an earlier spelling, or the new one
  data At (k : ℕ) : Type 0 where
    earlier : k < length seen → get_or (seen ++ (w ∷ [])) k [] ≡ get_or seen k [] → At k
    last : k ≡ length seen → get_or (seen ++ (w ∷ [])) k [] ≡ w → At k

  at_from : (k : ℕ) → k < length (seen ++ (w ∷ [])) → Dec (k < length seen) → At k
  at_from k h (yes p) = earlier p (get_or-append seen (w ∷ []) [] k p)
  at_from k h (no p) =
      let e : k ≡ length seen = omega (arith, size) in
      last e (ap (λ (i : ℕ). get_or (seen ++ (w ∷ [])) i []) e ∙ get_or-append_seam seen w [] [])

  at : (k : ℕ) → k < length (seen ++ (w ∷ [])) → At k
  at k h = at_from k h (dec_lt k (length seen))

  new : has_text w seen ≡ false
  new = not-true (has_text w seen) (and-snd (spelled w && ltb (length seen) 8) _ r)

  spelled_at : (k : ℕ) → At k → Spelled (get_or (seen ++ (w ∷ [])) k [])
  spelled_at k (earlier p e) = rw e (x.spelled k p)
  spelled_at k (last p e) = rw e (spelled_is w (and-fst _ _ (and-fst _ _ r)))

  different-at : (j k : ℕ) → At j → At k → get_or (seen ++ (w ∷ [])) j [] ≡ get_or (seen ++ (w ∷ [])) k [] → j ≡ k
  different-at j k (earlier p e) (earlier q f) g = x.different j k p q (sym e ∙ g ∙ f)
  different-at j k (earlier p e) (last q f) g = absurd (text-not w seen new j p (sym e ∙ g ∙ f))
  different-at j k (last p e) (earlier q f) g = absurd (text-not w seen new k q (sym f ∙ sym g ∙ e))
  different-at j k (last p e) (last q f) g = p ∙ sym q

  add : Spellings (seen ++ (w ∷ []))
  add =
      record {
        few = omega (arith, size, ltb-true (length seen) 8 (and-snd (spelled w) _ (and-fst _ _ r)));
        spelled = λ k h. spelled_at k (at k h);
        different = λ j k h i e. different-at j k (at j h) (at k i) e;
      }

added : (seen : List (List ℕ)) (w : List ℕ) → Spellings seen → name_right seen w ≡ true → Spellings (seen ++ (w ∷ []))
unfolding name_right
added seen w x r = add seen w x r

-- ---- the spellings of line 1
choice : (t : Bool) (rest : List (List ℕ)) → (t ≡ true → Spellings rest) → Spellings (cond t rest [])
choice true rest f = f refl
choice false rest f = none

pub names-spellings : (ws seen : List (List ℕ)) → Spellings seen → Spellings (names_from seen ws)
unfolding names_from
names-spellings [] seen x = x
names-spellings (w ∷ ws) seen x = choice (name_right seen w) (names_from (seen ++ (w ∷ [])) ws) (λ e. names-spellings ws (seen ++ (w ∷ [])) (added seen w x e))

pub sheet-spellings : (s : List ℕ) → Spellings (spellings s)
unfolding names_of
sheet-spellings s = names-spellings (split space (line_of s 0)) [] none

-- ---- and packed, as the code collects them
packed : (ws seen : List (List ℕ)) → Spellings seen → collect word_right word (map word seen) ws ≡ map word (names_from seen ws)
unfolding collect names_from
packed [] seen x = refl
packed (w ∷ ws) seen x = rw (word-right seen w x) (go (name_right seen w) (λ e. ap (λ l. collect word_right word l ws) (sym (map-append word seen (w ∷ []))) ∙ packed ws (seen ++ (w ∷ [])) (added seen w x e)))
  where
    go : (t : Bool) → (t ≡ true → collect word_right word (map word seen ++ (word w ∷ [])) ws ≡ map word (names_from (seen ++ (w ∷ [])) ws)) → cond t (collect word_right word (map word seen ++ (word w ∷ [])) ws) [] ≡ map word (cond t (names_from (seen ++ (w ∷ [])) ws) [])
    go true f = f refl
    go false f = refl

pub names-packed : (line : List ℕ) → collect word_right word [] (split space line) ≡ map word (names_of line)
unfolding names_of
names-packed line = packed (split space line) [] none

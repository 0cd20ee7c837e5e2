-- The table of closure members: a member is a word over the members before it. Assumes nothing.
use mathlib.Core.Path.{◌≡◌, refl, sym, ap, ap₂, ◌∙◌, subst}
use mathlib.Core.List.Memᴰ
use mathlib.Core.List.{List, [], ◌∷◌, ◌++◌, append_assoc, append-nil}
use mathlib.Core.Logic.{◌⊎◌, inl, inr}
use Prim.Native.Nat.{ℕ, suc, ◌+◌, ◌*◌, ◌/◌, ◌%◌, ◌≤◌, ◌<◌}
use native.Mathlib.Omega.{arith}
use lib.ListN.{length, get_or, take, drop, length-append, get_or-append}
use lib.Seq.{split_at, get_or-append_seam, length-take-le}
use native.Mathlib.Decide.{dec_le}
use Rattle.ctl.specs.Lists.{◌∈◌}
use Rattle.ctl.specs.Formula.{Form, tru, fls, lit, nlit, and, or, ex, ax, eu, au, er, ar}
use Rattle.ctl.proofs.TableauLaws.{index-place}
use Rattle.ctl.specs.Types.{index_of}
use Rattle.ctl.specs.Sorting.{Unique, none, more}
use Rattle.members.specs.Members.{Canon, Members, arg_w, c-and, c-ar, c-au, c-ax, c-er, c-eu, c-ex, c-fls, c-lit, c-nlit, c-or, c-tru, form_by, form_of, forms, forms_from, left_w, right_w, tag_w, word_of}

-- ---- a word and its parts: the tag, the symbol or the set of modes, and the places of the operands

tag_of : (w t x : ℕ) → w ≡ t + 16 * x → t < 16 → tag_w w ≡ t
tag_of w t x e h = omega arith

over16 : (w t x : ℕ) → w ≡ t + 16 * x → t < 16 → w / 16 ≡ x
over16 w t x e h = omega arith

arg-of : (v a y : ℕ) → v ≡ a + 65536 * y → a < 65536 → v % 65536 ≡ a
arg-of v a y e h = omega arith

over20 : (w u x : ℕ) → w ≡ u + 1048576 * x → u < 1048576 → w / 1048576 ≡ x
over20 w u x e h = omega arith

over28 : (w u x : ℕ) → w ≡ u + 268435456 * x → u < 268435456 → w / 268435456 ≡ x
over28 w u x e h = omega arith

side-of : (v l r : ℕ) → v ≡ l + 256 * r → l < 256 → v % 256 ≡ l
side-of v l r e h = omega arith

module _ (t a l r : ℕ) (ht : t < 16) (ha : a < 65536) (hl : l < 256) (hr : r < 256) where
  pub word-tag : tag_w (word_of t a l r) ≡ t
  word-tag = tag_of (word_of t a l r) t (a + 65536 * (l + 256 * r)) (omega arith) ht

  pub word_arg : arg_w (word_of t a l r) ≡ a
  word_arg = arg-of (word_of t a l r / 16) a (l + 256 * r) (over16 (word_of t a l r) t (a + 65536 * (l + 256 * r)) (omega arith) ht) ha

  pub word-left : left_w (word_of t a l r) ≡ l
  word-left = side-of (word_of t a l r / 1048576) l r (over20 (word_of t a l r) (t + 16 * a) (l + 256 * r) (omega arith) (omega arith)) hl

  pub word-right : right_w (word_of t a l r) ≡ r
  word-right = side-of (word_of t a l r / 268435456) r 0 (over28 (word_of t a l r) (t + 16 * a + 1048576 * l) (r + 256 * 0) (omega arith) (omega arith)) hr

pub form_of-word : (acc : List Form) (t a l r : ℕ) → t < 16 → a < 65536 → l < 256 → r < 256 → form_of acc (word_of t a l r) ≡ form_by t a (get_or acc l tru) (get_or acc r tru)
unfolding form_of
form_of-word acc t a l r ht ha hl hr =
    let w = word_of t a l r in
    let et : tag_w (word_of t a l r) ≡ t = tag_of w t (a + 65536 * (l + 256 * r)) (omega arith) ht in
    let ea : arg_w (word_of t a l r) ≡ a = arg-of (w / 16) a (l + 256 * r) (over16 w t (a + 65536 * (l + 256 * r)) (omega arith) ht) ha in
    let el : left_w (word_of t a l r) ≡ l = side-of (w / 1048576) l r (over20 w (t + 16 * a) (l + 256 * r) (omega arith) (omega arith)) hl in
    let er : right_w (word_of t a l r) ≡ r = side-of (w / 268435456) r 0 (over28 w (t + 16 * a + 1048576 * l) (r + 256 * 0) (omega arith) (omega arith)) hr in
    ap (λ k. form_by k (arg_w (word_of t a l r)) (get_or acc (left_w (word_of t a l r)) tru) (get_or acc (right_w (word_of t a l r)) tru)) et
    ∙ ap (λ k. form_by t k (get_or acc (left_w (word_of t a l r)) tru) (get_or acc (right_w (word_of t a l r)) tru)) ea
    ∙ ap (λ k. form_by t a (get_or acc k tru) (get_or acc (right_w (word_of t a l r)) tru)) el
    ∙ ap (λ k. form_by t a (get_or acc l tru) (get_or acc k tru)) er

-- ---- the table grows at its end

pub forms_from-append : (acc : List Form) (xs ys : List ℕ) → forms_from acc (xs ++ ys) ≡ forms_from (forms_from acc xs) ys
unfolding forms_from
forms_from-append acc [] ys = refl
forms_from-append acc (x ∷ xs) ys = forms_from-append (acc ++ (form_of acc x ∷ [])) xs ys

pub forms-snoc : (ws : List ℕ) (w : ℕ) → forms (ws ++ (w ∷ [])) ≡ forms ws ++ (form_of (forms ws) w ∷ [])
unfolding forms forms_from
forms-snoc ws w = forms_from-append [] ws (w ∷ [])

forms_from-length : (acc : List Form) (xs : List ℕ) → length (forms_from acc xs) ≡ length acc + length xs
unfolding forms_from
forms_from-length acc [] = omega arith
forms_from-length acc (x ∷ xs) = let h = forms_from-length (acc ++ (form_of acc x ∷ [])) xs in omega (arith, length-append acc (form_of acc x ∷ []))

pub forms-length : (ws : List ℕ) → length (forms ws) ≡ length ws
unfolding forms
forms-length ws = let h = forms_from-length [] ws in omega arith

forms_from-front : (acc : List Form) (xs : List ℕ) → (l : List Form) × (forms_from acc xs ≡ acc ++ l)
unfolding forms_from
forms_from-front acc [] = ([], sym (append-nil acc))
forms_from-front acc (x ∷ xs) = let h = forms_from-front (acc ++ (form_of acc x ∷ [])) xs in ((form_of acc x ∷ []) ++ h.0, h.1 ∙ append_assoc acc (form_of acc x ∷ []) h.0)

-- the earlier members stay
pub forms-front : (xs ys : List ℕ) → (l : List Form) × (forms (xs ++ ys) ≡ forms xs ++ l)
unfolding forms
forms-front xs ys = let h = forms_from-front (forms_from [] xs) ys in (h.0, forms_from-append [] xs ys ∙ h.1)

pub forms-keep : (xs ys : List ℕ) (i : ℕ) → i < length xs → get_or (forms (xs ++ ys)) i tru ≡ get_or (forms xs) i tru
forms-keep xs ys i h = let r = forms-front xs ys in ap (λ l. get_or l i tru) r.1 ∙ get_or-append (forms xs) r.0 tru i (omega (arith, forms-length xs))

pub forms-mem : (xs ys : List ℕ) {p : Form} → p ∈ forms xs → p ∈ forms (xs ++ ys)
forms-mem xs ys {p} m = let r = forms-front xs ys in subst (λ l. p ∈ l) (sym r.1) (left_in (forms xs) r.0 m)
  where
    left_in : (k l : List Form) → p ∈ k → p ∈ k ++ l
    left_in k l (Memᴰ.head e) = Memᴰ.head e
    left_in k l (Memᴰ.tail {x = y} {xs = ys} i) = Memᴰ.tail (left_in ys l i)

-- ---- words that stand for a member over n earlier ones, each in one way

pub canon-more : {n m w : ℕ} → n ≤ m → Canon n w → Canon m w
canon-more h c-tru = c-tru
canon-more h c-fls = c-fls
canon-more h (c-lit k) = c-lit k
canon-more h (c-nlit k) = c-nlit k
canon-more h (c-and {l} {r} i j) = c-and {l = l} {r = r} (omega arith) (omega arith)
canon-more h (c-or {l} {r} i j) = c-or {l = l} {r = r} (omega arith) (omega arith)
canon-more h (c-ex {A} {l} a i) = c-ex {A = A} {l = l} a (omega arith)
canon-more h (c-ax {A} {l} a i) = c-ax {A = A} {l = l} a (omega arith)
canon-more h (c-eu {A} {l} {r} a i j) = c-eu {A = A} {l = l} {r = r} a (omega arith) (omega arith)
canon-more h (c-au {A} {l} {r} a i j) = c-au {A = A} {l = l} {r = r} a (omega arith) (omega arith)
canon-more h (c-er {A} {l} {r} a i j) = c-er {A = A} {l = l} {r = r} a (omega arith) (omega arith)
canon-more h (c-ar {A} {l} {r} a i j) = c-ar {A = A} {l = l} {r = r} a (omega arith) (omega arith)

module _ (acc : List Form) (few : length acc ≤ 256) (rest : List Form) where
  word_over : (t a l r : ℕ) → t < 16 → a < 65536 → l < length acc → r < length acc → form_of acc (word_of t a l r) ≡ form_of (acc ++ rest) (word_of t a l r)
  word_over t a l r ht ha hl hr =
      form_of-word acc t a l r ht ha (omega arith) (omega arith)
      ∙ ap₂ (λ p q. form_by t a p q) (sym (get_or-append acc rest tru l hl)) (sym (get_or-append acc rest tru r hr))
      ∙ sym (form_of-word (acc ++ rest) t a l r ht ha (omega arith) (omega arith))

  -- a word's formula is the same over a longer table
  pub canon-over : {w : ℕ} → Canon (length acc) w → form_of acc w ≡ form_of (acc ++ rest) w
  canon-over c-tru = form_of-word acc 0 0 0 0 (omega arith) (omega arith) (omega arith) (omega arith) ∙ sym (form_of-word (acc ++ rest) 0 0 0 0 (omega arith) (omega arith) (omega arith) (omega arith))
  canon-over c-fls = form_of-word acc 1 0 0 0 (omega arith) (omega arith) (omega arith) (omega arith) ∙ sym (form_of-word (acc ++ rest) 1 0 0 0 (omega arith) (omega arith) (omega arith) (omega arith))
  canon-over (c-lit {k} h) = form_of-word acc 2 k 0 0 (omega arith) h (omega arith) (omega arith) ∙ sym (form_of-word (acc ++ rest) 2 k 0 0 (omega arith) h (omega arith) (omega arith))
  canon-over (c-nlit {k} h) = form_of-word acc 3 k 0 0 (omega arith) h (omega arith) (omega arith) ∙ sym (form_of-word (acc ++ rest) 3 k 0 0 (omega arith) h (omega arith) (omega arith))
  canon-over (c-and {l} {r} hl hr) = word_over 4 0 l r (omega arith) (omega arith) hl hr
  canon-over (c-or {l} {r} hl hr) = word_over 5 0 l r (omega arith) (omega arith) hl hr
  canon-over (c-ex {A} {l} a hl) = word_over 6 A l 0 (omega arith) a hl (omega arith)
  canon-over (c-ax {A} {l} a hl) = word_over 7 A l 0 (omega arith) a hl (omega arith)
  canon-over (c-eu {A} {l} {r} a hl hr) = word_over 8 A l r (omega arith) a hl hr
  canon-over (c-au {A} {l} {r} a hl hr) = word_over 9 A l r (omega arith) a hl hr
  canon-over (c-er {A} {l} {r} a hl hr) = word_over 10 A l r (omega arith) a hl hr
  canon-over (c-ar {A} {l} {r} a hl hr) = word_over 11 A l r (omega arith) a hl hr

-- ---- equal formulas have equal words

-- the word of a formula, from the places of its operands
abbrev code_of : (Form → ℕ) → Form → ℕ
code_of i tru = word_of 0 0 0 0
code_of i fls = word_of 1 0 0 0
code_of i (lit k) = word_of 2 k 0 0
code_of i (nlit k) = word_of 3 k 0 0
code_of i (and p q) = word_of 4 0 (i p) (i q)
code_of i (or p q) = word_of 5 0 (i p) (i q)
code_of i (ex A p) = word_of 6 A (i p) 0
code_of i (ax A p) = word_of 7 A (i p) 0
code_of i (eu A p q) = word_of 8 A (i p) (i q)
code_of i (au A p q) = word_of 9 A (i p) (i q)
code_of i (er A p q) = word_of 10 A (i p) (i q)
code_of i (ar A p q) = word_of 11 A (i p) (i q)

module _ (acc : List Form) (few : length acc ≤ 256) (u : Unique acc) where
  place : Form → ℕ
  place p = index_of p acc

  coded : (t a l r : ℕ) → t < 16 → a < 65536 → l < 256 → r < 256 → code_of place (form_of acc (word_of t a l r)) ≡ code_of place (form_by t a (get_or acc l tru) (get_or acc r tru))
  coded t a l r ht ha hl hr = ap (code_of place) (form_of-word acc t a l r ht ha hl hr)

  two : (t a l r : ℕ) → l < length acc → r < length acc → word_of t a (place (get_or acc l tru)) (place (get_or acc r tru)) ≡ word_of t a l r
  unfolding place
  two t a l r hl hr = ap₂ (λ x y. word_of t a x y) (index-place acc u l hl) (index-place acc u r hr)

  one : (t a l : ℕ) → l < length acc → word_of t a (place (get_or acc l tru)) 0 ≡ word_of t a l 0
  unfolding place
  one t a l hl = ap (λ x. word_of t a x 0) (index-place acc u l hl)

  canon-code : {w : ℕ} → Canon (length acc) w → code_of place (form_of acc w) ≡ w
  canon-code c-tru = coded 0 0 0 0 (omega arith) (omega arith) (omega arith) (omega arith)
  canon-code c-fls = coded 1 0 0 0 (omega arith) (omega arith) (omega arith) (omega arith)
  canon-code (c-lit {k} h) = coded 2 k 0 0 (omega arith) h (omega arith) (omega arith)
  canon-code (c-nlit {k} h) = coded 3 k 0 0 (omega arith) h (omega arith) (omega arith)
  canon-code (c-and {l} {r} hl hr) = coded 4 0 l r (omega arith) (omega arith) (omega arith) (omega arith) ∙ two 4 0 l r hl hr
  canon-code (c-or {l} {r} hl hr) = coded 5 0 l r (omega arith) (omega arith) (omega arith) (omega arith) ∙ two 5 0 l r hl hr
  canon-code (c-ex {A} {l} a hl) = coded 6 A l 0 (omega arith) a (omega arith) (omega arith) ∙ one 6 A l hl
  canon-code (c-ax {A} {l} a hl) = coded 7 A l 0 (omega arith) a (omega arith) (omega arith) ∙ one 7 A l hl
  canon-code (c-eu {A} {l} {r} a hl hr) = coded 8 A l r (omega arith) a (omega arith) (omega arith) ∙ two 8 A l r hl hr
  canon-code (c-au {A} {l} {r} a hl hr) = coded 9 A l r (omega arith) a (omega arith) (omega arith) ∙ two 9 A l r hl hr
  canon-code (c-er {A} {l} {r} a hl hr) = coded 10 A l r (omega arith) a (omega arith) (omega arith) ∙ two 10 A l r hl hr
  canon-code (c-ar {A} {l} {r} a hl hr) = coded 11 A l r (omega arith) a (omega arith) (omega arith) ∙ two 11 A l r hl hr

  pub same_word : {v w : ℕ} → Canon (length acc) v → Canon (length acc) w → form_of acc v ≡ form_of acc w → v ≡ w
  same_word cv cw e = sym (canon-code cv) ∙ ap (code_of place) e ∙ canon-code cw

-- ---- a table of members: each word stands for a member over those before it, and no formula stands there twice

split : (xs : List ℕ) (w : ℕ) (ys : List ℕ) → forms (xs ++ (w ∷ ys)) ≡ forms_from (forms xs ++ (form_of (forms xs) w ∷ [])) ys
unfolding forms forms_from
split xs w ys = forms_from-append [] xs (w ∷ ys)

module _ (ws : List ℕ) (ms : Members ws) where
  -- a member is the formula of its word over the whole table
  pub member : (i : ℕ) → i < length ws → get_or (forms ws) i tru ≡ form_of (forms ws) (get_or ws i 0)
  unfolding forms_from
  member i h =
      let w = get_or ws i 0 in
      let acc = forms (take i ws) in
      let n : length acc ≡ i = forms-length (take i ws) ∙ length-take-le i ws (omega arith) in
      let r = forms_from-front (acc ++ (form_of acc w ∷ [])) (drop (suc i) ws) in
      let e : forms ws ≡ acc ++ (form_of acc w ∷ r.0) = ap forms (split_at ws i 0 h) ∙ split (take i ws) w (drop (suc i) ws) ∙ r.1 ∙ append_assoc acc (form_of acc w ∷ []) r.0 in
      ap (λ l. get_or l i tru) e ∙ at acc (form_of acc w) r.0 i n
      ∙ canon-over acc (few-of acc n) (form_of acc w ∷ r.0) (subst (λ k. Canon k w) (sym n) (ms.canon i h))
      ∙ ap (λ l. form_of l w) (sym e)
    where
      few-of : (acc : List Form) → length acc ≡ i → length acc ≤ 256
      few-of acc n = let f = ms.few in omega arith

      at : (a : List Form) (p : Form) (r : List Form) (k : ℕ) → length a ≡ k → get_or (a ++ (p ∷ r)) k tru ≡ p
      at a p r k e = subst (λ k. get_or (a ++ (p ∷ r)) k tru ≡ p) e (get_or-append_seam a p r tru)

  pub index-of : {p : Form} (l : List Form) → p ∈ l → (i : ℕ) × (i < length l) × (p ≡ get_or l i tru)
  index-of l (Memᴰ.head {xs = r} e) = (0, omega arith, e)
  index-of l (Memᴰ.tail {xs = r} m) = let h = index-of r m in (suc h.0, (let k = h.1 in omega arith), h.2)

  module _ (w : ℕ) (c : Canon (length ws) w) where
    -- a word that is not in the table stands for a new formula
    pub new-form : ((k : ℕ) → k < length ws → get_or ws k 0 ≡ w → ⊥) → form_of (forms ws) w ∈ forms ws → ⊥
    new-form f m =
        let r = index-of (forms ws) m in
        let i = r.0 in
        let n = forms-length ws in
        let h : i < length ws = (let k = r.1 in omega arith) in
        f i h (same_word (forms ws) (let k = ms.few in omega arith) ms.unique (canon-more (omega arith) (ms.canon i h)) (subst (λ k. Canon k w) (sym n) c) (sym (member i h) ∙ sym r.2))

pub unique-snoc : (l : List Form) (p : Form) → Unique l → (p ∈ l → ⊥) → Unique (l ++ (p ∷ []))
unique-snoc [] p u f = more (λ m. Memᴰ.not-nil m) none
unique-snoc (q ∷ l) p (more g u) f = more new (unique-snoc l p u (λ m. f (Memᴰ.tail m)))
  where
    new : q ∈ l ++ (p ∷ []) → ⊥
    new m = elim (Memᴰ.append_cases l m) [ inl i ↦ g i | inr i ↦ f (Memᴰ.head (sym (Memᴰ.eq_of_singleton i))) ]

-- the table with a new word
pub members-snoc : (ws : List ℕ) → Members ws → (w : ℕ) → length ws < 256 → Canon (length ws) w → ((k : ℕ) → k < length ws → get_or ws k 0 ≡ w → ⊥) → Members (ws ++ (w ∷ []))
members-snoc ws ms w h c f = record {
  few = omega (arith, length-append ws (w ∷ []));
  canon = λ i k. at i (omega (arith, length-append ws (w ∷ [])));
  unique = subst Unique (sym (forms-snoc ws w)) (unique-snoc (forms ws) (form_of (forms ws) w) ms.unique (new-form ws ms w c f));
}
  where
    at : (i : ℕ) → i ≤ length ws → Canon i (get_or (ws ++ (w ∷ [])) i 0)
    at i k = go (le_split i (length ws) k)
      where
        le_split : (i n : ℕ) → i ≤ n → (i < n) ⊎ (n ≡ i)
        le_split i n k = elim (dec_le n i) [ yes h ↦ inr (omega arith) | no h ↦ inl (omega arith) ]

        go : (i < length ws) ⊎ (length ws ≡ i) → Canon i (get_or (ws ++ (w ∷ [])) i 0)
        go (inl l) = subst (Canon i) (sym (get_or-append ws (w ∷ []) 0 i l)) (ms.canon i l)
        go (inr e) = subst (λ i. Canon i (get_or (ws ++ (w ∷ [])) i 0)) e (subst (Canon (length ws)) (sym (get_or-append_seam ws w [] 0)) c)

-- ---- what a word's parts are

pub record Parts (n w : ℕ) : Type 0 where
  pub tag : tag_w w < 12
  pub left : 4 ≤ tag_w w → left_w w < n
  pub right : 4 ≤ tag_w w → right_w w < n

leaf-parts : {n : ℕ} (t a : ℕ) → t < 4 → a < 65536 → Parts n (word_of t a 0 0)
leaf-parts t a h k = let e = word-tag t a 0 0 (omega arith) k (omega arith) (omega arith) in record { tag = omega arith; left = λ i. absurd (omega arith); right = λ i. absurd (omega arith) }

two-parts : {n : ℕ} (t a l r : ℕ) → n ≤ 256 → t < 12 → a < 65536 → l < n → r < n → Parts n (word_of t a l r)
two-parts {n} t a l r s h k i j = let e = word-tag t a l r (omega arith) k (omega arith) (omega arith) in record {
  tag = omega arith;
  left = λ x. subst (λ y. y < n) (sym (word-left t a l r (omega arith) k (omega arith) (omega arith))) i;
  right = λ x. subst (λ y. y < n) (sym (word-right t a l r (omega arith) k (omega arith) (omega arith))) j;
}

pub canon-parts : {n w : ℕ} → n ≤ 256 → Canon n w → Parts n w
canon-parts s c-tru = leaf-parts 0 0 (omega arith) (omega arith)
canon-parts s c-fls = leaf-parts 1 0 (omega arith) (omega arith)
canon-parts s (c-lit {k} h) = leaf-parts 2 k (omega arith) h
canon-parts s (c-nlit {k} h) = leaf-parts 3 k (omega arith) h
canon-parts s (c-and {l} {r} i j) = two-parts 4 0 l r s (omega arith) (omega arith) i j
canon-parts s (c-or {l} {r} i j) = two-parts 5 0 l r s (omega arith) (omega arith) i j
canon-parts s (c-ex {A} {l} a i) = two-parts 6 A l 0 s (omega arith) a i (omega arith)
canon-parts s (c-ax {A} {l} a i) = two-parts 7 A l 0 s (omega arith) a i (omega arith)
canon-parts s (c-eu {A} {l} {r} a i j) = two-parts 8 A l r s (omega arith) a i j
canon-parts s (c-au {A} {l} {r} a i j) = two-parts 9 A l r s (omega arith) a i j
canon-parts s (c-er {A} {l} {r} a i j) = two-parts 10 A l r s (omega arith) a i j
canon-parts s (c-ar {A} {l} {r} a i j) = two-parts 11 A l r s (omega arith) a i j

-- Steps that add members to a table, one after the other. Assumes nothing.
use mathlib.Core.Path.{◌≡◌, refl, sym, ap, ◌∙◌, subst}
use mathlib.Core.Logic.{inl, inr}
use mathlib.Core.List.Memᴰ
use mathlib.Core.List.{List, [], ◌∷◌, ◌++◌, append_assoc, append-nil}
use Prim.Native.Nat.{ℕ, ◌+◌, ◌-◌, ◌≤◌, ◌<◌}
use native.Mathlib.Omega.{arith}
use native.Mathlib.Numerals.{add-one}
use Rattle.std.proofs.Common.{Bool, true, false, cond, nat_lt, Option, Some, None, ◌==◌, position}
use Rattle.std.specs.List.{position_or_len}
use Rattle.std.proofs.lemmas.Bool.{false≢true}
use Rattle.std.proofs.lemmas.List.Quantifiers.{position-Some}
use Rattle.std.proofs.lemmas.List.Sums.{fails_before_first}
use borrow.Author.Tests.{eq-eqb, eqb-true, ltb-false}
use lib.ListN.{length, get_or, take, drop, set, length-append, length-set}
use lib.Seq.{drop-drop, drop-set-lt, length-take-le, take-suc-set, get_or-append_seam}
use Rattle.ctl.specs.Lists.{◌∈◌}
use Rattle.ctl.specs.Formula.{Form, tru}
use Rattle.ctl.proofs.ListLaws.{get_d-in}
use Rattle.members.specs.Members.{Members, Canon, form_of, forms}
use Rattle.members.specs.Grown.{Ready, Grows, TooMany, Done, Answer, added, full}
use Rattle.members.proofs.MemberLaws.{forms-length, forms-snoc, forms-keep, forms-mem, member, new-form, members-snoc, unique-snoc}
use Rattle.members.specs.declared.Added.{Added}

-- ---- one list of formulas within another

infix 4 ◌⊆◌
abbrev pub ◌⊆◌ : List Form → List Form → Type 0
k ⊆ l = (p : Form) → p ∈ k → p ∈ l

pub sub-nil : {l : List Form} → [] ⊆ l
sub-nil p m = absurd (Memᴰ.not-nil m)

pub sub-cons : {q : Form} {k l : List Form} → q ∈ l → k ⊆ l → (q ∷ k) ⊆ l
sub-cons {q} {k} {l} a f p m = elim (Memᴰ.cases_cons m) [ inl e ↦ Memᴰ.cast e a | inr i ↦ f p i ]

pub sub-one : {q : Form} {l : List Form} → q ∈ l → (q ∷ []) ⊆ l
sub-one a = sub-cons a sub-nil

pub sub-both : {j k l : List Form} → j ⊆ l → k ⊆ l → (j ++ k) ⊆ l
sub-both {j} {k} {l} f g p m = elim (Memᴰ.append_cases j m) [ inl i ↦ f p i | inr i ↦ g p i ]

pub sub-left : (j k : List Form) → j ⊆ (j ++ k)
sub-left j k p m = Memᴰ.append_left k m

pub sub-right : (j k : List Form) → k ⊆ (j ++ k)
sub-right j k p m = Memᴰ.append_right j m

-- ---- what a step gives

pub too-many-more : {k : ℕ} {l l' : List Form} → l ⊆ l' → TooMany k l → TooMany k l'
too-many-more f o = record { list = o.list; unique = o.unique; long = o.long; inside = λ p m. f p (o.inside p m) }

pub grows_none : {ws : List ℕ} → Members ws → Grows ws ws []
grows_none {ws} ms = record { members = ms; rest = []; front = sym (append-nil ws); has = sub-nil; only = sub-left (forms ws) [] }

pub grows_same : {ws ws' : List ℕ} {l l' : List Form} → l ⊆ l' → l' ⊆ l → Grows ws ws' l → Grows ws ws' l'
grows_same {ws} {ws'} {l} {l'} f g s = record {
  members = s.members;
  rest = s.rest;
  front = s.front;
  has = λ p m. s.has p (g p m);
  only = λ p m. sub-both (sub-left (forms ws) l') (λ q i. Memᴰ.append_right (forms ws) (f q i)) p (s.only p m);
}

-- what stood in the table stays
pub grows-keep : {ws ws' : List ℕ} {l : List Form} → Grows ws ws' l → forms ws ⊆ forms ws'
grows-keep {ws} {ws'} s p m = subst (λ v. p ∈ forms v) (sym s.front) (forms-mem ws s.rest m)

pub grows_at : {ws ws' : List ℕ} {l : List Form} → Grows ws ws' l → (i : ℕ) → i < length ws → get_or (forms ws') i tru ≡ get_or (forms ws) i tru
grows_at {ws} s i h = ap (λ v. get_or (forms v) i tru) s.front ∙ forms-keep ws s.rest i h

pub grows_then : {ws ws' ws'' : List ℕ} {l l' : List Form} → Grows ws ws' l → Grows ws' ws'' l' → Grows ws ws'' (l ++ l')
grows_then {ws} {ws'} {ws''} {l} {l'} s t = record {
  members = t.members;
  rest = s.rest ++ t.rest;
  front = t.front ∙ ap (λ v. v ++ t.rest) s.front ∙ append_assoc ws s.rest t.rest;
  has = sub-both (λ p m. grows-keep t p (s.has p m)) t.has;
  only = λ p m. sub-both (λ q i. sub-both (sub-left (forms ws) (l ++ l')) (λ r j. Memᴰ.append_right (forms ws) (Memᴰ.append_left l' j)) q (s.only q i)) (λ q i. Memᴰ.append_right (forms ws) (Memᴰ.append_right l i)) p (t.only p m);
}

pub too-many-then : {ws ws' : List ℕ} {k : ℕ} {l : List Form} (l' : List Form) → Grows ws ws' l → TooMany k (forms ws' ++ l') → TooMany k (forms ws ++ (l ++ l'))
too-many-then {ws} {ws'} {k} {l} l' s o =
    too-many-more (sub-both (λ q i. sub-both (sub-left (forms ws) (l ++ l')) (λ r j. Memᴰ.append_right (forms ws) (Memᴰ.append_left l' j)) q (s.only q i)) (λ q i. Memᴰ.append_right (forms ws) (Memᴰ.append_right l i))) o

-- ---- one word

position-None : (p : ℕ → Bool) (xs : List ℕ) → position p xs ≡ None → length xs ≤ position_or_len p xs
position-None p xs e = go (nat_lt (position_or_len p xs) (length xs)) refl e
  where
    go : (b : Bool) → nat_lt (position_or_len p xs) (length xs) ≡ b → cond b (Some (position_or_len p xs)) None ≡ None → length xs ≤ position_or_len p xs
    go true h e = let z : ◌≡◌ {A = ℕ} 0 1 = cc in absurd (omega arith)
    go false h e = ltb-false _ _ h

module _ (tab : List ℕ) (n : ℕ) (r : Ready tab n) (w : ℕ) (c : Canon n w) where
  ws : List ℕ
  ws = take n tab

  size : length ws ≡ n
  unfolding ws
  size = length-take-le n tab r.room

  canon : Canon (length ws) w
  canon = subst (λ k. Canon k w) (sym size) c

  -- the search for the word in the table finds it
  pub word-found : {i : ℕ} → position (λ x. x == w) (take n tab) ≡ Some i → Answer tab n tab (form_of (forms (take n tab)) w ∷ []) (form_of (forms (take n tab)) w) (Some (record { index = i; count = n }))
  unfolding ws
  word-found {i} e = added {i = i} {m = n} record {
    up = omega arith;
    room = r.room;
    grows = record {
      members = r.members;
      rest = [];
      front = sym (append-nil ws);
      has = sub-one (subst (λ p. p ∈ forms ws) is-it (get_d-in tru (forms ws) i (omega (arith, forms-length ws, found.0))));
      only = sub-left (forms ws) (form_of (forms ws) w ∷ []);
    };
    below = omega (arith, size, found.0);
    is = is-it;
    behind = refl;
  }
    where
      found : (i < length ws) × ((get_or ws i 0 == w) ≡ true) × ((k : ℕ) → k < i → (get_or ws k 0 == w) ≡ false)
      found = position-Some (λ x. x == w) ws i 0 e

      is-it : get_or (forms ws) i tru ≡ form_of (forms ws) w
      is-it = member ws r.members i found.0 ∙ ap (form_of (forms ws)) (eqb-true _ _ found.1)

  -- it does not find it
  module _ (none : position (λ x. x == w) (take n tab) ≡ None) where
    absent : (k : ℕ) → k < length ws → get_or ws k 0 ≡ w → ⊥
    unfolding ws
    absent k h e = false≢true (sym (fails_before_first (λ x. x == w) ws k 0 (let n = position-None (λ x. x == w) ws none in omega arith)) ∙ eq-eqb _ _ e)

    pub word-new : n < length tab → Answer tab n (set tab n w) (form_of (forms (take n tab)) w ∷ []) (form_of (forms (take n tab)) w) (Some (record { index = n; count = n + 1 }))
    unfolding ws
    word-new h = added {i = n} {m = n + 1} record {
      up = omega arith;
      room = omega (arith, length-set tab n w);
      grows = record {
        members = subst Members (sym to) (members-snoc ws r.members w (let s = r.small in omega (arith, size)) canon absent);
        rest = w ∷ [];
        front = to;
        has = sub-one (subst (λ l. form_of (forms ws) w ∈ l) (sym all) (Memᴰ.append_right (forms ws) (Memᴰ.head refl)));
        only = λ p m. subst (λ l. p ∈ l) all m;
      };
      below = omega arith;
      is = ap (λ l. get_or l n tru) all ∙ subst (λ k. get_or (forms ws ++ (form_of (forms ws) w ∷ [])) k tru ≡ form_of (forms ws) w) (forms-length ws ∙ size) (get_or-append_seam (forms ws) (form_of (forms ws) w) [] tru);
      behind = drop-set-lt (n + 1) tab n w (omega arith);
    }
      where
        to : take (n + 1) (set tab n w) ≡ ws ++ (w ∷ [])
        to = rw (add-one n) (take-suc-set tab n w h)

        all : forms (take (n + 1) (set tab n w)) ≡ forms ws ++ (form_of (forms ws) w ∷ [])
        all = ap forms to ∙ forms-snoc ws w

    pub word-full : (tab' : List ℕ) → length tab ≤ n → Answer tab n tab' (form_of (forms (take n tab)) w ∷ []) (form_of (forms (take n tab)) w) None
    unfolding ws
    word-full tab' h = full record {
      list = forms ws ++ (form_of (forms ws) w ∷ []);
      unique = unique-snoc (forms ws) (form_of (forms ws) w) r.members.unique (new-form ws r.members w canon absent);
      long = omega (arith, length-append (forms ws) (form_of (forms ws) w ∷ []), forms-length ws, size);
      inside = λ p m. m;
    }

-- the answer for a formula that is the same
pub answer-is : {tab : List ℕ} {n : ℕ} {tab' : List ℕ} {f g : Form} {r : Option Added} → f ≡ g → Answer tab n tab' (f ∷ []) f r → Answer tab n tab' (g ∷ []) g r
answer-is {tab} {n} {tab'} {f} {g} {r} e a = subst (λ x. Answer tab n tab' (x ∷ []) x r) e a

module _ {tab : List ℕ} {n : ℕ} {tab' : List ℕ} {l : List Form} {f : Form} where
  pub was-added : {r : Option Added} {a : Added} → Answer tab n tab' l f r → r ≡ Some a → Done tab n tab' l f a.index a.count
  was-added {a = a} (added {i = j} {m = k} d) e =
      let ei : j ≡ a.index = cc in
      let em : k ≡ a.count = cc in
      subst (λ x. Done tab n tab' l f x a.count) ei (subst (λ y. Done tab n tab' l f j y) em d)
  was-added (full o) e = let z : ◌≡◌ {A = ℕ} 0 1 = cc in absurd (omega arith)

  pub was-full : {r : Option Added} → Answer tab n tab' l f r → r ≡ None → TooMany (length tab) (forms (take n tab) ++ l)
  was-full (added d) e = let z : ◌≡◌ {A = ℕ} 0 1 = cc in absurd (omega arith)
  was-full (full o) e = o

-- ---- one step after another

-- what stands behind a later place is as it was
pub drop-later : (a b : List ℕ) (m k : ℕ) → m ≤ k → drop m a ≡ drop m b → drop k a ≡ drop k b
drop-later a b m k h e = let i : m + (k - m) ≡ k = omega arith in ap (λ j. drop j a) (sym i) ∙ sym (drop-drop (k - m) m a) ∙ ap (drop (k - m)) e ∙ drop-drop (k - m) m b ∙ ap (λ j. drop j b) i

take-size : (tab : List ℕ) (n : ℕ) → n ≤ length tab → length (take n tab) ≡ n
take-size tab n h = length-take-le n tab h

module _ {tab : List ℕ} {n : ℕ} {tab' : List ℕ} {l : List Form} {f : Form} {i m : ℕ} (r : Ready tab n) (d : Done tab n tab' l f i m) (same : length tab' ≡ length tab) where
  pub ready-then : Ready tab' m
  ready-then = record { room = d.room; small = (let s = r.small in omega arith); members = d.grows.members }

  -- an earlier member stays at its place
  pub done_at : (k : ℕ) → k < n → get_or (forms (take m tab')) k tru ≡ get_or (forms (take n tab)) k tru
  done_at k h = grows_at d.grows k (rw (take-size tab n r.room) h)

  -- the next step, whose formula counts
  pub done-then : {tab'' : List ℕ} {l' : List Form} {f' : Form} {j k : ℕ} → Done tab' m tab'' l' f' j k → Done tab n tab'' (l ++ l') f' j k
  done-then {tab''} {k = k} e = record {
    up = (let a = d.up in let b = e.up in omega arith);
    room = e.room;
    grows = grows_then d.grows e.grows;
    below = e.below;
    is = e.is;
    behind = e.behind ∙ drop-later tab' tab m k e.up d.behind;
  }

  -- the next step, where the formula of the step before counts
  pub done-still : {tab'' : List ℕ} {l' : List Form} {f' : Form} {j k : ℕ} → Done tab' m tab'' l' f' j k → Done tab n tab'' (l ++ l') f i k
  done-still {tab''} {l'} {f'} {j} {k} e = record {
    up = (let a = d.up in let b = e.up in omega arith);
    room = e.room;
    grows = grows_then d.grows e.grows;
    below = (let a = d.below in let b = e.up in omega arith);
    is = grows_at e.grows i (rw (take-size tab' m d.room) d.below) ∙ d.is;
    behind = e.behind ∙ drop-later tab' tab m k e.up d.behind;
  }

  pub full-then : (l' : List Form) → TooMany (length tab') (forms (take m tab') ++ l') → TooMany (length tab) (forms (take n tab) ++ (l ++ l'))
  full-then l' o = subst (λ k. TooMany k (forms (take n tab) ++ (l ++ l'))) same (too-many-then l' d.grows o)

  pub answer-then : {tab'' : List ℕ} {l' : List Form} {f' : Form} {a : Option Added} → Answer tab' m tab'' l' f' a → Answer tab n tab'' (l ++ l') f' a
  answer-then {tab''} {l'} {f'} (added {i = j} {m = k} e) = added (done-then e)
  answer-then {tab''} {l'} {f'} (full o) = full (subst (λ k. TooMany k (forms (take n tab) ++ (l ++ l'))) same (too-many-then l' d.grows o))

-- the formulas that were added, in another order
pub done-same : {tab : List ℕ} {n : ℕ} {tab' : List ℕ} {l l' : List Form} {f : Form} {i m : ℕ} → l ⊆ l' → l' ⊆ l → Done tab n tab' l f i m → Done tab n tab' l' f i m
done-same g h d = record { up = d.up; room = d.room; grows = grows_same g h d.grows; below = d.below; is = d.is; behind = d.behind }

pub answer-same : {tab : List ℕ} {n : ℕ} {tab' : List ℕ} {l l' : List Form} {f : Form} {a : Option Added} → l ⊆ l' → l' ⊆ l → Answer tab n tab' l f a → Answer tab n tab' l' f a
answer-same g h (added d) = added (done-same g h d)
answer-same {tab = tab} {n = n} {l = l} {l' = l'} g h (full o) = full (too-many-more (sub-both (sub-left (forms (take n tab)) l') (λ p m. Memᴰ.append_right (forms (take n tab)) (g p m))) o)

-- there is no room for some of the formulas
pub full-more : {tab : List ℕ} {n : ℕ} {tab' : List ℕ} {l : List Form} {f : Form} (l' : List Form) → l' ⊆ l → TooMany (length tab) (forms (take n tab) ++ l') → Answer tab n tab' l f None
full-more {tab = tab} {n = n} {l = l} l' g o = full (too-many-more (sub-both (sub-left (forms (take n tab)) l) (λ p m. Memᴰ.append_right (forms (take n tab)) (g p m))) o)

pub sub-eq : {k l : List Form} → k ≡ l → k ⊆ l
sub-eq e p m = subst (λ x. p ∈ x) e m

-- ---- a step that finds no room, and one that ends with the formula of the step before

pub first-full : {tab : List ℕ} {n : ℕ} {tab₁ tab' : List ℕ} {l₁ l : List Form} {f g : Form} {a : Option Added} → l₁ ⊆ l → Answer tab n tab₁ l₁ f a → a ≡ None → Answer tab n tab' l g None
first-full {l₁ = l₁} h w e = full-more l₁ h (was-full w e)

module _ {tab : List ℕ} {n : ℕ} {tab₁ : List ℕ} {l₁ : List Form} {f₁ : Form} {i₁ n₁ : ℕ} (r : Ready tab n) (d : Done tab n tab₁ l₁ f₁ i₁ n₁) (same : length tab₁ ≡ length tab) where
  pub rest-full : {tab₂ tab' : List ℕ} {l₂ l : List Form} {f₂ g : Form} {a : Option Added} → (l₁ ++ l₂) ⊆ l → Answer tab₁ n₁ tab₂ l₂ f₂ a → a ≡ None → Answer tab n tab' l g None
  rest-full {l₂ = l₂} h w e = full-more (l₁ ++ l₂) h (full-then r d same l₂ (was-full w e))

  pub rest-still : {tab₂ : List ℕ} {l₂ l : List Form} {f₂ : Form} {a : Option Added} {s : Added} → (l₁ ++ l₂) ⊆ l → l ⊆ (l₁ ++ l₂) → Answer tab₁ n₁ tab₂ l₂ f₂ a → a ≡ Some s → Answer tab n tab₂ l f₁ (Some (record { index = i₁; count = s.count }))
  rest-still h k w e = added (done-same h k (done-still r d same (was-added w e)))

-- ---- what a step asks of the table that the one before left

pub record Then (tab : List ℕ) (n i m : ℕ) : Type 0 where
  pub up : n ≤ m
  pub below : i < m
  pub ready : Ready tab m

pub step_then : {tab : List ℕ} {n : ℕ} {tab₁ : List ℕ} {l : List Form} {f : Form} {a : Option Added} {s : Added} → Ready tab n → Answer tab n tab₁ l f a → a ≡ Some s → length tab₁ ≡ length tab → Then tab₁ n s.index s.count
step_then r w e k = let d = was-added w e in record { up = d.up; below = d.below; ready = ready-then r d k }

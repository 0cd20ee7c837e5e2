-- The table of the closure of some formulas: the steps to it, and that closing answers exactly. Assumes nothing.
use mathlib.Core.Path.{◌≡◌, refl, sym, ap, ◌∙◌, subst}
use mathlib.Core.Logic.{◌⊎◌, inl, inr, ◌↔◌}
use mathlib.Core.Bool.{true}
use mathlib.Core.List.Memᴰ
use mathlib.Core.List.{List, [], ◌∷◌, ◌++◌, map, append-nil, append_assoc}
use Prim.Native.Nat.{ℕ, zero, suc, ◌+◌, ◌≤◌, ◌<◌}
use native.Mathlib.Omega.{arith}
use native.Mathlib.Numerals.{add-one}
use native.Mathlib.Decide.{dec_le}
use lib.ListN.{length, get_or, take, drop, set, length-map, length-set}
use lib.Seq.{drop-set-lt, take-suc, take-length, get_or-set_same, get_or-set_other, length-take-le}
use Rattle.ctl.specs.Lists.{◌∈◌}
use Rattle.ctl.specs.Formula.{Form, tru}
use Rattle.ctl.specs.Raw.{Raw}
use Rattle.ctl.specs.Positive.{signed, positive}
use Rattle.ctl.specs.Sorting.{none}
use Rattle.ctl.specs.Closure.{closure, closure_all, closure_of}
use Rattle.ctl.proofs.ClosureLaws.{closure-unique, dedupe-in, dedupe-out}
use Rattle.ctl.proofs.SortLaws.{unique-length}
use Rattle.members.specs.Members.{Members, forms, forms_from}
use Rattle.members.specs.Grown.{Ready, Tabled, Grows, Done, Answer}
use Rattle.closure.specs.Closed.{ClosedIs, Closes, Placed, beyond, within}
use Rattle.closure.specs.Given.{Reads, Adds, Given}
use Rattle.members.proofs.MemberLaws.{forms-length}
use Rattle.members.proofs.StepLaws.{◌⊆◌, grows_none, grows_then, grows_at, too-many-then, drop-later, was-added, was-full}
use Rattle.members.specs.declared.Added.{Added}
use Rattle.std.proofs.Common.{Option, Some, None}

-- ---- the closure of a longer list

all_append : (k l : List Form) → closure_all (k ++ l) ≡ closure_all k ++ closure_all l
unfolding closure_all
all_append [] l = refl
all_append (p ∷ k) l = ap (λ x. closure_of p ++ x) (all_append k l) ∙ sym (append_assoc (closure_of p) (closure_all k) (closure_all l))

all_one : (p : Form) → closure_all (p ∷ []) ≡ closure_of p
unfolding closure_all
all_one p = append-nil (closure_of p)

closure-out : (l : List Form) → closure l ⊆ closure_all l
unfolding closure
closure-out l p m = dedupe-out (closure_all l) m

closure-in : (l : List Form) → closure_all l ⊆ closure l
unfolding closure
closure-in l p m = dedupe-in (closure_all l) m

-- ---- the loop

pub record Sofar (fs : List Form) (tab₀ places₀ tab places : List ℕ) (n k : ℕ) : Type 0 where
  pub most : k ≤ length fs
  pub ready : Ready tab n
  pub grows : Grows [] (take n tab) (closure_all (take k fs))
  pub below : (j : ℕ) → j < k → get_or places j 0 < n
  pub at : (j : ℕ) → j < k → get_or (forms (take n tab)) (get_or places j 0) tru ≡ get_or fs j tru
  pub same : length tab ≡ length tab₀
  pub same-places : length places ≡ length places₀
  pub behind : drop n tab ≡ drop n tab₀
  pub behind_places : drop k places ≡ drop k places₀

module _ (fs : List Form) (tab₀ places₀ : List ℕ) where
  first : length tab₀ ≤ 256 → Sofar fs tab₀ places₀ tab₀ places₀ 0 0
  unfolding forms forms_from closure_all
  first small = record {
    most = omega arith;
    ready = record { room = omega arith; small = small; members = empty };
    grows = grows_none empty;
    below = λ j h. absurd (omega arith);
    at = λ j h. absurd (omega arith);
    same = refl;
    same-places = refl;
    behind = refl;
    behind_places = refl;
  }
    where
      empty : Members []
      empty = record { few = omega arith; canon = λ i h. absurd (omega arith); unique = none }

  module _ (tab places : List ℕ) (n k : ℕ) (s : Sofar fs tab₀ places₀ tab places n k) (h : k < length fs) (f : Form) (f-is : get_or fs k tru ≡ f) where
    next-all : closure_all (take (suc k) fs) ≡ closure_all (take k fs) ++ closure_of f
    next-all = ap closure_all (take-suc fs k tru h) ∙ all_append (take k fs) (get_or fs k tru ∷ []) ∙ ap (λ x. closure_all (take k fs) ++ x) (all_one (get_or fs k tru) ∙ ap closure_of f-is)

    all-within : closure_all (take (suc k) fs) ⊆ closure_all fs
    all-within p m = subst (λ l. p ∈ closure_all l) (split-take (suc k) fs) (subst (λ l. p ∈ l) (sym (all_append (take (suc k) fs) (rest (suc k) fs))) (Memᴰ.append_left (closure_all (rest (suc k) fs)) m))
      where
        rest : ℕ → List Form → List Form
        rest zero l = l
        rest (suc k) [] = []
        rest (suc k) (x ∷ l) = rest k l

        split-take : (k : ℕ) (l : List Form) → take k l ++ rest k l ≡ l
        split-take zero l = refl
        split-take (suc k) [] = refl
        split-take (suc k) (x ∷ l) = ap (λ r. x ∷ r) (split-take k l)

    too_many : {tab' : List ℕ} {a : Option Added} → Answer tab n tab' (closure_of f) f a → a ≡ None → length tab₀ < length (closure fs)
    unfolding forms forms_from
    too_many w e =
        let o = too-many-then (closure_of f) s.grows (was-full w e) in
        let h = unique-length o.list (closure fs) o.unique (λ p m. closure-in fs p (all-within p (subst (λ l. p ∈ l) (sym next-all) (o.inside p m)))) in
        let l = o.long in let e = s.same in omega arith

    next : {tab' : List ℕ} {a : Option Added} {x : Added} → Answer tab n tab' (closure_of f) f a → a ≡ Some x → length tab' ≡ length tab → k < length places → Sofar fs tab₀ places₀ tab' (set places k x.index) x.count (k + 1)
    next {tab'} {a} {x} w e same room =
        let i = x.index in
        let m = x.count in
        let d = was-added w e in
        let r = s.ready in record {
          most = omega arith;
          ready = record { room = d.room; small = (let q = r.small in omega arith); members = d.grows.members };
          grows = rw (add-one k) (subst (λ l. Grows [] (take m tab') l) (sym next-all) (grows_then s.grows d.grows));
          below = λ j l. below j l d (later j l);
          at = λ j l. place j l d (later j l);
          same = same ∙ s.same;
          same-places = length-set places k i ∙ s.same-places;
          behind = d.behind ∙ drop-later tab tab₀ n m d.up s.behind;
          behind_places = drop-set-lt (k + 1) places k i (omega arith) ∙ drop-later places places₀ k (k + 1) (omega arith) s.behind_places;
        }
      where
        later : (j : ℕ) → j < k + 1 → (j < k) ⊎ (j ≡ k)
        later j l = elim (dec_le k j) [ yes g ↦ inr (omega arith) | no g ↦ inl (omega arith) ]

        D : Type 0
        D = Done tab n tab' (closure_of f) f x.index x.count

        here : (j : ℕ) → j ≡ k → get_or (set places k x.index) j 0 ≡ x.index
        here j e = subst (λ j. get_or (set places k x.index) j 0 ≡ x.index) (sym e) (get_or-set_same places k x.index 0 room)

        there : (j : ℕ) → j < k → get_or (set places k x.index) j 0 ≡ get_or places j 0
        there j l = get_or-set_other places k j x.index 0 (λ e. omega arith)

        below : (j : ℕ) → j < k + 1 → D → (j < k) ⊎ (j ≡ k) → get_or (set places k x.index) j 0 < x.count
        below j l d (inl g) = let u = d.up in let v = s.below j g in omega (arith, there j g)
        below j l d (inr e) = let u = d.below in omega (arith, here j e)

        place : (j : ℕ) → j < k + 1 → D → (j < k) ⊎ (j ≡ k) → get_or (forms (take x.count tab')) (get_or (set places k x.index) j 0) tru ≡ get_or fs j tru
        place j l d (inl g) = ap (λ y. get_or (forms (take x.count tab')) y tru) (there j g) ∙ grows_at d.grows (get_or places j 0) (let v = s.below j g in omega (arith, length-take-le n tab s.ready.room)) ∙ s.at j g
        place j l d (inr e) = ap (λ y. get_or (forms (take x.count tab')) y tru) (here j e) ∙ d.is ∙ sym (ap (λ x. get_or fs x tru) e ∙ f-is)

  last : {tab places : List ℕ} {n k : ℕ} → Sofar fs tab₀ places₀ tab places n k → length fs ≤ k → ClosedIs fs tab₀ tab places₀ places (Some n)
  unfolding forms forms_from
  last {tab} {places} {n} {k} s h = within {m = n}
      (record {
        room = s.ready.room;
        members = s.ready.members;
        unique = closure-unique fs;
        has = into;
        only = out;
        count = let a = unique-length (forms (take n tab)) (closure fs) s.ready.members.unique out in
            let b = unique-length (closure fs) (forms (take n tab)) (closure-unique fs) into in
            omega (arith, forms-length (take n tab), length-take-le n tab s.ready.room);
      })
      (record { below = λ j l. s.below j (omega arith); at = λ j l. s.at j (omega arith) })
      s.same
      s.behind
      (let m = s.most in let e : length fs ≡ k = omega arith in subst (λ j. drop j places ≡ drop j places₀) (sym e) s.behind_places)
    where
      all : take k fs ≡ fs
      all = let m = s.most in let e : k ≡ length fs = omega arith in ap (λ x. take x fs) e ∙ take-length fs

      into : closure fs ⊆ forms (take n tab)
      into p m = s.grows.has p (subst (λ l. p ∈ closure_all l) (sym all) (closure-out fs p m))

      out : forms (take n tab) ⊆ closure fs
      out p m = closure-in fs p (subst (λ l. p ∈ closure_all l) all (s.grows.only p m))

-- ---- the same for whichever formulas stand at the roots

pub forms-at : (ps : List Raw) (j : ℕ) → j < length ps → get_or (map positive ps) j tru ≡ signed true (get_or ps j Raw.zero)
forms-at [] j h = absurd (omega arith)
forms-at (p ∷ ps) zero h = refl
forms-at (p ∷ ps) (suc j) h = forms-at ps j (omega arith)

raw-in : (ps : List Raw) (j : ℕ) → j < length ps → get_or ps j Raw.zero ∈ ps
raw-in [] j h = absurd (omega arith)
raw-in (p ∷ ps) zero h = Memᴰ.head refl
raw-in (p ∷ ps) (suc j) h = Memᴰ.tail (raw-in ps j (omega arith))

-- what the loop keeps
pub record Closing (ns roots tab₀ places₀ tab places : List ℕ) (n k : ℕ) : Type 0 where
  pub each : (ps : List Raw) → Given ns roots ps → Sofar (map positive ps) tab₀ places₀ tab places n k

module _ (ns roots tab₀ places₀ : List ℕ) (c : Closes ns roots tab₀ places₀) where
  many : (ps : List Raw) → Given ns roots ps → length (map positive ps) ≡ length roots
  many ps g = length-map ps positive ∙ g.many

  pub loop-first : Closing ns roots tab₀ places₀ tab₀ places₀ 0 0
  loop-first = record { each = λ ps g. first (map positive ps) tab₀ places₀ c.small }

  module _ {tab places : List ℕ} {n k : ℕ} (s : Closing ns roots tab₀ places₀ tab places n k) where
    own : Sofar (map positive c.formulas) tab₀ places₀ tab places n k
    own = s.each c.formulas c.given

    pub loop-ready : Ready tab n
    loop-ready = own.ready

    pub loop-same : length tab ≡ length tab₀
    loop-same = own.same

    pub loop-same-places : length places ≡ length places₀
    loop-same-places = own.same-places

    pub loop-last : length roots ≤ k → (ps : List Raw) → Given ns roots ps → ClosedIs (map positive ps) tab₀ tab places₀ places (Some n)
    loop-last h ps g = last (map positive ps) tab₀ places₀ (s.each ps g) (let e = many ps g in omega arith)

    module _ (h : k < length roots) where
      pub loop-room : k < length places
      loop-room = let a = c.room in let e = loop-same-places in omega arith

      pub loop-reads : Reads ns (get_or roots k 0)
      loop-reads = let e = c.given.many in record { inside = c.roots-in k h; few = c.few; formula = get_or c.formulas k Raw.zero; at = c.given.at k h; fits = c.fits (get_or c.formulas k Raw.zero) (raw-in c.formulas k (omega arith)) }

      module _ {tab' : List ℕ} {a : Option Added} (w : Adds ns (get_or roots k 0) true tab n tab' a) (same : length tab' ≡ length tab) where
        module _ (ps : List Raw) (g : Given ns roots ps) where
          is : get_or (map positive ps) k tru ≡ signed true (get_or ps k Raw.zero)
          is = forms-at ps k (let e = g.many in omega arith)

          inside : k < length (map positive ps)
          inside = let e = many ps g in omega arith

        pub loop-beyond : a ≡ None → (ps : List Raw) → Given ns roots ps → ClosedIs (map positive ps) tab₀ tab' places₀ places None
        loop-beyond e ps g = beyond (too_many (map positive ps) tab₀ places₀ tab places n k (s.each ps g) (inside ps g) (signed true (get_or ps k Raw.zero)) (is ps g) (w (get_or ps k Raw.zero) (g.at k h)) e) (same ∙ loop-same) loop-same-places

        pub loop-next : {x : Added} → a ≡ Some x → Closing ns roots tab₀ places₀ tab' (set places k x.index) x.count (k + 1)
        loop-next e = record { each = λ ps g. next (map positive ps) tab₀ places₀ tab places n k (s.each ps g) (inside ps g) (signed true (get_or ps k Raw.zero)) (is ps g) (w (get_or ps k Raw.zero) (g.at k h)) e same loop-room }

-- ---- an answer, exactly

module _ {fs : List Form} {tab tab' places places' : List ℕ} where
  -- how many members the closure has
  pub was-within : {r : Option ℕ} {m : ℕ} → ClosedIs fs tab tab' places places' r → r ≡ Some m → Tabled (closure fs) tab' m × Placed fs tab' places' m
  was-within {m = m} (within {m = k} s p e b c) i = let q : k ≡ m = cc in subst (λ x. Tabled (closure fs) tab' x × Placed fs tab' places' x) q (s, p)
  was-within (beyond l e f) i = let z : ◌≡◌ {A = ℕ} 0 1 = cc in absurd (omega arith)

  -- it says the number of members exactly if there is room for them
  pub within-exactly : {r : Option ℕ} → ClosedIs fs tab tab' places places' r → (r ≡ Some (length (closure fs))) ↔ (length (closure fs) ≤ length tab)
  within-exactly (within {m = m} s p e b c) = (λ i. (let a = s.room in let d = s.count in omega arith), λ h. ap Some s.count)
  within-exactly (beyond l e f) = (λ i. (let z : ◌≡◌ {A = ℕ} 0 1 = cc in absurd (omega arith)), λ h. absurd (omega arith))

  -- and that they are beyond exactly if there is none
  pub beyond-exactly : {r : Option ℕ} → ClosedIs fs tab tab' places places' r → (r ≡ None) ↔ (length tab < length (closure fs))
  beyond-exactly (within {m = m} s p e b c) = (λ i. (let z : ◌≡◌ {A = ℕ} 0 1 = cc in absurd (omega arith)), λ h. absurd (let a = s.room in let d = s.count in omega arith))
  beyond-exactly (beyond l e f) = (λ i. l, λ h. refl)

-- A table of members with values put behind it: one step, one after the other, and what they make of the formulas that stand there. Assumes nothing.
use mathlib.Core.Path.{◌≡◌, refl, sym, ap, ◌∙◌, subst}
use mathlib.Core.Logic.{inl, inr}
use mathlib.Core.Bool.{Bool, true, false}
use mathlib.Core.List.Memᴰ
use mathlib.Core.List.{List, [], ◌∷◌, ◌++◌, map, map-append}
use Prim.Native.Nat.{ℕ, ◌+◌, ◌≤◌, ◌<◌}
use native.Mathlib.Omega.{arith}
use lib.Dec.{eqb}
use lib.ListN.{length, take, length-append, length-map}
use lib.Seq.{length-take-le}
use borrow.Author.Tests.{eq-eqb, ne_eqb}
use Rattle.ctl.specs.Lists.{◌∈◌, put, keep, below}
use Rattle.ctl.specs.Formula.{Form, lit}
use Rattle.ctl.specs.Lean.{with_values}
use Rattle.ctl.proofs.ListLaws.{keep-next, kept-few, map-in, map-out}
use Rattle.ctl.proofs.SortLaws.{unique-length}
use Rattle.ctl.proofs.LeanOrder.{with_in, with_value, with_out, with-unique}
use Rattle.members.specs.Members.{forms}
use Rattle.members.specs.Grown.{Ready, Tabled, Grows, Answer}
use Rattle.members.specs.declared.Added.{Added}
use Rattle.std.proofs.Common.{Option, Some, None}
use Rattle.members.proofs.MemberLaws.{forms-length}
use Rattle.members.proofs.StepLaws.{◌⊆◌, grows_none, grows-keep, grows_then, drop-later, was-added, was-full}
use Rattle.values.specs.Values.{is_value, Extended}

forms-many : (tab : List ℕ) (n : ℕ) → n ≤ length tab → length (forms (take n tab)) ≡ n
forms-many tab n h = forms-length (take n tab) ∙ length-take-le n tab h

module _ {tab : List ℕ} {n : ℕ} (r : Ready tab n) where
  pub extended_none : Extended [] tab n tab n
  extended_none = record { up = omega arith; few = omega arith; room = r.room; grows = grows_none r.members; behind = refl }

  -- no more members than stood there and were put
  grown-few : (tab' : List ℕ) (m : ℕ) {l : List Form} → m ≤ length tab' → Grows (take n tab) (take m tab') l → m ≤ n + length l
  grown-few tab' m {l} h g =
      let u = unique-length (forms (take m tab')) (forms (take n tab) ++ l) g.members.unique g.only in
      omega (arith, forms-many tab' m h, length-append (forms (take n tab)) l, forms-many tab n r.room)

  module _ {k : ℕ} {tab' : List ℕ} {a : Option Added} (w : Answer tab n tab' (lit k ∷ []) (lit k) a) where
    one-added : {x : Added} → a ≡ Some x → Extended (lit k ∷ []) tab n tab' x.count
    one-added {x} e = let d = was-added w e in record { up = d.up; few = grown-few tab' x.count d.room d.grows; room = d.room; grows = d.grows; behind = d.behind }

    -- there is room for one more
    one-room : n < length tab → a ≡ None → ⊥
    one-room h e =
        let o = was-full w e in
        let u = unique-length o.list (forms (take n tab) ++ (lit k ∷ [])) o.unique o.inside in
        let l = o.long in
        omega (arith, length-append (forms (take n tab)) (lit k ∷ []), forms-many tab n r.room)

  -- ---- a symbol by its kind

  by_kind : (kind k : ℕ) {b : Bool} {m : ℕ} {tab' : List ℕ} → eqb kind 4 ≡ b → Extended (put b (lit k) []) tab n tab' m → Extended (put (eqb kind 4) (lit k) []) tab n tab' m
  by_kind kind k {m = m} {tab'} e x = subst (λ b. Extended (put b (lit k) []) tab n tab' m) (sym e) x

  pub kind-other : (kind k : ℕ) → (kind ≡ 4 → ⊥) → Extended (put (eqb kind 4) (lit k) []) tab n tab n
  kind-other kind k f = by_kind kind k (ne_eqb kind 4 f) extended_none

  pub kind-value : (kind k : ℕ) {x : Added} {tab' : List ℕ} {a : Option Added} → kind ≡ 4 → Answer tab n tab' (lit k ∷ []) (lit k) a → a ≡ Some x → Extended (put (eqb kind 4) (lit k) []) tab n tab' x.count
  kind-value kind k f w e = by_kind kind k (eq-eqb kind 4 f) (one-added w e)

  pub kind-full : {k m : ℕ} {l : List Form} {tab' : List ℕ} {a : Option Added} → n < length tab → Answer tab n tab' (lit k ∷ []) (lit k) a → a ≡ None → Extended l tab n tab' m
  kind-full h w e = absurd (one-room w h e)

  pub ready-extended : {l : List Form} {tab' : List ℕ} {m : ℕ} → Extended l tab n tab' m → length tab' ≡ length tab → Ready tab' m
  ready-extended x e = record { room = x.room; small = (let s = r.small in omega arith); members = x.grows.members }

extended_then : {k l : List Form} {tab tab₁ tab₂ : List ℕ} {n m q : ℕ} → Extended k tab n tab₁ m → Extended l tab₁ m tab₂ q → Extended (k ++ l) tab n tab₂ q
extended_then {k} {l} {tab} {tab₁} {n = n} {m} {q} x y = record {
  up = (let a = x.up in let b = y.up in omega arith);
  few = (let a = x.few in let b = y.few in omega (arith, length-append k l));
  room = y.room;
  grows = grows_then x.grows y.grows;
  behind = y.behind ∙ drop-later tab₁ tab m q y.up x.behind;
}

-- ---- symbol after symbol

put_map : (b : Bool) (k : ℕ) → map lit (put b k []) ≡ put b (lit k) []
put_map true k = refl
put_map false k = refl

-- no more values than symbols
values-few : (kinds : List ℕ) (k : ℕ) → length (map lit (keep (is_value kinds) (below k))) ≤ k
values-few kinds k = subst (λ m. m ≤ k) (sym (length-map (keep (is_value kinds) (below k)) lit)) (kept-few (is_value kinds) k)

-- the values among the first k symbols were put
pub record Sofar (kinds tab₀ : List ℕ) (n : ℕ) (tab : List ℕ) (m k : ℕ) : Type 0 where
  pub most : k ≤ length kinds
  pub same : length tab ≡ length tab₀
  pub extended : Extended (map lit (keep (is_value kinds) (below k))) tab₀ n tab m

module _ {kinds tab₀ : List ℕ} {n : ℕ} (r : Ready tab₀ n) where
  module _ {tab : List ℕ} {m k : ℕ} (s : Sofar kinds tab₀ n tab m k) where
    pub sofar-ready : Ready tab m
    sofar-ready = ready-extended r s.extended s.same

    pub sofar-next : {tab' : List ℕ} {q : ℕ} → k < length kinds → length tab' ≡ length tab → Extended (put (is_value kinds k) (lit k) []) tab m tab' q → Sofar kinds tab₀ n tab' q (k + 1)
    sofar-next {tab'} {q} h e x = record {
      most = omega arith;
      same = e ∙ s.same;
      extended = subst (λ l. Extended l tab₀ n tab' q)
          (sym (ap (map lit) (keep-next (is_value kinds) k (is_value kinds k) refl) ∙ map-append lit (keep (is_value kinds) (below k)) (put (is_value kinds k) k []) ∙ ap (λ l. map lit (keep (is_value kinds) (below k)) ++ l) (put_map (is_value kinds k) k)))
          (extended_then s.extended x);
    }

    -- the table has room for the symbols that are left
    pub sofar-room : n + length kinds ≤ length tab₀ → k < length kinds → m < length tab
    sofar-room h l = let f = s.extended.few in let e = s.same in let g = values-few kinds k in omega arith

-- ---- what that makes of the formulas that stood there

pub tabled-with : {c : List Form} {tab tab' : List ℕ} {n m : ℕ} (values : List ℕ) → Tabled c tab n → Extended (map lit values) tab n tab' m → Tabled (with_values values c) tab' m
tabled-with {c} {tab} {tab'} {n} {m} values t x = record {
  room = x.room;
  members = x.grows.members;
  unique = with-unique c values t.unique;
  has = into;
  only = out;
  count = let a = unique-length (forms (take m tab')) (with_values values c) x.grows.members.unique out in
      let b = unique-length (with_values values c) (forms (take m tab')) (with-unique c values t.unique) into in
      omega (arith, forms-many tab' m x.room);
}
  where
    into : with_values values c ⊆ forms (take m tab')
    into p i = elim (with_out c values i) [ inl k ↦ grows-keep x.grows p (t.has p k) | inr w ↦ x.grows.has p (subst (λ q. q ∈ map lit values) (sym w.2) (map-in lit w.1)) ]

    out : forms (take m tab') ⊆ with_values values c
    out p i = elim (Memᴰ.append_cases (forms (take n tab)) (x.grows.only p i)) [
      | inl k ↦ with_in c values (t.only p k)
      | inr k ↦ (let w = map-out lit values k in subst (λ q. q ∈ with_values values c) (sym w.2) (with_value c values w.1))
    ]

-- What the steps that join EX or AX over each mode add. Assumes nothing.
use mathlib.Core.Path.{◌≡◌, refl, sym, ap, ap₂, ◌∙◌, subst}
use mathlib.Core.Bool.{Bool, true, false}
use mathlib.Core.List.Memᴰ
use mathlib.Core.List.{List, [], ◌∷◌, ◌++◌}
use Prim.Native.Nat.{ℕ, ◌+◌, ◌-◌, ◌/◌, ◌%◌, ◌^◌, ◌≤◌, ◌<◌}
use native.Mathlib.Omega.{arith}
use lib.ListN.{length, get_or, take}
use Rattle.ctl.specs.Lists.{◌∈◌}
use Rattle.ctl.specs.Formula.{Form, tru}
use Rattle.ctl.specs.Closure.{or_spine, and_spine}
use Rattle.members.specs.Members.{forms}
use Rattle.members.specs.Grown.{Ready, Done, Answer}
use Rattle.expansion.specs.Operators.{next_form, join_form, unit_form, join_all, join_spine, next_spine, each_of}
use Rattle.members.specs.ModeLists.{modes_from}
use Rattle.members.proofs.StepLaws.{sub-cons, sub-one, sub-both, answer-is, answer-same, answer-then, done-then, done_at, ready-then, full-then, full-more, was-full, sub-eq, first-full, rest-full, rest-still}
use Rattle.expansion.proofs.NextLaws.{spine-one, all_one, spine-more, all_more, next-spine}
use Rattle.members.proofs.ModeListLaws.{modes-skip, modes-put, modes-none, modes-some, mode-below, half-below}
use Rattle.members.specs.declared.Added.{Added}
use Rattle.std.proofs.Common.{Option, Some, None}

-- ---- the members of a list of three groups

pub in_head : {p : Form} {l : List Form} → p ∈ p ∷ l
in_head = Memᴰ.head refl

pub in-second : {p q : Form} {l : List Form} → p ∈ q ∷ (p ∷ l)
in-second = Memᴰ.tail (Memᴰ.head refl)

module _ (tab : List ℕ) (n : ℕ) (b : Bool) (m rest : ℕ) (p : Form) where
  abbrev Want : List ℕ → Option Added → Type 0
  Want tab' a = Answer tab n tab' (join_spine b (each_of b (modes_from m rest) p)) (join_all b (each_of b (modes_from m rest) p)) a

  abbrev later : List Form
  later = each_of b (modes_from (m + 1) (rest / 2)) p

  -- rest has the bits of modes from m on, and one of them
  abbrev Some_left : Type 0
  Some_left = (m ≤ 16) × ((0 < rest) × (rest < 2 ^ (16 - m)))

  pub each-skip : {tab' : List ℕ} {a : Option Added} → Some_left → rest % 2 ≡ 0 → Answer tab n tab' (join_spine b later) (join_all b later) a → Want tab' a
  each-skip {tab'} {a} h e w = subst (λ ms. Answer tab n tab' (join_spine b (each_of b ms p)) (join_all b (each_of b ms p)) a) (sym (modes-skip m rest (mode-below m rest h.0 h.1.0 h.1.1) e)) w

  pub each_last : {tab' : List ℕ} {a : Option Added} (B : ℕ) → Some_left → rest ≡ 1 → B ≡ 2 ^ m → Answer tab n tab' (next_form b B p ∷ []) (next_form b B p) a → Want tab' a
  each_last {tab'} {a} B x e i w =
      let h = mode-below m rest x.0 x.1.0 x.1.1 in
      let ms : modes_from m rest ≡ m ∷ [] = modes-put m rest h (omega arith) ∙ ap (λ l. m ∷ l) (modes-none (m + 1) (rest / 2) (omega arith)) in
      let f = next_form b (2 ^ m) p in
      let w' = answer-is (ap (λ x. next_form b x p) i) w in
      subst (λ ms. Answer tab n tab' (join_spine b (each_of b ms p)) (join_all b (each_of b ms p)) a) (sym ms)
      (subst (λ l. Answer tab n tab' l (join_all b (f ∷ [])) a) (sym (spine-one b f)) (subst (λ x. Answer tab n tab' (f ∷ []) x a) (sym (all_one b f)) w'))

  module _ (x : Some_left) (not-even : rest % 2 ≡ 0 → ⊥) (not-one : rest ≡ 1 → ⊥) where
    h : m < 16
    h = mode-below m rest x.0 x.1.0 x.1.1

    odd : rest % 2 ≡ 1
    odd = omega arith

    more : 1 < rest
    more = let k = x.1.0 in omega arith

    abbrev F : Form
    F = next_form b (2 ^ m) p

    abbrev J : Form
    J = join_all b later

    abbrev S : List Form
    S = join_spine b later

    spine-is : join_spine b (each_of b (modes_from m rest) p) ≡ join_form b F J ∷ (F ∷ S)
    spine-is =
        let s = modes-some (m + 1) (rest / 2) (omega (arith, more)) (half-below m rest h x.1.1) in
        let e : each_of b (modes_from (m + 1) (rest / 2)) p ≡ each_of b (s.0 ∷ s.1) p = ap (λ ms. each_of b ms p) s.2 in
        ap (λ ms. join_spine b (each_of b ms p)) (modes-put m rest h odd ∙ ap (λ l. m ∷ l) s.2) ∙ spine-more b F (next_form b (2 ^ s.0) p) (each_of b s.1 p)
        ∙ sym (ap (λ l. join_form b F (join_all b l) ∷ (F ∷ join_spine b l)) e)

    all-is : join_all b (each_of b (modes_from m rest) p) ≡ join_form b F J
    all-is =
        let s = modes-some (m + 1) (rest / 2) (omega (arith, more)) (half-below m rest h x.1.1) in
        let e : each_of b (modes_from (m + 1) (rest / 2)) p ≡ each_of b (s.0 ∷ s.1) p = ap (λ ms. each_of b ms p) s.2 in
        ap (λ ms. join_all b (each_of b ms p)) (modes-put m rest h odd ∙ ap (λ l. m ∷ l) s.2) ∙ all_more b F (next_form b (2 ^ s.0) p) (each_of b s.1 p)
        ∙ sym (ap (λ l. join_form b F (join_all b l)) e)

    wanted : {tab' : List ℕ} {a : Option Added} → Answer tab n tab' (join_form b F J ∷ (F ∷ S)) (join_form b F J) a → Want tab' a
    wanted {tab'} {a} w = subst (λ l. Answer tab n tab' l (join_all b (each_of b (modes_from m rest) p)) a) (sym spine-is) (subst (λ f. Answer tab n tab' (join_form b F J ∷ (F ∷ S)) f a) (sym all-is) w)

    pub each-full : {tab' : List ℕ} {tab'' : List ℕ} {a : Option Added} → Answer tab n tab' S J a → a ≡ None → Want tab'' None
    each-full w e = wanted (full-more S (λ q i. Memᴰ.tail (Memᴰ.tail i)) (was-full w e))

    module _ (r : Ready tab n) {tab₁ : List ℕ} {i₁ n₁ : ℕ} (d : Done tab n tab₁ S J i₁ n₁) (same : length tab₁ ≡ length tab)
        (B body : ℕ) (bit : B ≡ 2 ^ m) (inside : body < n) (p-is : p ≡ get_or (forms (take n tab)) body tru) where
      F-is : next_form b B (get_or (forms (take n₁ tab₁)) body tru) ≡ F
      F-is = ap₂ (λ x y. next_form b x y) bit (done_at r d same body inside ∙ sym p-is)

      pub each-full-2 : {tab₂ tab' : List ℕ} {a : Option Added} → Answer tab₁ n₁ tab₂ (next_form b B (get_or (forms (take n₁ tab₁)) body tru) ∷ []) (next_form b B (get_or (forms (take n₁ tab₁)) body tru)) a → a ≡ None → Want tab' None
      each-full-2 w e = wanted (full-more (S ++ (F ∷ [])) (sub-both (λ q i. Memᴰ.tail (Memᴰ.tail i)) (sub-one in-second)) (full-then r d same (F ∷ []) (was-full (answer-is F-is w) e)))

      module _ {tab₂ : List ℕ} {i₂ n₂ : ℕ} (d₂ : Done tab₁ n₁ tab₂ (next_form b B (get_or (forms (take n₁ tab₁)) body tru) ∷ []) (next_form b B (get_or (forms (take n₁ tab₁)) body tru)) i₂ n₂) (same₂ : length tab₂ ≡ length tab₁) where
        X-is : join_form b (get_or (forms (take n₂ tab₂)) i₂ tru) (get_or (forms (take n₂ tab₂)) i₁ tru) ≡ join_form b F J
        X-is = ap₂ (λ x y. join_form b x y) (d₂.is ∙ F-is) (done_at (ready-then r d same) d₂ same₂ i₁ d.below ∙ d.is)

        pub each-join : {tab' : List ℕ} {a : Option Added} → Answer tab₂ n₂ tab' (join_form b (get_or (forms (take n₂ tab₂)) i₂ tru) (get_or (forms (take n₂ tab₂)) i₁ tru) ∷ []) (join_form b (get_or (forms (take n₂ tab₂)) i₂ tru) (get_or (forms (take n₂ tab₂)) i₁ tru)) a → Want tab' a
        each-join {tab'} {a} w =
            let X = join_form b F J in
            wanted (answer-same {l = (S ++ (F ∷ [])) ++ (X ∷ [])}
            (sub-both (sub-both (λ q i. Memᴰ.tail (Memᴰ.tail i)) (sub-one in-second)) (sub-one in_head))
            (sub-cons (Memᴰ.append_right (S ++ (F ∷ [])) in_head) (sub-cons (Memᴰ.append_left (X ∷ []) (Memᴰ.append_right S in_head)) (λ q i. Memᴰ.append_left (X ∷ []) (Memᴰ.append_left (F ∷ []) i))))
            (subst (λ g. Answer tab n tab' ((S ++ (g ∷ [])) ++ (X ∷ [])) X a) F-is
            (answer-then r (done-then r d same d₂) (same₂ ∙ same) (answer-is X-is w))))

unit-spine : (b : Bool) → join_spine b [] ≡ unit_form b ∷ []
unfolding join_spine or_spine and_spine
unit-spine true = refl
unit-spine false = refl

module _ {tab : List ℕ} {n : ℕ} (b : Bool) (A : ℕ) (p : Form) where
  pub next-full : {tab₁ tab' : List ℕ} {a : Option Added} → Answer tab n tab₁ (next_form b A p ∷ []) (next_form b A p) a → a ≡ None → Answer tab n tab' (next_spine b A p) (next_form b A p) None
  next-full w e = first-full (sub-one (sub-eq (sym (next-spine b A p)) (next_form b A p) in_head)) w e

module _ {tab : List ℕ} {n : ℕ} (b : Bool) (A : ℕ) (body : ℕ) (inside : body < n) {tab₁ : List ℕ} {i₁ n₁ : ℕ} (r : Ready tab n)
    (d : Done tab n tab₁ (next_form b A (get_or (forms (take n tab)) body tru) ∷ []) (next_form b A (get_or (forms (take n tab)) body tru)) i₁ n₁) (same : length tab₁ ≡ length tab) where
  abbrev p : Form
  p = get_or (forms (take n tab)) body tru

  module _ (none : A ≡ 0) where
    none_is : (next_form b A p ∷ []) ++ (unit_form b ∷ []) ≡ next_spine b A p
    none_is = ap (λ l. next_form b A p ∷ l) (sym (ap (λ ms. join_spine b (each_of b ms p)) (modes-none 0 A none) ∙ unit-spine b)) ∙ sym (next-spine b A p)

    pub next-none-full : {tab₂ tab' : List ℕ} {a : Option Added} → Answer tab₁ n₁ tab₂ (unit_form b ∷ []) (unit_form b) a → a ≡ None → Answer tab n tab' (next_spine b A p) (next_form b A p) None
    next-none-full w e = rest-full r d same (sub-eq none_is) w e

    pub next-none : {tab₂ : List ℕ} {a : Option Added} {s : Added} → Answer tab₁ n₁ tab₂ (unit_form b ∷ []) (unit_form b) a → a ≡ Some s → Answer tab n tab₂ (next_spine b A p) (next_form b A p) (Some (record { index = i₁; count = s.count }))
    next-none w e = rest-still r d same (sub-eq none_is) (sub-eq (sym none_is)) w e

  abbrev p₁ : Form
  p₁ = get_or (forms (take n₁ tab₁)) body tru

  some_is : (next_form b A p ∷ []) ++ join_spine b (each_of b (modes_from 0 A) p₁) ≡ next_spine b A p
  some_is = ap (λ q. next_form b A p ∷ join_spine b (each_of b (modes_from 0 A) q)) (done_at r d same body inside) ∙ sym (next-spine b A p)

  pub next-some-full : {tab₂ tab' : List ℕ} {a : Option Added} → Answer tab₁ n₁ tab₂ (join_spine b (each_of b (modes_from 0 A) p₁)) (join_all b (each_of b (modes_from 0 A) p₁)) a → a ≡ None → Answer tab n tab' (next_spine b A p) (next_form b A p) None
  next-some-full w e = rest-full r d same (sub-eq some_is) w e

  pub next-some : {tab₂ : List ℕ} {a : Option Added} {s : Added} → Answer tab₁ n₁ tab₂ (join_spine b (each_of b (modes_from 0 A) p₁)) (join_all b (each_of b (modes_from 0 A) p₁)) a → a ≡ Some s → Answer tab n tab₂ (next_spine b A p) (next_form b A p) (Some (record { index = i₁; count = s.count }))
  next-some w e = rest-still r d same (sub-eq some_is) (sub-eq (sym some_is)) w e

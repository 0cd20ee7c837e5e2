-- From a node to the members of its positive form: what the steps add. Assumes nothing.
use mathlib.Core.Path.{◌≡◌, refl, sym, ap, ap₂, ◌∙◌, subst}
use mathlib.Core.Bool.{Bool, true, false, not}
use mathlib.Core.List.Memᴰ
use mathlib.Core.List.{List, [], ◌∷◌, ◌++◌}
use Prim.Native.Nat.{ℕ, zero, suc, ◌-◌, ◌≤◌, ◌<◌}
use native.Mathlib.Omega.{arith}
use lib.Dec.{eqb}
use native.Mathlib.Decide.{dec_le}
use lib.ListN.{length, get_or, take}
use Rattle.ctl.specs.Lists.{◌∈◌}
use Rattle.ctl.specs.Formula.{Form, tru, lit, nlit}
use Rattle.ctl.specs.Raw.{Raw}
use Rattle.ctl.specs.Positive.{signed}
use Rattle.ctl.specs.Closure.{spine, closure_of}
use Rattle.members.specs.Members.{forms, word_of, Canon, c-lit, c-nlit}
use Rattle.members.specs.Grown.{Ready, Done, Answer}
use Rattle.expansion.specs.Operators.{next_form, join_form, unit_form, next_spine, plain_form, strong_form, flip, letter_form, until_form, until_unit}
use Rattle.closure.specs.Given.{Reads, Adds}
use Rattle.members.proofs.StepLaws.{Then, step_then, ◌⊆◌, sub-eq, sub-one, sub-both, sub-left, sub-right, answer-is, answer-then, answer-same, was-added, done_at, done-then, ready-then, first-full, rest-full, rest-still}
use Rattle.expansion.proofs.EachLaws.{in_head}
use Rattle.closure.proofs.KindLaws.{raw_by, sign-unit, sign-letter, sign-neg, sign-join, sign-next, sign-lone, sign-until}
use Rattle.closure.proofs.NodeLaws.{Node, at-node, kind_n, arg_n, left_n}
use Rattle.members.specs.declared.Added.{Added}
use Rattle.std.proofs.Common.{Option, Some, None}

-- ---- closures of formulas by their outermost operator

closure-unit : (b : Bool) → closure_of (unit_form b) ≡ unit_form b ∷ []
unfolding closure_of spine
closure-unit true = refl
closure-unit false = refl

closure-join : (b : Bool) (p q : Form) → closure_of (join_form b p q) ≡ (join_form b p q ∷ []) ++ (closure_of p ++ closure_of q)
unfolding closure_of spine
closure-join true p q = refl
closure-join false p q = refl

closure-next : (b : Bool) (A : ℕ) (p : Form) → closure_of (next_form b A p) ≡ next_spine b A p ++ closure_of p
unfolding closure_of spine next_spine
closure-next true A p = refl
closure-next false A p = refl

closure-plain : (b : Bool) (A : ℕ) (p q : Form) → closure_of (plain_form b A p q) ≡ spine (plain_form b A p q) ++ (closure_of p ++ closure_of q)
unfolding closure_of
closure-plain true A p q = refl
closure-plain false A p q = refl

closure-strong : (b : Bool) (A : ℕ) (p q : Form) → closure_of (strong_form b A p q) ≡ spine (strong_form b A p q) ++ (closure_of p ++ closure_of q)
unfolding closure_of
closure-strong true A p q = refl
closure-strong false A p q = refl

closure-until : (o : ℕ) (b : Bool) (A : ℕ) (p q : Form) → closure_of (until_form o b A p q) ≡ spine (until_form o b A p q) ++ (closure_of p ++ closure_of q)
closure-until zero b A p q = closure-plain b A p q
closure-until (suc zero) b A p q = closure-strong b A p q
closure-until (suc (suc zero)) b A p q = closure-strong (not b) A p q
closure-until (suc (suc (suc zero))) b A p q = closure-plain (not b) A p q
closure-until (suc (suc (suc (suc o)))) b A p q = closure-plain b A p q

-- ---- symbols

module _ {tab : List ℕ} {n : ℕ} (r : Ready tab n) {k : ℕ} (h : k < 65536) where
  pub asks-lit : Ready tab n × ((2 < 16) × ((k < 65536) × ((0 < 256) × ((0 < 256) × Canon n (word_of 2 k 0 0)))))
  asks-lit = (r, (omega arith, (h, (omega arith, (omega arith, c-lit h)))))

  pub asks-nlit : Ready tab n × ((3 < 16) × ((k < 65536) × ((0 < 256) × ((0 < 256) × Canon n (word_of 3 k 0 0)))))
  asks-nlit = (r, (omega arith, (h, (omega arith, (omega arith, c-nlit h)))))

module _ {tab : List ℕ} {n : ℕ} (b : Bool) (k : ℕ) where
  pub letter-plain : {tab' : List ℕ} {a : Option Added} → b ≡ true → Answer tab n tab' (lit k ∷ []) (lit k) a → Answer tab n tab' (closure_of (letter_form b k)) (letter_form b k) a
  unfolding closure_of spine
  letter-plain {tab'} {a} e w = subst (λ c. Answer tab n tab' (closure_of (letter_form c k)) (letter_form c k) a) (sym e) w

  negated : {tab' : List ℕ} {a : Option Added} → b ≡ false → Answer tab n tab' (nlit k ∷ (lit k ∷ [])) (nlit k) a → Answer tab n tab' (closure_of (letter_form b k)) (letter_form b k) a
  unfolding closure_of spine
  negated {tab'} {a} e w = subst (λ c. Answer tab n tab' (closure_of (letter_form c k)) (letter_form c k) a) (sym e) w

  pub letter-full : {tab₁ tab' : List ℕ} {a : Option Added} → b ≡ false → Answer tab n tab₁ (nlit k ∷ []) (nlit k) a → a ≡ None → Answer tab n tab' (closure_of (letter_form b k)) (letter_form b k) None
  letter-full e w i = negated e (first-full (sub-one in_head) w i)

  module _ (r : Ready tab n) {tab₁ : List ℕ} {i₁ n₁ : ℕ} (d : Done tab n tab₁ (nlit k ∷ []) (nlit k) i₁ n₁) (same : length tab₁ ≡ length tab) where
    pub letter-full-2 : {tab₂ tab' : List ℕ} {a : Option Added} → b ≡ false → Answer tab₁ n₁ tab₂ (lit k ∷ []) (lit k) a → a ≡ None → Answer tab n tab' (closure_of (letter_form b k)) (letter_form b k) None
    letter-full-2 e w i = negated e (rest-full r d same (λ p m. m) w i)

    pub letter-last : {tab₂ : List ℕ} {a : Option Added} {s : Added} → b ≡ false → Answer tab₁ n₁ tab₂ (lit k ∷ []) (lit k) a → a ≡ Some s → Answer tab n tab₂ (closure_of (letter_form b k)) (letter_form b k) (Some (record { index = i₁; count = s.count }))
    letter-last e w i = negated e (rest-still r d same (λ p m. m) (λ p m. m) w i)

-- ---- the right operand's closure is in the whole's

in-join : (b : Bool) (p q : Form) {x : Form} → x ∈ closure_of q → x ∈ closure_of (join_form b p q)
in-join b p q {x} m = sub-eq (sym (closure-join b p q)) x (Memᴰ.append_right (join_form b p q ∷ []) (Memᴰ.append_right (closure_of p) m))

in-next : (b : Bool) (A : ℕ) (q : Form) {x : Form} → x ∈ closure_of q → x ∈ closure_of (next_form b A q)
in-next b A q {x} m = sub-eq (sym (closure-next b A q)) x (Memᴰ.append_right (next_spine b A q) m)

in-until : (o : ℕ) (b : Bool) (A : ℕ) (p q : Form) {x : Form} → x ∈ closure_of q → x ∈ closure_of (until_form o b A p q)
in-until o b A p q {x} m = sub-eq (sym (closure-until o b A p q)) x (Memᴰ.append_right (spine (until_form o b A p q)) (Memᴰ.append_right (closure_of p) m))

-- ---- a node

unit-closure : {tab : List ℕ} {n : ℕ} {tab' : List ℕ} {a : Option Added} (b : Bool) → Answer tab n tab' (unit_form b ∷ []) (unit_form b) a → Answer tab n tab' (closure_of (unit_form b)) (unit_form b) a
unit-closure {tab} {n} {tab'} {a} b w = subst (λ l. Answer tab n tab' l (unit_form b) a) (sym (closure-unit b)) w

module _ (ns : List ℕ) (i : ℕ) (b : Bool) (tab : List ℕ) (n : ℕ) (p : Raw) (x : Node ns i p) where
  abbrev k : ℕ
  k = kind_n (get_or ns i 0)

  abbrev A : ℕ
  A = arg_n (get_or ns i 0)

  abbrev P : Raw
  P = x.left

  abbrev Q : Raw
  Q = x.right

  abbrev R : Form
  R = signed b Q

  abbrev L : Form
  L = signed (flip (eqb k 10) b) P

  abbrev Want : List ℕ → Option Added → Type 0
  Want tab' a = Answer tab n tab' (closure_of (signed b p)) (signed b p) a

  as-node : {tab' : List ℕ} {a : Option Added} (f : Form) → signed b (raw_by k A P Q) ≡ f → Answer tab n tab' (closure_of f) f a → Want tab' a
  as-node {tab'} {a} f e w = subst (λ g. Answer tab n tab' (closure_of g) g a) (sym (ap (signed b) x.is ∙ e)) w

  node-unit : {tab' : List ℕ} {a : Option Added} → k < 2 → (c : Bool) → c ≡ flip (eqb k 1) b → Answer tab n tab' (unit_form c ∷ []) (unit_form c) a → Want tab' a
  node-unit l c e w = as-node (unit_form c) (sign-unit A P Q b k l ∙ ap unit_form (sym e)) (unit-closure c w)

  node-letter : {tab' : List ℕ} {a : Option Added} → k ≡ 2 → Answer tab n tab' (closure_of (letter_form b A)) (letter_form b A) a → Want tab' a
  node-letter e w = as-node (letter_form b A) (sign-letter A P Q b k e) w

  node-neg : {tab' : List ℕ} {a : Option Added} → k ≡ 3 → Answer tab n tab' (closure_of (signed (not b) Q)) (signed (not b) Q) a → Want tab' a
  node-neg e w = as-node (signed (not b) Q) (sign-neg A P Q b k e) w

  -- every kind above 3 has the right operand's closure in its own
  right-in : 3 < k → closure_of R ⊆ closure_of (signed b (raw_by k A P Q))
  right-in l p m = elim (dec_le k 5) [
    | yes a ↦ subst (λ f. p ∈ closure_of f) (sym (sign-next A P Q b k l (omega arith))) (in-next (flip (eqb k 5) b) A R m)
    | no a ↦ elim (dec_le k 9) [
      | yes c ↦ subst (λ f. p ∈ closure_of f) (sym (sign-lone A P Q b k (k - 6) (omega arith) (omega arith) refl)) (in-until (k - 6) b A (unit_form (until_unit (k - 6) b)) R m)
      | no c ↦ elim (dec_le k 12) [
        | yes d ↦ subst (λ f. p ∈ closure_of f) (sym (sign-join A P Q b k (omega arith) (omega arith))) (in-join (flip (eqb k 12) b) L R m)
        | no d ↦ subst (λ f. p ∈ closure_of f) (sym (sign-until A P Q b k (k - 13) (omega arith) x.kind refl)) (in-until (k - 13) b A L R m)
      ]
    ]
  ]

  -- no room for the right operand's closure
  node-right-full : 3 < k → {tab₁ tab' : List ℕ} {a : Option Added} → Answer tab n tab₁ (closure_of R) R a → a ≡ None → Want tab' None
  node-right-full l w e = as-node (signed b (raw_by k A P Q)) refl (first-full (right-in l) w e)

  module _ (r : Ready tab n) {tab₁ : List ℕ} {i₁ n₁ : ℕ} (d₁ : Done tab n tab₁ (closure_of R) R i₁ n₁) (k₁ : length tab₁ ≡ length tab) where
    node-next : {tab₂ : List ℕ} {a : Option Added} → 4 ≤ k → k < 6 → (c : Bool) → c ≡ flip (eqb k 5) b
        → Answer tab₁ n₁ tab₂ (next_spine c A (get_or (forms (take n₁ tab₁)) i₁ tru)) (next_form c A (get_or (forms (take n₁ tab₁)) i₁ tru)) a → Want tab₂ a
    node-next {tab₂} {a} g l c e w =
        as-node (next_form c A R) (sign-next A P Q b k g l ∙ ap (λ c. next_form c A R) (sym e))
        (answer-same {l = closure_of R ++ next_spine c A R}
        (λ p m. sub-eq (sym (closure-next c A R)) p (sub-both {j = closure_of R} (sub-right (next_spine c A R) (closure_of R)) (sub-left (next_spine c A R) (closure_of R)) p m))
        (λ p m. sub-both {j = next_spine c A R} (sub-right (closure_of R) (next_spine c A R)) (sub-left (closure_of R) (next_spine c A R)) p (sub-eq (closure-next c A R) p m))
        (answer-then r d₁ k₁ (subst (λ x. Answer tab₁ n₁ tab₂ (next_spine c A x) (next_form c A x) a) d₁.is w)))

    -- both operands, in the order in which they were added
    module _ (M f : Form) (S : List Form) (f-is : signed b (raw_by k A P Q) ≡ f) (f-closure : closure_of f ≡ S ++ (closure_of M ++ closure_of R)) where
      left_in : closure_of R ++ closure_of M ⊆ closure_of f
      left_in p m = sub-eq (sym f-closure) p (sub-right S (closure_of M ++ closure_of R) p (sub-both {j = closure_of R} (sub-right (closure_of M) (closure_of R)) (sub-left (closure_of M) (closure_of R)) p m))

      two-full : {tab₂ tab' : List ℕ} {a : Option Added} → Answer tab₁ n₁ tab₂ (closure_of M) M a → a ≡ None → Want tab' None
      two-full w e = as-node f f-is (rest-full r d₁ k₁ left_in w e)

      two-last : {tab₂ : List ℕ} {i₂ n₂ : ℕ} → Done tab₁ n₁ tab₂ (closure_of M) M i₂ n₂ → length tab₂ ≡ length tab₁ → {tab₃ : List ℕ} {a : Option Added} → Answer tab₂ n₂ tab₃ S f a → Want tab₃ a
      two-last {tab₂} {i₂} {n₂} d₂ k₂ {tab₃} {a} w = as-node f f-is
          (answer-same {l = (closure_of R ++ closure_of M) ++ S}
          (sub-both {j = closure_of R ++ closure_of M} left_in (λ p m. sub-eq (sym f-closure) p (sub-left S (closure_of M ++ closure_of R) p m)))
          (λ p m. sub-both {j = S} (sub-right (closure_of R ++ closure_of M) S) (sub-both {j = closure_of M} (λ x j. Memᴰ.append_left S (Memᴰ.append_right (closure_of R) j)) (λ x j. Memᴰ.append_left S (Memᴰ.append_left (closure_of M) j))) p (sub-eq f-closure p m))
          (answer-then r (done-then r d₁ k₁ d₂) (k₂ ∙ k₁) w))

    right_is : {tab₂ : List ℕ} {i₂ n₂ : ℕ} {l₂ : List Form} {M : Form} → Done tab₁ n₁ tab₂ l₂ M i₂ n₂ → length tab₂ ≡ length tab₁ → get_or (forms (take n₂ tab₂)) i₁ tru ≡ R
    right_is d₂ k₂ = done_at (ready-then r d₁ k₁) d₂ k₂ i₁ d₁.below ∙ d₁.is

    -- `&`, `|` and `>`
    node-join : 10 ≤ k → k < 13 → (c : Bool) → c ≡ flip (eqb k 12) b → {tab₂ : List ℕ} {i₂ n₂ : ℕ} → Done tab₁ n₁ tab₂ (closure_of L) L i₂ n₂ → length tab₂ ≡ length tab₁ → {tab₃ : List ℕ} {a : Option Added}
        → Answer tab₂ n₂ tab₃ (join_form c (get_or (forms (take n₂ tab₂)) i₂ tru) (get_or (forms (take n₂ tab₂)) i₁ tru) ∷ []) (join_form c (get_or (forms (take n₂ tab₂)) i₂ tru) (get_or (forms (take n₂ tab₂)) i₁ tru)) a
        → Want tab₃ a
    node-join g l c e d₂ k₂ w = two-last L (join_form c L R) (join_form c L R ∷ []) (sign-join A P Q b k g l ∙ ap (λ c. join_form c L R) (sym e)) (closure-join c L R) d₂ k₂
        (answer-is (ap₂ (λ x y. join_form c x y) d₂.is (right_is d₂ k₂)) w)

    -- operators of two operands, the left one M
    module _ (o : ℕ) (M : Form) (f-is : signed b (raw_by k A P Q) ≡ until_form o b A M R) where
      node-until-full : {tab₂ tab' : List ℕ} {a : Option Added} → Answer tab₁ n₁ tab₂ (closure_of M) M a → a ≡ None → Want tab' None
      node-until-full w e = two-full M (until_form o b A M R) (spine (until_form o b A M R)) f-is (closure-until o b A M R) w e

      node-until : {tab₂ : List ℕ} {i₂ n₂ : ℕ} → Done tab₁ n₁ tab₂ (closure_of M) M i₂ n₂ → length tab₂ ≡ length tab₁ → {tab₃ : List ℕ} {a : Option Added}
          → Answer tab₂ n₂ tab₃ (spine (until_form o b A (get_or (forms (take n₂ tab₂)) i₂ tru) (get_or (forms (take n₂ tab₂)) i₁ tru))) (until_form o b A (get_or (forms (take n₂ tab₂)) i₂ tru) (get_or (forms (take n₂ tab₂)) i₁ tru)) a
          → Want tab₃ a
      node-until {tab₂} {i₂} {n₂} d₂ k₂ {tab₃} {a} w = two-last M (until_form o b A M R) (spine (until_form o b A M R)) f-is (closure-until o b A M R) d₂ k₂
          (subst (λ f. Answer tab₂ n₂ tab₃ (spine f) f a) (ap₂ (λ x y. until_form o b A x y) d₂.is (right_is d₂ k₂)) w)

    lone_is : 6 ≤ k → k < 10 → (c : Bool) → c ≡ until_unit (k - 6) b → signed b (raw_by k A P Q) ≡ until_form (k - 6) b A (unit_form c) R
    lone_is g l c e = sign-lone A P Q b k (k - 6) g l refl ∙ ap (λ x. until_form (k - 6) b A (unit_form x) R) (sym e)

    pair_is : 13 ≤ k → signed b (raw_by k A P Q) ≡ until_form (k - 13) b A L R
    pair_is g = sign-until A P Q b k (k - 13) g x.kind refl

    node-left-full : 10 ≤ k → {tab₂ tab' : List ℕ} {a : Option Added} → Answer tab₁ n₁ tab₂ (closure_of L) L a → a ≡ None → Want tab' None
    node-left-full g w e = elim (dec_le k 12) [
      | yes l ↦ two-full L (join_form (flip (eqb k 12) b) L R) (join_form (flip (eqb k 12) b) L R ∷ []) (sign-join A P Q b k g (omega arith)) (closure-join (flip (eqb k 12) b) L R) w e
      | no l ↦ node-until-full (k - 13) L (pair_is (omega arith)) w e
    ]

-- ---- the same for whichever formula stands there, with what the calls ensure

module _ (ns : List ℕ) (i : ℕ) (b : Bool) (tab : List ℕ) (n : ℕ) (small : i < 1024) where
  abbrev K : ℕ
  K = kind_n (get_or ns i 0)

  abbrev M : ℕ
  M = arg_n (get_or ns i 0)

  pub at_unit : {tab' : List ℕ} {a : Option Added} → K < 2 → (c : Bool) → c ≡ flip (eqb K 1) b → Answer tab n tab' (unit_form c ∷ []) (unit_form c) a → Adds ns i b tab n tab' a
  at_unit l c e w p h = node-unit ns i b tab n p (at-node ns i small p h) l c e w

  pub at-letter : {tab' : List ℕ} {a : Option Added} → K ≡ 2 → Answer tab n tab' (closure_of (letter_form b M)) (letter_form b M) a → Adds ns i b tab n tab' a
  at-letter e w p h = node-letter ns i b tab n p (at-node ns i small p h) e w

  pub at-neg : {tab' : List ℕ} {a : Option Added} → K ≡ 3 → Adds ns (i - 1) (not b) tab n tab' a → Adds ns i b tab n tab' a
  at-neg e w p h = let x = at-node ns i small p h in node-neg ns i b tab n p x e (w x.right (x.second (omega arith)))

  pub at-right-full : {tab₁ tab' : List ℕ} {a : Option Added} → 3 < K → Adds ns (i - 1) b tab n tab₁ a → a ≡ None → Adds ns i b tab n tab' None
  at-right-full l w e p h = let x = at-node ns i small p h in node-right-full ns i b tab n p x l (w x.right (x.second (omega arith))) e

  module _ (r : Ready tab n) (op : 3 < K) {tab₁ : List ℕ} {a₁ : Option Added} {s₁ : Added} (w₁ : Adds ns (i - 1) b tab n tab₁ a₁) (e₁ : a₁ ≡ Some s₁) (k₁ : length tab₁ ≡ length tab) where
    right-done : {p : Raw} (x : Node ns i p) → Done tab n tab₁ (closure_of (signed b x.right)) (signed b x.right) s₁.index s₁.count
    right-done x = was-added (w₁ x.right (x.second (omega arith))) e₁

    pub at_next : {tab₂ : List ℕ} {a : Option Added} → K < 6 → (c : Bool) → c ≡ flip (eqb K 5) b
        → Answer tab₁ s₁.count tab₂ (next_spine c M (get_or (forms (take s₁.count tab₁)) s₁.index tru)) (next_form c M (get_or (forms (take s₁.count tab₁)) s₁.index tru)) a → Adds ns i b tab n tab₂ a
    at_next l c e w p h = let x = at-node ns i small p h in node-next ns i b tab n p x r (right-done x) k₁ op l c e w

    -- EF, AF, EG and AG
    module _ (g : 6 ≤ K) (l : K < 10) (c : Bool) (c-is : c ≡ until_unit (K - 6) b) where
      pub at-lone-full : {tab₂ tab' : List ℕ} {a : Option Added} → Answer tab₁ s₁.count tab₂ (unit_form c ∷ []) (unit_form c) a → a ≡ None → Adds ns i b tab n tab' None
      at-lone-full w e p h = let x = at-node ns i small p h in
          node-until-full ns i b tab n p x r (right-done x) k₁ (K - 6) (unit_form c) (lone_is ns i b tab n p x r (right-done x) k₁ g l c c-is) (unit-closure c w) e

      pub at-lone : {tab₂ : List ℕ} {a : Option Added} {s₂ : Added} → Answer tab₁ s₁.count tab₂ (unit_form c ∷ []) (unit_form c) a → a ≡ Some s₂ → length tab₂ ≡ length tab₁ → {tab₃ : List ℕ} {a₃ : Option Added}
          → Answer tab₂ s₂.count tab₃ (spine (until_form (K - 6) b M (get_or (forms (take s₂.count tab₂)) s₂.index tru) (get_or (forms (take s₂.count tab₂)) s₁.index tru))) (until_form (K - 6) b M (get_or (forms (take s₂.count tab₂)) s₂.index tru) (get_or (forms (take s₂.count tab₂)) s₁.index tru)) a₃
          → Adds ns i b tab n tab₃ a₃
      at-lone w e k₂ v p h = let x = at-node ns i small p h in
          node-until ns i b tab n p x r (right-done x) k₁ (K - 6) (unit_form c) (lone_is ns i b tab n p x r (right-done x) k₁ g l c c-is) (was-added (unit-closure c w) e) k₂ v

    -- operators of two operands
    module _ (g : 10 ≤ K) (s : Bool) (s-is : s ≡ flip (eqb K 10) b) {tab₂ : List ℕ} {a₂ : Option Added} (w₂ : Adds ns (left_n (get_or ns i 0)) s tab₁ s₁.count tab₂ a₂) where
      left-answer : {p : Raw} (x : Node ns i p) → Answer tab₁ s₁.count tab₂ (closure_of (signed (flip (eqb K 10) b) x.left)) (signed (flip (eqb K 10) b) x.left) a₂
      left-answer x = subst (λ s. Answer tab₁ s₁.count tab₂ (closure_of (signed s x.left)) (signed s x.left) a₂) s-is (w₂ x.left (x.first g))

      pub at-left-full : {tab' : List ℕ} → a₂ ≡ None → Adds ns i b tab n tab' None
      at-left-full e p h = let x = at-node ns i small p h in node-left-full ns i b tab n p x r (right-done x) k₁ g (left-answer x) e

      module _ {s₂ : Added} (e₂ : a₂ ≡ Some s₂) (k₂ : length tab₂ ≡ length tab₁) where
        pub at_join : {tab₃ : List ℕ} {a : Option Added} → K < 13 → (c : Bool) → c ≡ flip (eqb K 12) b
            → Answer tab₂ s₂.count tab₃ (join_form c (get_or (forms (take s₂.count tab₂)) s₂.index tru) (get_or (forms (take s₂.count tab₂)) s₁.index tru) ∷ []) (join_form c (get_or (forms (take s₂.count tab₂)) s₂.index tru) (get_or (forms (take s₂.count tab₂)) s₁.index tru)) a
            → Adds ns i b tab n tab₃ a
        at_join l c e v p h = let x = at-node ns i small p h in node-join ns i b tab n p x r (right-done x) k₁ g l c e (was-added (left-answer x) e₂) k₂ v

        pub at-until : {tab₃ : List ℕ} {a : Option Added} → 13 ≤ K
            → Answer tab₂ s₂.count tab₃ (spine (until_form (K - 13) b M (get_or (forms (take s₂.count tab₂)) s₂.index tru) (get_or (forms (take s₂.count tab₂)) s₁.index tru))) (until_form (K - 13) b M (get_or (forms (take s₂.count tab₂)) s₂.index tru) (get_or (forms (take s₂.count tab₂)) s₁.index tru)) a
            → Adds ns i b tab n tab₃ a
        at-until l v p h = let x = at-node ns i small p h in
            node-until ns i b tab n p x r (right-done x) k₁ (K - 13) (signed (flip (eqb K 10) b) x.left) (pair_is ns i b tab n p x r (right-done x) k₁ l) (was-added (left-answer x) e₂) k₂ v

-- what a call asks of the table that the one before left
pub read-then : (s : Bool) {ns : List ℕ} {j : ℕ} {tab : List ℕ} {n : ℕ} {tab₁ : List ℕ} {a : Option Added} {x : Added} → Reads ns j → Ready tab n → Adds ns j s tab n tab₁ a → a ≡ Some x → length tab₁ ≡ length tab → Then tab₁ n x.index x.count
read-then s q r w e k = step_then r (w q.formula q.at) e k

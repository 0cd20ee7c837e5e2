-- EU, AR, AU and ER with their expansions, told apart by a Boolean. Assumes nothing.
use mathlib.Core.Path.{ap, ◌≡◌, refl, sym, ap₂, ◌∙◌, subst}
use mathlib.Core.Bool.{Bool, true, false, not}
use mathlib.Core.List.Memᴰ
use mathlib.Core.List.{List, [], ◌∷◌, ◌++◌}
use Prim.Native.Nat.{ℕ, ◌<◌}
use native.Mathlib.Omega.{arith}
use lib.ListN.{length, get_or, take}
use Rattle.ctl.specs.Formula.{Form, tru}
use Rattle.ctl.specs.Closure.{spine}
use Rattle.members.specs.Members.{forms, form_by, word_of, Canon, c-eu, c-au, c-er, c-ar}
use Rattle.members.specs.Grown.{Ready, Done, Answer}
use Rattle.expansion.specs.Operators.{next_form, join_form, unit_form, next_spine, plain_form, plain_tag, strong_form, strong_tag}
use Rattle.members.proofs.StepLaws.{was-added, ◌⊆◌, sub-one, sub-cons, sub-both, answer-is, done_at, done-still, first-full, rest-full, rest-still, step_then}
use Rattle.expansion.proofs.EachLaws.{in_head, in-second}
use Rattle.members.specs.declared.Added.{Added}
use Rattle.std.proofs.Common.{Option, Some, None}

form-plain : (b : Bool) (A : ℕ) (p q : Form) → form_by (plain_tag b) A p q ≡ plain_form b A p q
form-plain true A p q = refl
form-plain false A p q = refl

form-strong : (b : Bool) (A : ℕ) (p q : Form) → form_by (strong_tag b) A p q ≡ strong_form b A p q
form-strong true A p q = refl
form-strong false A p q = refl

plain-spine : (b : Bool) (A : ℕ) (p q : Form) → spine (plain_form b A p q)
    ≡ plain_form b A p q ∷ (join_form b q (join_form (not b) p (next_form b A (plain_form b A p q))) ∷ (join_form (not b) p (next_form b A (plain_form b A p q)) ∷ next_spine b A (plain_form b A p q)))
unfolding spine next_spine
plain-spine true A p q = refl
plain-spine false A p q = refl

pub strong-spine : (b : Bool) (A : ℕ) (p q : Form) → let s = strong_form b A p q in let u = unit_form (not b) in let c = join_form (not b) (next_form b A u) (next_form (not b) A s) in
    spine s ≡ s ∷ (join_form b q (join_form (not b) p c) ∷ (join_form (not b) p c ∷ (c ∷ (u ∷ (next_spine b A u ++ next_spine (not b) A s)))))
unfolding spine next_spine
strong-spine true A p q = refl
strong-spine false A p q = refl

module _ {tab : List ℕ} {n : ℕ} {A l q : ℕ} (asked : Ready tab n × ((A < 65536) × ((l < n) × (q < n)))) where
  canon-plain : (b : Bool) → Canon n (word_of (plain_tag b) A l q)
  canon-plain true = c-eu asked.1.0 asked.1.1.0 asked.1.1.1
  canon-plain false = c-ar asked.1.0 asked.1.1.0 asked.1.1.1

  canon-strong : (b : Bool) → Canon n (word_of (strong_tag b) A l q)
  canon-strong true = c-au asked.1.0 asked.1.1.0 asked.1.1.1
  canon-strong false = c-er asked.1.0 asked.1.1.0 asked.1.1.1

  asks : (t : ℕ) → t < 16 → Canon n (word_of t A l q) → Ready tab n × ((t < 16) × ((A < 65536) × ((l < 256) × ((q < 256) × Canon n (word_of t A l q)))))
  asks t k c =
      let a = asked.0.room in
      let b = asked.0.small in
      (asked.0, (k, (asked.1.0, (omega (arith, asked.1.1.0), (omega (arith, asked.1.1.1), c)))))

  pub asks-plain : (b : Bool) (t : ℕ) → t ≡ plain_tag b → Ready tab n × ((t < 16) × ((A < 65536) × ((l < 256) × ((q < 256) × Canon n (word_of t A l q)))))
  asks-plain b t e = asks t (subst (λ x. x < 16) (sym e) (elim b as (λ c. plain_tag c < 16) [ true ↦ omega arith | false ↦ omega arith ])) (subst (λ x. Canon n (word_of x A l q)) (sym e) (canon-plain b))

  pub asks-strong : (b : Bool) (t : ℕ) → t ≡ strong_tag b → Ready tab n × ((t < 16) × ((A < 65536) × ((l < 256) × ((q < 256) × Canon n (word_of t A l q)))))
  asks-strong b t e = asks t (subst (λ x. x < 16) (sym e) (elim b as (λ c. strong_tag c < 16) [ true ↦ omega arith | false ↦ omega arith ])) (subst (λ x. Canon n (word_of x A l q)) (sym e) (canon-strong b))

-- the member that a word of such a tag stands for
module _ {tab : List ℕ} {n : ℕ} {tab' : List ℕ} {a : Option Added} (b : Bool) (t A : ℕ) (p q : Form) where
  pub plain-made : t ≡ plain_tag b → Answer tab n tab' (form_by t A p q ∷ []) (form_by t A p q) a → Answer tab n tab' (plain_form b A p q ∷ []) (plain_form b A p q) a
  plain-made e w = answer-is (ap (λ t. form_by t A p q) e ∙ form-plain b A p q) w

  pub strong-made : t ≡ strong_tag b → Answer tab n tab' (form_by t A p q ∷ []) (form_by t A p q) a → Answer tab n tab' (strong_form b A p q ∷ []) (strong_form b A p q) a
  strong-made e w = answer-is (ap (λ t. form_by t A p q) e ∙ form-strong b A p q) w

-- ---- EU and AR: the steps of their expansions

module _ {tab : List ℕ} {n : ℕ} (b : Bool) {A i j : ℕ} (asked : Ready tab n × ((A < 65536) × ((i < n) × (j < n)))) where
  abbrev p : Form
  p = get_or (forms (take n tab)) i tru

  abbrev q : Form
  q = get_or (forms (take n tab)) j tru

  abbrev S : Form
  S = plain_form b A p q

  abbrev X : Form
  X = next_form b A S

  abbrev Y : Form
  Y = join_form (not b) p X

  abbrev Z : Form
  Z = join_form b q Y

  abbrev All : List Form
  All = S ∷ (Z ∷ (Y ∷ next_spine b A S))

  abbrev Want : List ℕ → Option Added → Type 0
  Want tab' a = Answer tab n tab' (spine S) S a

  want : {tab' : List ℕ} {a : Option Added} → Answer tab n tab' All S a → Want tab' a
  want {tab'} {a} w = subst (λ l. Answer tab n tab' l S a) (sym (plain-spine b A p q)) w

  spine-in : (S ∷ next_spine b A S) ⊆ All
  spine-in = sub-cons in_head (λ x m. Memᴰ.tail (Memᴰ.tail (Memᴰ.tail m)))

  module _ {t : ℕ} (tag : t ≡ plain_tag b) {tab₁ : List ℕ} {a₁ : Option Added} (made : Answer tab n tab₁ (form_by t A p q ∷ []) (form_by t A p q) a₁) where
    w₁ : Answer tab n tab₁ (S ∷ []) S a₁
    w₁ = plain-made b t A p q tag made

    pub plain-asks : {s₁ : Added} → a₁ ≡ Some s₁ → length tab₁ ≡ length tab → Ready tab₁ s₁.count × ((A < 65536) × (s₁.index < s₁.count))
    plain-asks e k = let s = step_then asked.0 w₁ e k in (s.ready, (asked.1.0, s.below))

    pub plain-full : {tab' : List ℕ} → a₁ ≡ None → Want tab' None
    plain-full e = want (first-full (sub-one in_head) w₁ e)

    module _ {s₁ : Added} (e₁ : a₁ ≡ Some s₁) (k₁ : length tab₁ ≡ length tab) {tab₂ : List ℕ} {a₂ : Option Added}
        (w₂ : Answer tab₁ s₁.count tab₂ (next_spine b A (get_or (forms (take s₁.count tab₁)) s₁.index tru)) (next_form b A (get_or (forms (take s₁.count tab₁)) s₁.index tru)) a₂) where
      d₁ : Done tab n tab₁ (S ∷ []) S s₁.index s₁.count
      d₁ = was-added w₁ e₁

      next-is : Answer tab₁ s₁.count tab₂ (next_spine b A S) X a₂
      next-is = subst (λ x. Answer tab₁ s₁.count tab₂ (next_spine b A x) (next_form b A x) a₂) d₁.is w₂

      pub plain-asks-2 : {s₂ : Added} → a₂ ≡ Some s₂ → length tab₂ ≡ length tab₁ → Ready tab₂ s₂.count × ((i < s₂.count) × (s₂.index < s₂.count))
      plain-asks-2 e k =
          let s = step_then asked.0 w₁ e₁ k₁ in
          let t = step_then s.ready w₂ e k in
          (t.ready, (omega (arith, s.up, t.up, asked.1.1.0), t.below))

      pub plain-full-2 : {tab' : List ℕ} → a₂ ≡ None → Want tab' None
      plain-full-2 e = want (rest-full asked.0 d₁ k₁ spine-in next-is e)

      module _ {s₂ : Added} (e₂ : a₂ ≡ Some s₂) (k₂ : length tab₂ ≡ length tab₁) {tab₃ : List ℕ} {a₃ : Option Added}
          (w₃ : Answer tab₂ s₂.count tab₃ (join_form (not b) (get_or (forms (take s₂.count tab₂)) i tru) (get_or (forms (take s₂.count tab₂)) s₂.index tru) ∷ []) (join_form (not b) (get_or (forms (take s₂.count tab₂)) i tru) (get_or (forms (take s₂.count tab₂)) s₂.index tru)) a₃) where
        d₂ : Done tab n tab₂ (S ∷ next_spine b A S) S s₁.index s₂.count
        d₂ = done-still asked.0 d₁ k₁ (was-added next-is e₂)

        both_is : Answer tab₂ s₂.count tab₃ (Y ∷ []) Y a₃
        both_is = answer-is (ap₂ (λ x y. join_form (not b) x y) (done_at asked.0 d₂ (k₂ ∙ k₁) i asked.1.1.0) (was-added next-is e₂).is) w₃

        both-in : (S ∷ next_spine b A S) ++ (Y ∷ []) ⊆ All
        both-in = sub-both {j = S ∷ next_spine b A S} spine-in (sub-one (Memᴰ.tail in-second))

        pub plain-asks-3 : {s₃ : Added} → a₃ ≡ Some s₃ → length tab₃ ≡ length tab₂ → Ready tab₃ s₃.count × ((j < s₃.count) × (s₃.index < s₃.count))
        plain-asks-3 e k =
            let s = step_then asked.0 w₁ e₁ k₁ in
            let t = step_then s.ready w₂ e₂ k₂ in
            let u = step_then t.ready w₃ e k in
            (u.ready, (omega (arith, s.up, t.up, u.up, asked.1.1.1), u.below))

        pub plain-full-3 : {tab' : List ℕ} → a₃ ≡ None → Want tab' None
        plain-full-3 e = want (rest-full asked.0 d₂ (k₂ ∙ k₁) both-in both_is e)

        module _ {s₃ : Added} (e₃ : a₃ ≡ Some s₃) (k₃ : length tab₃ ≡ length tab₂) {tab₄ : List ℕ} {a₄ : Option Added}
            (w₄ : Answer tab₃ s₃.count tab₄ (join_form b (get_or (forms (take s₃.count tab₃)) j tru) (get_or (forms (take s₃.count tab₃)) s₃.index tru) ∷ []) (join_form b (get_or (forms (take s₃.count tab₃)) j tru) (get_or (forms (take s₃.count tab₃)) s₃.index tru)) a₄) where
          d₃ : Done tab n tab₃ ((S ∷ next_spine b A S) ++ (Y ∷ [])) S s₁.index s₃.count
          d₃ = done-still asked.0 d₂ (k₂ ∙ k₁) (was-added both_is e₃)

          last-is : Answer tab₃ s₃.count tab₄ (Z ∷ []) Z a₄
          last-is = answer-is (ap₂ (λ x y. join_form b x y) (done_at asked.0 d₃ (k₃ ∙ k₂ ∙ k₁) j asked.1.1.1) (was-added both_is e₃).is) w₄

          inside : ((S ∷ next_spine b A S) ++ (Y ∷ [])) ++ (Z ∷ []) ⊆ All
          inside = sub-both {j = (S ∷ next_spine b A S) ++ (Y ∷ [])} both-in (sub-one in-second)

          outside : All ⊆ ((S ∷ next_spine b A S) ++ (Y ∷ [])) ++ (Z ∷ [])
          outside = sub-cons in_head (sub-cons (Memᴰ.append_right ((S ∷ next_spine b A S) ++ (Y ∷ [])) in_head) (sub-cons (Memᴰ.append_left (Z ∷ []) (Memᴰ.append_right (S ∷ next_spine b A S) in_head)) (λ x m. Memᴰ.append_left (Z ∷ []) (Memᴰ.append_left (Y ∷ []) (Memᴰ.tail m)))))

          pub plain-full-4 : {tab' : List ℕ} → a₄ ≡ None → Want tab' None
          plain-full-4 e = want (rest-full asked.0 d₃ (k₃ ∙ k₂ ∙ k₁) inside last-is e)

          pub plain-last : {s₄ : Added} → a₄ ≡ Some s₄ → Want tab₄ (Some (record { index = s₁.index; count = s₄.count }))
          plain-last e = want (rest-still asked.0 d₃ (k₃ ∙ k₂ ∙ k₁) inside outside last-is e)

-- AU and ER: the steps of their expansions. Assumes nothing.
use mathlib.Core.Path.{◌≡◌, sym, ap₂, ◌∙◌, subst}
use mathlib.Core.Bool.{Bool, not}
use mathlib.Core.List.Memᴰ
use mathlib.Core.List.{List, [], ◌∷◌, ◌++◌}
use Prim.Native.Nat.{ℕ, ◌<◌}
use native.Mathlib.Omega.{arith}
use lib.ListN.{length, get_or, take}
use Rattle.ctl.specs.Formula.{Form, tru}
use Rattle.ctl.specs.Closure.{spine}
use Rattle.members.specs.Members.{forms, form_by}
use Rattle.members.specs.Grown.{Ready, Done, Answer}
use Rattle.expansion.specs.Operators.{next_form, join_form, unit_form, next_spine, strong_form, both_joins, first_join, step_form, step_parts, strong_tag}
use Rattle.members.proofs.StepLaws.{was-added, ◌⊆◌, sub-one, sub-cons, sub-both, sub-left, answer-is, answer-then, done_at, done-then, done-still, ready-then, first-full, rest-full, rest-still, step_then}
use Rattle.expansion.proofs.EachLaws.{in_head, in-second}
use Rattle.expansion.proofs.UntilLaws.{strong-spine, strong-made}
use Rattle.members.specs.declared.Added.{Added}
use Rattle.std.proofs.Common.{Option, Some, None}

module _ {tab : List ℕ} {n : ℕ} (b : Bool) {i j k : ℕ} (asked : Ready tab n × ((i < n) × ((j < n) × (k < n)))) where
  abbrev p : Form
  p = get_or (forms (take n tab)) i tru

  abbrev q : Form
  q = get_or (forms (take n tab)) j tru

  abbrev x : Form
  x = get_or (forms (take n tab)) k tru

  pub joins-full : {tab₁ tab' : List ℕ} {a : Option Added} → Answer tab n tab₁ (first_join b p x ∷ []) (first_join b p x) a → a ≡ None → Answer tab n tab' (both_joins b p q x) (join_form b q (first_join b p x)) None
  joins-full w e = first-full (sub-one in_head) w e

  pub joins-asks : {tab₁ : List ℕ} {a : Option Added} {s : Added} → Answer tab n tab₁ (first_join b p x ∷ []) (first_join b p x) a → a ≡ Some s → length tab₁ ≡ length tab → Ready tab₁ s.count × ((j < s.count) × (s.index < s.count))
  joins-asks w e k = let s = step_then asked.0 w e k in (s.ready, (omega (arith, s.up, asked.1.1.0), s.below))

  pub joins-last : {tab₁ : List ℕ} {i₁ n₁ : ℕ} → Done tab n tab₁ (first_join b p x ∷ []) (first_join b p x) i₁ n₁ → length tab₁ ≡ length tab → {tab₂ : List ℕ} {a : Option Added}
      → Answer tab₁ n₁ tab₂ (join_form b (get_or (forms (take n₁ tab₁)) j tru) (get_or (forms (take n₁ tab₁)) i₁ tru) ∷ []) (join_form b (get_or (forms (take n₁ tab₁)) j tru) (get_or (forms (take n₁ tab₁)) i₁ tru)) a
      → Answer tab n tab₂ (both_joins b p q x) (join_form b q (first_join b p x)) a
  joins-last d e w = answer-then asked.0 d e (answer-is (ap₂ (λ x y. join_form b x y) (done_at asked.0 d e j asked.1.1.0) d.is) w)

module _ {tab : List ℕ} {n : ℕ} (b : Bool) {A i : ℕ} (asked : Ready tab n × ((A < 65536) × (i < n))) where
  abbrev s : Form
  s = get_or (forms (take n tab)) i tru

  abbrev U : Form
  U = unit_form (not b)

  abbrev Step : List ℕ → Option Added → Type 0
  Step tab' a = Answer tab n tab' (step_parts b A s) (step_form b A s) a

  module _ {tab₁ : List ℕ} {a₁ : Option Added} (w₁ : Answer tab n tab₁ (U ∷ []) U a₁) where
    pub step-asks : {s₁ : Added} → a₁ ≡ Some s₁ → length tab₁ ≡ length tab → Ready tab₁ s₁.count × ((A < 65536) × (s₁.index < s₁.count))
    step-asks e k = let s = step_then asked.0 w₁ e k in (s.ready, (asked.1.0, s.below))

    pub step-full : {tab' : List ℕ} → a₁ ≡ None → Step tab' None
    unfolding step_parts
    step-full e = first-full (sub-one in_head) w₁ e

    module _ {s₁ : Added} (e₁ : a₁ ≡ Some s₁) (k₁ : length tab₁ ≡ length tab) {tab₂ : List ℕ} {a₂ : Option Added}
        (w₂ : Answer tab₁ s₁.count tab₂ (next_spine b A (get_or (forms (take s₁.count tab₁)) s₁.index tru)) (next_form b A (get_or (forms (take s₁.count tab₁)) s₁.index tru)) a₂) where
      d₁ : Done tab n tab₁ (U ∷ []) U s₁.index s₁.count
      d₁ = was-added w₁ e₁

      first-is : Answer tab₁ s₁.count tab₂ (next_spine b A U) (next_form b A U) a₂
      first-is = subst (λ x. Answer tab₁ s₁.count tab₂ (next_spine b A x) (next_form b A x) a₂) d₁.is w₂

      pub step-asks-2 : {s₂ : Added} → a₂ ≡ Some s₂ → length tab₂ ≡ length tab₁ → Ready tab₂ s₂.count × ((A < 65536) × (i < s₂.count))
      step-asks-2 e k =
          let s = step_then asked.0 w₁ e₁ k₁ in
          let t = step_then s.ready w₂ e k in
          (t.ready, (asked.1.0, omega (arith, s.up, t.up, asked.1.1)))

      pub step-full-2 : {tab' : List ℕ} → a₂ ≡ None → Step tab' None
      unfolding step_parts
      step-full-2 e = rest-full asked.0 d₁ k₁ (λ x m. Memᴰ.append_left (step_form b A s ∷ []) (Memᴰ.append_left (next_spine (not b) A s) m)) first-is e

      module _ {s₂ : Added} (e₂ : a₂ ≡ Some s₂) (k₂ : length tab₂ ≡ length tab₁) {tab₃ : List ℕ} {a₃ : Option Added}
          (w₃ : Answer tab₂ s₂.count tab₃ (next_spine (not b) A (get_or (forms (take s₂.count tab₂)) i tru)) (next_form (not b) A (get_or (forms (take s₂.count tab₂)) i tru)) a₃) where
        d₂ : Done tab n tab₂ (U ∷ next_spine b A U) (next_form b A U) s₂.index s₂.count
        d₂ = done-then asked.0 d₁ k₁ (was-added first-is e₂)

        second_is : Answer tab₂ s₂.count tab₃ (next_spine (not b) A s) (next_form (not b) A s) a₃
        second_is = subst (λ x. Answer tab₂ s₂.count tab₃ (next_spine (not b) A x) (next_form (not b) A x) a₃) (done_at asked.0 d₂ (k₂ ∙ k₁) i asked.1.1) w₃

        pub step-asks-3 : {s₃ : Added} → a₃ ≡ Some s₃ → length tab₃ ≡ length tab₂ → Ready tab₃ s₃.count × ((s₂.index < s₃.count) × (s₃.index < s₃.count))
        step-asks-3 e k =
            let s = step_then asked.0 w₁ e₁ k₁ in
            let t = step_then s.ready w₂ e₂ k₂ in
            let u = step_then t.ready w₃ e k in
            (u.ready, (omega (arith, t.below, u.up), u.below))

        pub step-full-3 : {tab' : List ℕ} → a₃ ≡ None → Step tab' None
        unfolding step_parts
        step-full-3 e = rest-full asked.0 d₂ (k₂ ∙ k₁) (λ x m. Memᴰ.append_left (step_form b A s ∷ []) m) second_is e

        pub step-last : {s₃ : Added} → a₃ ≡ Some s₃ → length tab₃ ≡ length tab₂ → {tab₄ : List ℕ} {a₄ : Option Added}
            → Answer tab₃ s₃.count tab₄ (join_form (not b) (get_or (forms (take s₃.count tab₃)) s₂.index tru) (get_or (forms (take s₃.count tab₃)) s₃.index tru) ∷ []) (join_form (not b) (get_or (forms (take s₃.count tab₃)) s₂.index tru) (get_or (forms (take s₃.count tab₃)) s₃.index tru)) a₄
            → Step tab₄ a₄
        unfolding step_parts
        step-last e₃ k₃ w =
            let d = was-added second_is e₃ in
            answer-then asked.0 (done-then asked.0 d₂ (k₂ ∙ k₁) d) (k₃ ∙ k₂ ∙ k₁)
            (answer-is (ap₂ (λ x y. join_form (not b) x y) (done_at (ready-then asked.0 d₂ (k₂ ∙ k₁)) d k₃ s₂.index (was-added first-is e₂).below ∙ (was-added first-is e₂).is) d.is) w)

-- ---- AU and ER

module _ {tab : List ℕ} {n : ℕ} (b : Bool) {A i j : ℕ} (asked : Ready tab n × ((A < 65536) × ((i < n) × (j < n)))) where
  abbrev p' : Form
  p' = get_or (forms (take n tab)) i tru

  abbrev q' : Form
  q' = get_or (forms (take n tab)) j tru

  abbrev S : Form
  S = strong_form b A p' q'

  abbrev C : Form
  C = step_form b A S

  abbrev V' : Form
  V' = unit_form (not b)

  abbrev Y : Form
  Y = first_join b p' C

  abbrev Z : Form
  Z = join_form b q' Y

  abbrev N : List Form
  N = next_spine b A V' ++ next_spine (not b) A S

  abbrev All : List Form
  All = S ∷ (Z ∷ (Y ∷ (C ∷ (V' ∷ N))))

  abbrev Want : List ℕ → Option Added → Type 0
  Want tab' a = Answer tab n tab' (spine S) S a

  want : {tab' : List ℕ} {a : Option Added} → Answer tab n tab' All S a → Want tab' a
  want {tab'} {a} w = subst (λ l. Answer tab n tab' l S a) (sym (strong-spine b A p' q')) w

  parts_in : step_parts b A S ⊆ All
  unfolding step_parts
  parts_in = sub-both {j = (V' ∷ next_spine b A V') ++ next_spine (not b) A S}
      (λ x m. Memᴰ.tail (Memᴰ.tail (Memᴰ.tail (Memᴰ.tail m)))) (sub-one (Memᴰ.tail (Memᴰ.tail in-second)))

  parts_out : (C ∷ (V' ∷ N)) ⊆ step_parts b A S
  unfolding step_parts
  parts_out = sub-cons (Memᴰ.append_right ((V' ∷ next_spine b A V') ++ next_spine (not b) A S) in_head) (sub-left ((V' ∷ next_spine b A V') ++ next_spine (not b) A S) (C ∷ []))

  module _ {t : ℕ} (tag : t ≡ strong_tag b) {tab₁ : List ℕ} {a₁ : Option Added} (made : Answer tab n tab₁ (form_by t A p' q' ∷ []) (form_by t A p' q') a₁) where
    w₁ : Answer tab n tab₁ (S ∷ []) S a₁
    w₁ = strong-made b t A p' q' tag made

    pub strong-asks : {s₁ : Added} → a₁ ≡ Some s₁ → length tab₁ ≡ length tab → Ready tab₁ s₁.count × ((A < 65536) × (s₁.index < s₁.count))
    strong-asks e k = let s = step_then asked.0 w₁ e k in (s.ready, (asked.1.0, s.below))

    pub strong-full : {tab' : List ℕ} → a₁ ≡ None → Want tab' None
    strong-full e = want (first-full (sub-one in_head) w₁ e)

    module _ {s₁ : Added} (e₁ : a₁ ≡ Some s₁) (k₁ : length tab₁ ≡ length tab) {tab₂ : List ℕ} {a₂ : Option Added}
        (w₂ : Answer tab₁ s₁.count tab₂ (step_parts b A (get_or (forms (take s₁.count tab₁)) s₁.index tru)) (step_form b A (get_or (forms (take s₁.count tab₁)) s₁.index tru)) a₂) where
      done : Done tab n tab₁ (S ∷ []) S s₁.index s₁.count
      done = was-added w₁ e₁

      step_is : Answer tab₁ s₁.count tab₂ (step_parts b A S) C a₂
      step_is = subst (λ x. Answer tab₁ s₁.count tab₂ (step_parts b A x) (step_form b A x) a₂) done.is w₂

      pub strong-asks-2 : {s₂ : Added} → a₂ ≡ Some s₂ → length tab₂ ≡ length tab₁ → Ready tab₂ s₂.count × ((i < s₂.count) × ((j < s₂.count) × (s₂.index < s₂.count)))
      strong-asks-2 e k =
          let s = step_then asked.0 w₁ e₁ k₁ in
          let t = step_then s.ready w₂ e k in
          (t.ready, (omega (arith, s.up, t.up, asked.1.1.0), (omega (arith, s.up, t.up, asked.1.1.1), t.below)))

      pub strong-full-2 : {tab' : List ℕ} → a₂ ≡ None → Want tab' None
      strong-full-2 e = want (rest-full asked.0 done k₁ (sub-cons in_head parts_in) step_is e)

      module _ {s₂ : Added} (e₂ : a₂ ≡ Some s₂) (k₂ : length tab₂ ≡ length tab₁) {tab₃ : List ℕ} {a : Option Added}
          (w : Answer tab₂ s₂.count tab₃ (both_joins b (get_or (forms (take s₂.count tab₂)) i tru) (get_or (forms (take s₂.count tab₂)) j tru) (get_or (forms (take s₂.count tab₂)) s₂.index tru))
          (join_form b (get_or (forms (take s₂.count tab₂)) j tru) (first_join b (get_or (forms (take s₂.count tab₂)) i tru) (get_or (forms (take s₂.count tab₂)) s₂.index tru))) a) where
        done-2 : Done tab n tab₂ (S ∷ step_parts b A S) S s₁.index s₂.count
        done-2 = done-still asked.0 done k₁ (was-added step_is e₂)

        joined : Answer tab₂ s₂.count tab₃ (Y ∷ (Z ∷ [])) Z a
        joined = subst (λ x. Answer tab₂ s₂.count tab₃ (both_joins b p' q' x) (join_form b q' (first_join b p' x)) a) (was-added step_is e₂).is
            (subst (λ x. Answer tab₂ s₂.count tab₃ (both_joins b x q' (get_or (forms (take s₂.count tab₂)) s₂.index tru)) (join_form b q' (first_join b x (get_or (forms (take s₂.count tab₂)) s₂.index tru))) a) (done_at asked.0 done-2 (k₂ ∙ k₁) i asked.1.1.0)
            (subst (λ x. Answer tab₂ s₂.count tab₃ (both_joins b (get_or (forms (take s₂.count tab₂)) i tru) x (get_or (forms (take s₂.count tab₂)) s₂.index tru)) (join_form b x (first_join b (get_or (forms (take s₂.count tab₂)) i tru) (get_or (forms (take s₂.count tab₂)) s₂.index tru))) a) (done_at asked.0 done-2 (k₂ ∙ k₁) j asked.1.1.1) w))

        inside : (S ∷ step_parts b A S) ++ (Y ∷ (Z ∷ [])) ⊆ All
        inside = sub-both {j = S ∷ step_parts b A S} (sub-cons in_head parts_in) (sub-cons (Memᴰ.tail in-second) (sub-one in-second))

        outside : All ⊆ (S ∷ step_parts b A S) ++ (Y ∷ (Z ∷ []))
        outside = sub-cons in_head (sub-cons (Memᴰ.append_right (S ∷ step_parts b A S) in-second) (sub-cons (Memᴰ.append_right (S ∷ step_parts b A S) in_head) (λ x m. Memᴰ.append_left (Y ∷ (Z ∷ [])) (Memᴰ.tail (parts_out x m)))))

        pub strong-full-3 : {tab' : List ℕ} → a ≡ None → Want tab' None
        strong-full-3 e = want (rest-full asked.0 done-2 (k₂ ∙ k₁) inside joined e)

        pub strong-last : {s₃ : Added} → a ≡ Some s₃ → Want tab₃ (Some (record { index = s₁.index; count = s₃.count }))
        strong-last e = want (rest-still asked.0 done-2 (k₂ ∙ k₁) inside outside joined e)

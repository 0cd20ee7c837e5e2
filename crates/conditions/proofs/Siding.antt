-- A condition joins the conditions of its field. Assumes nothing.
use mathlib.Core.Path.{◌≡◌, refl, sym, ap, ap₂, ◌∙◌}
use mathlib.Core.Bool.{Bool, true, false, ◌&&◌, ◌||◌, and-false, or-false, true≢false}
use mathlib.Core.List.{List}
use mathlib.Core.Logic.{⊎_elim}
use Prim.Native.Nat.{ℕ, ◌+◌, ◌*◌, ◌%◌, ◌^◌, ◌≤◌, ◌<◌}
use native.Mathlib.Omega.{arith}
use lib.Bits.{bit_or}
use lib.Dec.{eqb}
use lib.ListN.{length, get_or, set}
use lib.Seq.{get_or-set_same, get_or-set_other}
use borrow.Author.Tests.{eq-eqb, ne_eqb}
use Rattle.ctl.proofs.BoolLaws.{false_of}
use Rattle.wordset.proofs.BelowLaws.{same_or, top}
use Rattle.wordset.proofs.BitLaws.{bit-none, bit-or, bit-pow, shl_one}
use Rattle.wordset.specs.Word.{bit}
use Rattle.truth.specs.Blocks.{has}
use Rattle.truth.specs.Truths.{Truths, true_at}
use Rattle.truth.proofs.TruthLaws.{truth-bit}
use Rattle.conditions.specs.Entries.{side}
use Rattle.std.specs.Prelude.{Option, Some, None}
use Rattle.conditions.specs.Conditions.{OfPlace, clash, reverse, selects}
use Rattle.conditions.specs.Putting.{Put, Sided}
use Rattle.conditions.specs.declared.Condition.{Condition}
use Rattle.conditions.specs.declared.Rule.{Rule}
use Rattle.conditions.proofs.EntryLaws.{entry-before}
use Rattle.conditions.proofs.RuleLaws.{none-clash}

-- no field has a condition yet
pub side-start : {ms ln : List ℕ} {w : ℕ} {cw : List ℕ} → ((m : ℕ) → m < 8 → get_or cw (w * 64 + m) 0 ≡ 0) → Sided ms ln w cw 0
side-start f = record { low = λ m e l b. absurd (true≢false (sym b ∙ ap (λ (x : ℕ). bit x e) (f m l) ∙ bit-none e)); each = λ e l. absurd (omega arith) }

-- the entries other than c and c + 32 are as they were
abbrev Kept : ℕ → ℕ → List ℕ → List ℕ → Type 0
Kept w c cw cw' = (e t : ℕ) → e < 64 → t < w * 64 → (e ≡ c → ⊥) → (e ≡ c + 32 → ⊥) → has w cw' e t ≡ has w cw e t

-- the clash of a condition by parts
abbrev demands : List ℕ → List ℕ → Condition → ℕ → Bool
demands ms ln d t = selects d.rule (true_at ms ln d.whole t) (true_at ms ln d.part t)

abbrev refuses : List ℕ → List ℕ → Condition → ℕ → Bool
refuses ms ln d t = selects (reverse d.rule) (true_at ms ln d.whole t) (true_at ms ln d.part t)

clash-parts : (ms ln : List ℕ) (d : Condition) (m t u : ℕ) → clash ms ln (Some d) m t u ≡ (eqb d.field m && (demands ms ln d t && refuses ms ln d u))
unfolding clash
clash-parts ms ln d m t u = refl

-- what is known of condition e
abbrev Each : List ℕ → List ℕ → ℕ → List ℕ → ℕ → Type 0
Each ms ln w cw e =
    (d : Option Condition) × OfPlace ms ln e d × ((m : ℕ) → m < 8 → (t u : ℕ) → t < w * 64 → u < w * 64 → (bit (side w cw m) e && (has w cw (e + 32) t && has w cw e u)) ≡ clash ms ln d m t u)

module _ {ms ln : List ℕ} {w c : ℕ} (h : c < 24) {r : Option Condition} (o : OfPlace ms ln c r) where
  module _ {cw cw' : List ℕ} (k : Kept w c cw cw') where
    side-on : ((m e : ℕ) → m < 8 → e < c → bit (side w cw' m) e ≡ bit (side w cw m) e)
        → ((m e : ℕ) → m < 8 → bit (side w cw' m) e ≡ true → e < c + 1)
        → ((m : ℕ) → m < 8 → (t u : ℕ) → t < w * 64 → u < w * 64 → (bit (side w cw' m) c && (has w cw' (c + 32) t && has w cw' c u)) ≡ clash ms ln r m t u)
        → Sided ms ln w cw c → Sided ms ln w cw' (c + 1)
    side-on f g n s = record { low = g; each = λ e l. ⊎_elim (λ q. new e q) (λ q. old e q) (top e c (omega arith)) }
      where
        new : (e : ℕ) → e ≡ c → Each ms ln w cw' e
        new e q = rw q (r, o, n)

        old : (e : ℕ) → e < c → Each ms ln w cw' e
        old e q =
            let z = s.each e q in (
              z.0,
              z.1,
              λ m l t u a b. ap₂ ◌&&◌ (f m e l q) (ap₂ ◌&&◌ (k (e + 32) t (omega arith) a (λ x. omega (arith, x, q, h)) (λ x. omega (arith, x, q))) (k e u (omega arith) b (λ x. omega (arith, x, q)) (λ x. omega (arith, x, q))))
                  ∙ z.2 m l t u a b,
            )

    -- the sides are as they were, and nothing clashes
    side-stays : ((m : ℕ) → m < 8 → side w cw' m ≡ side w cw m) → ((m : ℕ) → m < 8 → (t u : ℕ) → t < w * 64 → u < w * 64 → clash ms ln r m t u ≡ false)
        → Sided ms ln w cw c → Sided ms ln w cw' (c + 1)
    side-stays f n s =
        side-on (λ m e l q. ap (λ (x : ℕ). bit x e) (f m l)) (λ m e l b. (let z = s.low m e l (ap (λ (x : ℕ). bit x e) (sym (f m l)) ∙ b) in omega arith))
        (λ m l t u a b. ap (λ x. x && (has w cw' (c + 32) t && has w cw' c u)) (ap (λ (x : ℕ). bit x c) (f m l) ∙ off m l) ∙ sym (n m l t u a b)) s
      where
        off : (m : ℕ) → m < 8 → bit (side w cw m) c ≡ false
        off m l = false_of (bit (side w cw m) c) (λ b. (let z = s.low m c l b in omega arith))

  -- there is none
  pub side-none : {cw : List ℕ} → r ≡ None → Sided ms ln w cw c → Sided ms ln w cw (c + 1)
  side-none e = side-stays (λ e t l a f g. refl) (λ m l. refl) (λ m l t u a b. rw e (none-clash ms ln m t u))

module _ {ms ln : List ℕ} {w c : ℕ} (h : c < 24) {d : Condition} (o : OfPlace ms ln c (Some d)) where
  module _ {tw : List ℕ} (tr : Truths ms ln w tw) {r : Rule} (er : r ≡ reverse d.rule) {cw₀ cw₁ : List ℕ}
      (p : Put (λ t. selects r (has w tw d.whole t) (has w tw d.part t)) w c cw₀ cw₁) where
    -- what the blocks of the members say is their truth
    blocks : (r : Rule) (t : ℕ) → t < w * 64 → selects r (has w tw d.whole t) (has w tw d.part t) ≡ selects r (true_at ms ln d.whole t) (true_at ms ln d.part t)
    blocks r t l = ap₂ (selects r) (truth-bit tr d.whole o.inside.1 t l) (truth-bit tr d.part o.inside.2 t l)

    refused : (u : ℕ) → u < w * 64 → has w cw₁ c u ≡ refuses ms ln d u
    refused u l = p.is u l ∙ blocks r u l ∙ ap (λ x. selects x (true_at ms ln d.whole u) (true_at ms ln d.part u)) er

    kept : Kept w c cw₀ cw₁
    kept e t l a f g = p.entries e t f a

    -- no type refuses it
    pub side-refused : ((t : ℕ) → t < w * 64 → has w cw₁ c t ≡ false) → Sided ms ln w cw₀ c → Sided ms ln w cw₁ (c + 1)
    side-refused n =
        side-stays h o kept (λ m l. p.sides m)
        (λ m l t u a b. clash-parts ms ln d m t u
        ∙ ap (λ x. eqb d.field m && (demands ms ln d t && x)) (sym (refused u b) ∙ n u b)
        ∙ ap (λ x. eqb d.field m && x) (and-false (demands ms ln d t))
        ∙ and-false (eqb d.field m))

    module _ {cw₂ : List ℕ} (p₂ : Put (λ t. selects d.rule (has w tw d.whole t) (has w tw d.part t)) w (c + 32) cw₁ cw₂) where
      demanded : (t : ℕ) → t < w * 64 → has w cw₂ (c + 32) t ≡ demands ms ln d t
      demanded t l = p₂.is t l ∙ blocks d.rule t l

      kept₂ : Kept w c cw₀ cw₂
      kept₂ e t l a f g = p₂.entries e t g a ∙ kept e t l a f g

      sides₂ : (m : ℕ) → side w cw₂ m ≡ side w cw₀ m
      sides₂ m = p₂.sides m ∙ p.sides m

      -- no type demands it
      pub side-demanded : ((t : ℕ) → t < w * 64 → has w cw₂ (c + 32) t ≡ false) → Sided ms ln w cw₀ c → Sided ms ln w cw₂ (c + 1)
      side-demanded n =
          side-stays h o kept₂ (λ m l. sides₂ m)
          (λ m l t u a b. clash-parts ms ln d m t u
          ∙ ap (λ x. eqb d.field m && (x && refuses ms ln d u)) (sym (demanded t a) ∙ n t a)
          ∙ and-false (eqb d.field m))

      -- it joins the side of its field
      pub side-joins : w * 64 + 16 ≤ length cw₂ → Sided ms ln w cw₀ c
          → Sided ms ln w (set cw₂ (w * 64 + d.field) (bit_or (get_or cw₂ (w * 64 + d.field) 0) ((1 * 2 ^ c) % 2 ^ 64))) (c + 1)
      side-joins room s = side-on h o kept₃ (λ m e l q. same m e (λ x. omega (arith, x, q)) l) grown joined s
        where
          x : ℕ
          x = bit_or (get_or cw₂ (w * 64 + d.field) 0) ((1 * 2 ^ c) % 2 ^ 64)

          cw₃ : List ℕ
          cw₃ = set cw₂ (w * 64 + d.field) x

          set_other : (q : ℕ) → (q ≡ w * 64 + d.field → ⊥) → get_or cw₃ q 0 ≡ get_or cw₂ q 0
          set_other q f = get_or-set_other cw₂ (w * 64 + d.field) q x 0 f

          entries : (e t : ℕ) → e < 64 → t < w * 64 → has w cw₃ e t ≡ has w cw₂ e t
          entries e t l a = entry-before w cw₂ (w * 64 + d.field) x e t (omega arith) l a

          kept₃ : Kept w c cw₀ cw₃
          kept₃ e t l a f g = entries e t l a ∙ kept₂ e t l a f g

          bits : (e : ℕ) → bit x e ≡ (bit (side w cw₀ d.field) e || eqb e c)
          bits e =
              bit-or (get_or cw₂ (w * 64 + d.field) 0) ((1 * 2 ^ c) % 2 ^ 64) e
              ∙ ap₂ ◌||◌ (ap (λ (n : ℕ). bit n e) (sides₂ d.field)) (ap (λ (n : ℕ). bit n e) (shl_one c (omega arith)) ∙ bit-pow c e)

          at : side w cw₃ d.field ≡ x
          at = get_or-set_same cw₂ (w * 64 + d.field) x 0 (let q = o.inside.0 in omega arith)

          own : (m e : ℕ) → m ≡ d.field → bit (side w cw₃ m) e ≡ (bit (side w cw₀ m) e || eqb e c)
          own m e q = rw q (ap (λ (n : ℕ). bit n e) at ∙ bits e)

          else : (m e : ℕ) → (m ≡ d.field → ⊥) → bit (side w cw₃ m) e ≡ bit (side w cw₀ m) e
          else m e f = ap (λ (n : ℕ). bit n e) (set_other (w * 64 + m) (λ q. f (omega arith)) ∙ sides₂ m)

          same : (m e : ℕ) → (e ≡ c → ⊥) → m < 8 → bit (side w cw₃ m) e ≡ bit (side w cw₀ m) e
          same m e n l = ⊎_elim (λ q. own m e q ∙ ap (λ b. bit (side w cw₀ m) e || b) (ne_eqb e c n) ∙ or-false (bit (side w cw₀ m) e)) (else m e) (same_or m d.field)

          grown : (m e : ℕ) → m < 8 → bit (side w cw₃ m) e ≡ true → e < c + 1
          grown m e l b = ⊎_elim (λ q. omega (arith, q)) (λ n. (let z = s.low m e l (sym (same m e n l) ∙ b) in omega arith)) (same_or e c)

          off : (m : ℕ) → m < 8 → bit (side w cw₀ m) c ≡ false
          off m l = false_of (bit (side w cw₀ m) c) (λ b. (let z = s.low m c l b in omega arith))

          side-bit : (m : ℕ) → m < 8 → bit (side w cw₃ m) c ≡ eqb d.field m
          side-bit m l =
              ⊎_elim (λ q. own m c q ∙ ap₂ ◌||◌ (off m l) (eq-eqb c c refl) ∙ sym (eq-eqb d.field m (sym q)))
              (λ n. else m c n ∙ off m l ∙ sym (ne_eqb d.field m (λ q. n (sym q)))) (same_or m d.field)

          below : (u : ℕ) → u < w * 64 → has w cw₂ c u ≡ has w cw₁ c u
          below u b = p₂.entries c u (λ q. omega (arith, q)) b

          joined : (m : ℕ) → m < 8 → (t u : ℕ) → t < w * 64 → u < w * 64 → (bit (side w cw₃ m) c && (has w cw₃ (c + 32) t && has w cw₃ c u)) ≡ clash ms ln (Some d) m t u
          joined m l t u a b =
              ap₂ ◌&&◌ (side-bit m l) (ap₂ ◌&&◌ (entries (c + 32) t (omega arith) a ∙ demanded t a) (entries c u (omega arith) b ∙ below u b ∙ refused u b))
              ∙ sym (clash-parts ms ln d m t u)

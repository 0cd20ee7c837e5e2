-- One rank of a search: who leaves the copy. Assumes nothing.
use mathlib.Core.Path.{◌≡◌, refl, sym, ap, ap₂, ◌∙◌}
use mathlib.Core.Bool.{Bool, true, false, not, ◌&&◌, and-true, and-false, and_assoc}
use mathlib.Core.List.{List}
use Prim.Native.Nat.{ℕ, ◌*◌, ◌≤◌, ◌<◌}
use lib.ListN.{length}
use Rattle.ctl.specs.Modes.{has_mode}
use Rattle.wordset.proofs.BelowLaws.{any-ext, any_false, any_none}
use Rattle.wordset.specs.Below.{any_below}
use Rattle.wordset.specs.Words.{member, minus, packed}
use Rattle.members.specs.Members.{arg_w, left_w, tag_w}
use Rattle.truth.specs.Blocks.{has}
use Rattle.truth.proofs.ListWords.{held, minus-member}
use Rattle.conditions.specs.Entries.{linked_to, side}
use Rattle.tableau.specs.Families.{has_nexts, leaving, ranked, wants}
use Rattle.tableau.proofs.NeedFits.{wants-au, wants-eu}

module _ (w : ℕ) (tw cw ns src copy : List ℕ) (x : ℕ) where
  abbrev Leaves : ℕ → Bool
  Leaves t = leaving w tw cw ns src copy x t

  abbrev Wants : ℕ → Bool
  Wants t = wants w tw cw ns (member (ranked w src copy)) x t

  -- copy' is the copy after the rank, and b says whether any left
  abbrev After : List ℕ → Bool → Type 0
  After copy' b = ((t : ℕ) → t < w * 64 → member copy' t ≡ (member copy t && not (Leaves t))) × (b ≡ any_below (w * 64) (λ t. member copy t && Leaves t))

  -- those leave that pass P, and they are the ones that have to
  left_by : (P : ℕ → Bool) → ((t : ℕ) → t < w * 64 → (member copy t && P t) ≡ (member copy t && Leaves t)) → (copy' : List ℕ) (b : Bool) → ((t : ℕ) → t < w * 64 → member copy' t ≡ (member copy t && not (P t)))
      → b ≡ any_below (w * 64) (λ t. member copy t && P t) → After copy' b
  left_by P f copy' b g e = ((λ t l. g t l ∙ same (member copy t) (P t) (Leaves t) (f t l)), e ∙ any-ext _ _ (w * 64) f)
    where
      same : (c p q : Bool) → (c && p) ≡ (c && q) → (c && not p) ≡ (c && not q)
      same true p q e = ap not e
      same false p q e = refl

  module _ {p : ℕ} (ep : p ≡ left_w x) where
    here : (t : ℕ) → has w tw p t ≡ has w tw (left_w x) t
    here t = ap (λ j. has w tw j t) ep

    -- none of the copy has the left operand
    pub none-leave : any_below (w * 64) (λ t. member copy t && has w tw p t) ≡ false → After copy false
    none-leave e = left_by (λ t. false) none copy false (λ t l. sym (and-true (member copy t))) (sym (any_none (λ t. member copy t && false) (w * 64) (λ t l. and-false (member copy t))))
      where
        none : (t : ℕ) → t < w * 64 → (member copy t && false) ≡ (member copy t && Leaves t)
        none t l =
            and-false (member copy t) ∙ ap (λ b. b && Wants t) (sym (any_false (λ t. member copy t && has w tw p t) (w * 64) e t l) ∙ ap (λ h. member copy t && h) (here t)) ∙ and_assoc (member copy t) (has w tw (left_w x) t) (Wants t)

    module _ {g a : ℕ} (eg : g ≡ tag_w x) (ea : a ≡ arg_w x) (room : w ≤ length copy) where
      pub eu-leave : g ≡ 8 → (v₀ v copy' : List ℕ) (b : Bool) → ((t : ℕ) → t < w * 64 → member v₀ t ≡ (member copy t && has w tw p t))
          → ((t : ℕ) → t < w * 64 → member v t ≡ (member v₀ t && not (any_below 16 (λ m. has_mode a m && linked_to w cw (side w cw m) (member (ranked w src copy)) t))))
          → copy' ≡ packed w (λ t. member copy t && not (has w tw p t && not (member v t))) copy → b ≡ any_below (w * 64) (λ t. member copy t && (has w tw p t && not (member v t)))
          → After copy' b
      eu-leave e v₀ v copy' b f₀ f q r =
          left_by (λ t. has w tw p t && not (member v t))
          (λ t l. ap (λ z. member copy t && (has w tw p t && not z)) (f t l ∙ ap₂ (λ y z. y && not z) (f₀ t l) (wants-eu w tw cw ns (member (ranked w src copy)) x t a g eg ea e)) ∙ back (member copy t) (has w tw p t) (Wants t) ∙ ap (λ h. member copy t && (h && Wants t)) (here t))
          copy' b (held (λ t. member copy t && not (has w tw p t && not (member v t))) copy copy' w room q) r
        where
          back : (c h n : Bool) → (c && (h && not ((c && h) && not n))) ≡ (c && (h && n))
          back true true true = refl
          back true true false = refl
          back true false n = refl
          back false h n = refl

      pub au-leave : (g ≡ 8 → ⊥) → (todo₀ todo copy' : List ℕ) (b : Bool) → ((t : ℕ) → t < w * 64 → member todo₀ t ≡ (member copy t && has w tw p t))
          → ((t : ℕ) → t < w * 64 → member todo t ≡ (member todo₀ t && has_nexts w tw cw ns (member (ranked w src copy)) a t)) → copy' ≡ minus w copy todo → b ≡ any_below (w * 64) (member todo)
          → After copy' b
      au-leave e todo₀ todo copy' b f₀ f q r =
          left_by (member todo) (λ t l. sym (own t l) ∙ had t l) copy' b (minus-member copy todo copy' w room q) (r ∙ any-ext (member todo) (λ t. member copy t && member todo t) (w * 64) own)
        where
          had : (t : ℕ) → t < w * 64 → member todo t ≡ (member copy t && Leaves t)
          had t l = f t l ∙ ap₂ (λ y z. y && z) (f₀ t l ∙ ap (λ h. member copy t && h) (here t)) (wants-au w tw cw ns (member (ranked w src copy)) x t a g eg ea e) ∙ and_assoc (member copy t) (has w tw (left_w x) t) (Wants t)

          own : (t : ℕ) → t < w * 64 → member todo t ≡ (member copy t && member todo t)
          own t l = had t l ∙ within (member copy t) (Leaves t) ∙ ap (λ z. member copy t && z) (sym (had t l))
            where
              within : (c n : Bool) → (c && n) ≡ (c && (c && n))
              within true n = refl
              within false n = refl

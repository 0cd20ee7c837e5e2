-- Those that leave a set, since they are linked to no type of another. Assumes nothing.
use mathlib.Core.Path.{◌≡◌, refl, sym, ap, ◌∙◌}
use mathlib.Core.Bool.{Bool, true, false, not, ◌&&◌, and-true}
use mathlib.Core.List.{List}
use Prim.Native.Nat.{ℕ, ◌*◌, ◌^◌, ◌<◌}
use borrow.Author.Tests.{not-true}
use lib.ListN.{get_or}
use Rattle.ctl.proofs.BoolLaws.{and_both, and-make}
use Rattle.wordset.proofs.BelowLaws.{any_false, any-intro, any_none}
use Rattle.wordset.proofs.PackLaws.{packed-ext, packed-self}
use Rattle.wordset.specs.Below.{any_below}
use Rattle.wordset.specs.Word.{bit}
use Rattle.wordset.specs.Words.{member, minus, packed}
use Rattle.image.proofs.Draining.{some}
use Rattle.truth.specs.Blocks.{has}
use Rattle.conditions.specs.Entries.{in_some, linked_by, linked_to, partner}

-- every type is linked to one of Z that refuses nothing
pub free-linked : (w : ℕ) (cw : List ℕ) (a : ℕ) (Z R : ℕ → Bool) → ((u : ℕ) → u < w * 64 → R u ≡ in_some w cw a u) → any_below (w * 64) (λ u. Z u && not (R u)) ≡ true → (t : ℕ) → linked_to w cw a Z t ≡ true
unfolding linked_to linked_by in_some
free-linked w cw a Z R f e t =
    let s = some (w * 64) (λ u. Z u && not (R u)) e in
    let b = and_both (Z s.0) _ s.2 in
    let n : any_below 64 (λ c. bit a c && has w cw c s.0) ≡ false = sym (f s.0 s.1) ∙ not-true _ b.1 in
    any-intro (λ u. Z u && linked_by w cw a t u) (w * 64) s.0 s.1
    (and-make (Z s.0) _ b.0 (ap not (any_none (λ c. bit a c && (has w cw (partner c) t && has w cw c s.0)) 64
    (λ c l. none (bit a c) (has w cw (partner c) t) (has w cw c s.0) (any_false (λ c. bit a c && has w cw c s.0) 64 n c l)))))
  where
    none : (a d e : Bool) → (a && e) ≡ false → (a && (d && e)) ≡ false
    none true true e k = k
    none true false e k = refl
    none false d e k = refl

-- those that pass L leave d
module _ (d : List ℕ) (w : ℕ) (L : ℕ → Bool) where
  -- v has them
  pub these-leave : (v d' : List ℕ) → ((t : ℕ) → t < w * 64 → member v t ≡ L t) → d' ≡ minus w d v → d' ≡ packed w (λ t. member d t && not (L t)) d
  these-leave v d' f q = q ∙ packed-ext (λ t. member d t && not (member v t)) (λ t. member d t && not (L t)) d w (λ t l. ap (λ z. member d t && not z) (f t l))

  -- there are none
  pub none-leave : ((k : ℕ) → k < w → get_or d k 0 < 2 ^ 64) → ((t : ℕ) → t < w * 64 → L t ≡ false) → d ≡ packed w (λ t. member d t && not (L t)) d
  none-leave small f = packed-self d w small ∙ packed-ext (member d) (λ t. member d t && not (L t)) d w (λ t l. sym (ap (λ z. member d t && not z) (f t l) ∙ and-true (member d t)))

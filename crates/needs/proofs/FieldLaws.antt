-- The field of an EX over one field alone, and the fields of all such members. Assumes nothing.
use mathlib.Core.Path.{◌≡◌, sym, ap, ap₂, ◌∙◌}
use mathlib.Core.Bool.{true, false, ◌&&◌, ◌||◌}
use mathlib.Core.List.{List}
use mathlib.Core.Logic.{◌⊎◌, inl, inr}
use Prim.Native.Nat.{ℕ, ◌+◌, ◌^◌, ◌≤◌, ◌<◌}
use native.Mathlib.Numerals.{add-one}
use native.Mathlib.Omega.{arith}
use lib.Bits.{bit_or}
use lib.Dec.{eqb}
use lib.ListN.{get_or}
use borrow.Author.Tests.{eq-eqb, eqb-true, ne_eqb}
use Rattle.ctl.proofs.BoolLaws.{true-T}
use Rattle.ctl.proofs.ListLaws.{below_in}
use Rattle.ctl.proofs.ModeLaws.{single-in}
use Rattle.ctl.specs.Modes.{has_mode, single}
use Rattle.members.proofs.ModeLaws.{mode-bit, mode-one}
use Rattle.members.specs.Members.{arg_w, tag_w}
use Rattle.wordset.proofs.BitLaws.{bit-none, bit-or, bit-pow}
use Rattle.wordset.proofs.CompareLaws.{both_ways}
use Rattle.wordset.specs.Below.{any_below}
use Rattle.needs.specs.Needs.{ex_over}
use Rattle.members.proofs.ModeLaws.{power-same}

none-mode : (m : ℕ) → has_mode 0 m ≡ false
none-mode m = mode-bit 0 m ∙ bit-none m

-- the mode of a set of one mode
pub mode-is : {r a : ℕ} → ((r < 16) × (a ≡ 2 ^ r)) ⊎ ((r ≡ 16) × (single a ≡ true → ⊥)) → (m : ℕ) → m < 16 → a ≡ 2 ^ m → r ≡ m
mode-is {r} (inl k) m h e = let l = k.0 in power-same r m (omega arith) (omega arith) (sym k.1 ∙ e)
mode-is (inr k) m h e = absurd (k.1 (ap single e ∙ true-T (single (2 ^ m)) (single-in {m = m} (below_in h))))

-- ---- one member

abbrev OfField : ℕ → ℕ → Type 0
OfField x r = (f : ℕ) → f < 8 → has_mode r f ≡ (eqb (tag_w x) 6 && eqb (arg_w x) (2 ^ f))

pub field_off : (x : ℕ) → (tag_w x ≡ 6 → ⊥) → OfField x 0
field_off x n f h = none-mode f ∙ sym (ap (λ b. b && eqb (arg_w x) (2 ^ f)) (ne_eqb (tag_w x) 6 n))

module _ (x : ℕ) (g : tag_w x ≡ 6) {a r : ℕ} (ea : a ≡ arg_w x) (m : ((r < 16) × (a ≡ 2 ^ r)) ⊎ ((r ≡ 16) × (single a ≡ true → ⊥))) where
  of-ex : (f : ℕ) → eqb (arg_w x) (2 ^ f) ≡ (eqb (tag_w x) 6 && eqb (arg_w x) (2 ^ f))
  of-ex f = sym (ap (λ b. b && eqb (arg_w x) (2 ^ f)) (eq-eqb (tag_w x) 6 g))

  pub field-on : r < 8 → OfField x a
  field-on h f l =
      let e : a ≡ 2 ^ r = mode-one m (omega arith) in
      ap (λ b. has_mode b f) e ∙ mode-bit (2 ^ r) f ∙ bit-pow r f
      ∙ both_ways (eqb f r) (eqb (arg_w x) (2 ^ f))
      (λ q. eq-eqb _ _ (sym ea ∙ e ∙ ap (λ k. 2 ^ k) (sym (eqb-true f r q))))
      (λ q. eq-eqb f r (sym (mode-is m f (omega arith) (ea ∙ eqb-true _ _ q))))
      ∙ of-ex f

  pub field-none : 8 ≤ r → OfField x 0
  field-none h f l = none-mode f ∙ sym (ne_eqb (arg_w x) (2 ^ f) (λ q. (let e = mode-is m f (omega arith) (ea ∙ q) in omega arith))) ∙ of-ex f

-- ---- all members: the set has the fields of the first i

pub record FieldsSoFar (ms : List ℕ) (i acc : ℕ) : Type 0 where
  pub is : (f : ℕ) → f < 8 → has_mode acc f ≡ any_below i (ex_over ms f)

module _ {ms : List ℕ} where
  pub fields-start : FieldsSoFar ms 0 0
  unfolding any_below
  fields-start = record { is = λ f h. none-mode f }

  pub fields-on : {i acc : ℕ} (r : ℕ) → FieldsSoFar ms i acc → OfField (get_or ms i 0) r → FieldsSoFar ms (i + 1) (bit_or acc r)
  unfolding any_below
  fields-on {i} {acc} r s o = record {
    is = λ f l. mode-bit (bit_or acc r) f ∙ bit-or acc r f ∙ ap₂ ◌||◌ (sym (mode-bit acc f) ∙ s.is f l) (sym (mode-bit r f) ∙ o f l)
        ∙ ap (λ n. any_below n (ex_over ms f)) (sym (add-one i));
  }

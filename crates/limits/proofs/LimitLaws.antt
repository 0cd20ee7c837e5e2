-- Limits in their range, sheets under them, and that a sheet which is accepted stays so under wider ones. Assumes nothing.
use mathlib.Core.Path.{◌≡◌, refl, sym, ap, ◌∙◌}
use mathlib.Core.Bool.{Bool, true, false, cond}
use mathlib.Core.List.{List}
use mathlib.Core.Logic.{◌⊎◌, inl, inr}
use Prim.Native.Nat.{ℕ, ◌≤◌, ◌<◌}
use native.Mathlib.Omega.{arith}
use lib.Dec.{ltb}
use lib.ListN.{length}
use borrow.Author.Tests.{ltb-false}
use Rattle.wordset.proofs.BelowLaws.{lt-or-le}
use Rattle.layout.proofs.UnlinesLaws.{or-none}
use Rattle.sheet.specs.Refusal.{read_refusal}
use Rattle.reader.specs.declared.Reading.{Reading}
use Rattle.refusal.specs.declared.Refusal.{Refusal}
use Rattle.std.specs.Prelude.{Result, Ok, Err}
use Rattle.reader.specs.Reader.{ReadIs, members, places, refusal_of, refusal_within}
use Rattle.reader.proofs.NumberLaws.{within-nine, within_none, within-ten, within-zero}
use Rattle.limits.specs.declared.Limits.{Limits}
use Rattle.limits.specs.Limits.{ReadUnder, Wider, limits_wrong, refusal_under, usual}

-- limits that are in their range
pub record Right (l : Limits) : Type 0 where
  pub lean-some : 1 ≤ l.lean
  pub lean-most : l.lean ≤ 12
  pub closure-some : 16 ≤ l.closure
  pub closure-most : l.closure ≤ 128

pub right-limits : (l : Limits) → limits_wrong l ≡ false → Right l
unfolding limits_wrong
right-limits l e =
    let a = or-none (ltb l.lean 1) _ e in
    let b = or-none (ltb 12 l.lean) _ a.1 in
    let c = or-none (ltb l.closure 16) (ltb 128 l.closure) b.1 in
    record { lean-some = ltb-false _ _ a.0; lean-most = ltb-false _ _ b.0; closure-some = ltb-false _ _ c.0; closure-most = ltb-false _ _ c.1 }

-- without limits the refusal is that of document 01
pub under-usual : (s : List ℕ) → refusal_under usual s ≡ refusal_of s
unfolding refusal_under limits_wrong
under-usual s = refl

pub under-right : (l : Limits) (s : List ℕ) → limits_wrong l ≡ false → refusal_under l s ≡ refusal_within l.closure l.lean s
unfolding refusal_under
under-right l s e = ap (λ b. cond b 19 (refusal_within l.closure l.lean s)) e

module _ (l : Limits) (s : List ℕ) where
  under-wrong : limits_wrong l ≡ true → refusal_under l s ≡ 19
  unfolding refusal_under
  under-wrong e = ap (λ b. cond b 19 (refusal_within l.closure l.lean s)) e

  -- ---- reading

  pub read-wrong : limits_wrong l ≡ true → ReadUnder l s (Err Refusal.Limits)
  read-wrong e = under-wrong e

  pub read_right : (r : Result Reading Refusal) → limits_wrong l ≡ false → ReadIs l.closure l.lean s r → ReadUnder l s r
  read_right (Ok r) e x = (under-right l s e ∙ x.0, x.1)
  read_right (Err k) e x = under-right l s e ∙ x

  -- ---- a sheet that is accepted

  module _ (z : refusal_under l s ≡ 0) where
    pub accepted-limits : limits_wrong l ≡ false
    accepted-limits = go (limits_wrong l) refl
      where
        go : (b : Bool) → limits_wrong l ≡ b → limits_wrong l ≡ false
        go false e = e
        go true e = let y : ◌≡◌ {A = ℕ} 0 19 = sym z ∙ under-wrong e in absurd (omega arith)

    pub accepted-right : Right l
    accepted-right = right-limits l accepted-limits

    pub accepted-within : refusal_within l.closure l.lean s ≡ 0
    accepted-within = sym (under-right l s accepted-limits) ∙ z

    pub accepted-read : read_refusal s ≡ 0
    accepted-read = within-zero l.closure l.lean s accepted-within

    pub accepted-closure : length (members s) ≤ l.closure
    accepted-closure = go (lt-or-le l.closure (length (members s)))
      where
        go : (l.closure < length (members s)) ⊎ (length (members s) ≤ l.closure) → length (members s) ≤ l.closure
        go (inl h) = let y : ◌≡◌ {A = ℕ} 0 9 = sym accepted-within ∙ within-nine l.closure l.lean s accepted-read h in absurd (omega arith)
        go (inr h) = h

    pub accepted-lean : length (places s) ≤ l.lean
    accepted-lean = go (lt-or-le l.lean (length (places s)))
      where
        go : (l.lean < length (places s)) ⊎ (length (places s) ≤ l.lean) → length (places s) ≤ l.lean
        go (inl h) = let y : ◌≡◌ {A = ℕ} 0 10 = sym accepted-within ∙ within-ten l.closure l.lean s accepted-read accepted-closure h in absurd (omega arith)
        go (inr h) = h

    -- it is accepted under wider limits too
    pub wider-accepted : {m : Limits} → Wider l m → refusal_under m s ≡ 0
    wider-accepted {m} w =
        let a = accepted-closure in
        let b = accepted-lean in
        let c = w.lean in
        let d = w.closure in
        under-right m s w.right ∙ within_none m.closure m.lean s accepted-read (omega arith) (omega arith)

-- Loops over modes: the sides behind the entries are turned, and the entries of each side summed. Assumes nothing.
use mathlib.Core.Path.{◌≡◌, sym, ap, ◌∙◌}
use mathlib.Core.Bool.{true}
use mathlib.Core.List.{List}
use mathlib.Core.Logic.{⊎_elim}
use Prim.Native.Nat.{ℕ, ◌+◌, ◌*◌, ◌%◌, ◌^◌, ◌<◌}
use native.Mathlib.Omega.{arith}
use lib.ListN.{get_or}
use Rattle.wordset.proofs.BelowLaws.{top}
use Rattle.wordset.specs.Word.{bit}
use Rattle.truth.specs.Blocks.{has}
use Rattle.conditions.specs.Entries.{in_some, refusing, side}
use Rattle.conditions.specs.Putting.{Put, Summed}
use Rattle.conditions.proofs.EntryLaws.{some-kept}

-- ---- the backward modes below 8 + f have the sides of their fields

pub record Turning (w : ℕ) (cw₀ cw : List ℕ) (f : ℕ) : Type 0 where
  pub back : (m : ℕ) → m < f → side w cw (8 + m) ≡ (side w cw₀ m * 2 ^ 32) % 2 ^ 64
  pub others : (q : ℕ) → q < w * 64 + 8 → get_or cw q 0 ≡ get_or cw₀ q 0

-- ---- the entries of the sides below m are summed

module _ {w : ℕ} {cw₀ cw : List ℕ} {m : ℕ} (s : Summed w cw₀ cw m) where
  -- the side of a mode is as it was, and so are the types in its entries
  sum_same : ((n c : ℕ) → n < 16 → bit (side w cw₀ n) c ≡ true → c % 32 < 24) → (k : ℕ) → k < 16 → (t : ℕ) → t < w * 64 → in_some w cw (side w cw k) t ≡ in_some w cw₀ (side w cw₀ k) t
  sum_same f k h t l = ap (λ (a : ℕ). in_some w cw a t) (s.sides k) ∙ some-kept w cw₀ cw (side w cw₀ k) t (λ c g b. s.entries c t (f k c h b) l)

  pub sum-on : {cw' : List ℕ} → m < 16 → ((n c : ℕ) → n < 16 → bit (side w cw₀ n) c ≡ true → c % 32 < 24) → Put (in_some w cw (side w cw m)) w (refusing m) cw cw' → Summed w cw₀ cw' (m + 1)
  sum-on {cw'} h f p = record {
    is = λ k l t b. ⊎_elim
        (λ q. ap (λ (n : ℕ). has w cw' (refusing n) t) q ∙ p.is t b ∙ sum_same f m h t b ∙ ap (λ (n : ℕ). in_some w cw₀ (side w cw₀ n) t) (sym q))
        (λ q. p.entries (refusing k) t (λ g. omega (arith, q, g, h)) b ∙ s.is k q t b) (top k m (omega arith));
    entries = λ c t g l. p.entries c t (λ q. omega (arith, q, g, h)) l ∙ s.entries c t g l;
    sides = λ k. p.sides k ∙ s.sides k;
  }

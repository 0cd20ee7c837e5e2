-- Which number a sheet has. Assumes nothing.
use mathlib.Core.Path.{◌≡◌, refl, sym, ap, ap₂, ◌∙◌}
use mathlib.Core.Bool.{cond}
use mathlib.Core.List.{List, [], ◌∷◌}
use Prim.Native.Nat.{ℕ, zero, suc, ◌≤◌, ◌<◌}
use native.Mathlib.Omega.{arith}
use lib.ListN.{length}
use lib.Dec.{eqb, ltb}
use borrow.Author.Tests.{eq-eqb, ne_eqb, lt-ltb, le-ltb}
use Rattle.sheet.specs.Refusal.{first_of, conditions, read_refusal}
use Rattle.sheet.proofs.RefusalLaws.{first-append}
use Rattle.reader.specs.Reader.{members, places, refusal_within}

module _ (most wide : ℕ) (s : List ℕ) where
  both : refusal_within most wide s ≡ cond (eqb (read_refusal s) 0) (first_of 9 (ltb most (length (members s)) ∷ ltb wide (length (places s)) ∷ [])) (read_refusal s)
  unfolding refusal_within read_refusal conditions
  both = first-append 1 (conditions s) (ltb most (length (members s)) ∷ ltb wide (length (places s)) ∷ []) (omega arith)

  pub within-read : (read_refusal s ≡ 0 → ⊥) → refusal_within most wide s ≡ read_refusal s
  within-read n = both ∙ ap (λ b. cond b (first_of 9 (ltb most (length (members s)) ∷ ltb wide (length (places s)) ∷ [])) (read_refusal s)) (ne_eqb (read_refusal s) 0 n)

  module _ (z : read_refusal s ≡ 0) where
    pub within-rest : refusal_within most wide s ≡ first_of 9 (ltb most (length (members s)) ∷ ltb wide (length (places s)) ∷ [])
    within-rest = both ∙ ap (λ b. cond b (first_of 9 (ltb most (length (members s)) ∷ ltb wide (length (places s)) ∷ [])) (read_refusal s)) (eq-eqb (read_refusal s) 0 z)

    pub within-nine : most < length (members s) → refusal_within most wide s ≡ 9
    within-nine h = within-rest ∙ ap (λ b. first_of 9 (b ∷ ltb wide (length (places s)) ∷ [])) (lt-ltb most (length (members s)) h)

    pub within-ten : length (members s) ≤ most → wide < length (places s) → refusal_within most wide s ≡ 10
    within-ten h k = within-rest ∙ ap₂ (λ a b. first_of 9 (a ∷ b ∷ [])) (le-ltb most (length (members s)) h) (lt-ltb wide (length (places s)) k)

    pub within_none : length (members s) ≤ most → length (places s) ≤ wide → refusal_within most wide s ≡ 0
    within_none h k = within-rest ∙ ap₂ (λ a b. first_of 9 (a ∷ b ∷ [])) (le-ltb most (length (members s)) h) (le-ltb wide (length (places s)) k)

  -- where nothing is refused, the refusals 1 to 8 do not apply
  pub within-zero : refusal_within most wide s ≡ 0 → read_refusal s ≡ 0
  within-zero z = go (read_refusal s) refl
    where
      go : (k : ℕ) → read_refusal s ≡ k → read_refusal s ≡ 0
      go zero e = e
      go (suc k) e = sym (within-read (λ n. omega arith)) ∙ z

-- Entries of spellings' numbers in a list. Assumes nothing.
use mathlib.Core.Path.{◌≡◌, refl, sym, ap, ◌∙◌}
use mathlib.Core.Bool.{Bool, true, false, cond}
use mathlib.Core.List.{List, [], ◌∷◌}
use Prim.Native.Nat.{ℕ, suc, ◌+◌, ◌<◌}
use native.Mathlib.Omega.{arith}
use native.Mathlib.Numerals.{add-one}
use lib.ListN.{length, get_or, take}
use lib.Dec.{eqb}
use lib.Seq.{take_all}
use borrow.Author.Tests.{eq-eqb, ne_eqb}
use Rattle.std.specs.Prelude.{Option, Some}
use Rattle.std.specs.List.{position, position_from}
use Rattle.std.specs.Option.{option_map_or}
use Rattle.std.proofs.lemmas.Iterator.Adapters.{position_from-zero}
use Rattle.spelling.specs.Spelling.{entry_from, entry_in}

pub no-entry : (ws : List ℕ) (x : ℕ) → x ≡ 0 → entry_in ws x ≡ 0
unfolding entry_in
no-entry ws x e = rw (eq-eqb x 0 e) refl

-- an entry is 1 more than the place of the first such number, counted from i
entry-from : (i x : ℕ) (ws : List ℕ) → entry_from i x ws ≡ option_map_or suc (position_from (λ y. eqb y x) i ws) 0
unfolding entry_from
entry-from i x [] = refl
entry-from i x (y ∷ ws) = go (eqb y x) (rw add-one (entry-from (suc i) x ws))
  where
    go : (t : Bool) → entry_from (suc i) x ws ≡ option_map_or suc (position_from (λ y. eqb y x) (i + 1) ws) 0
        → cond t (suc i) (entry_from (suc i) x ws) ≡ option_map_or suc (cond t (Some i) (position_from (λ y. eqb y x) (i + 1) ws)) 0
    go true e = refl
    go false e = e

entry-all : (ws : List ℕ) (x : ℕ) → (x ≡ 0 → ⊥) → entry_from 0 x (take 16 ws) ≡ entry_in ws x
unfolding entry_in
entry-all ws x n = rw (ne_eqb x 0 n) refl

pub entry-place : (ws : List ℕ) (x : ℕ) (r : Option ℕ) → (x ≡ 0 → ⊥) → r ≡ position (λ y. eqb y x) (take 16 ws) → entry_in ws x ≡ option_map_or suc r 0
entry-place ws x r n e = sym (entry-all ws x n) ∙ entry-from 0 x (take 16 ws) ∙ ap (λ o. option_map_or suc o 0) (sym (e ∙ position_from-zero (λ y. eqb y x) (take 16 ws)))

-- an entry that is found, and none
pub entry_first : (i x : ℕ) (ws : List ℕ) (j : ℕ) → j < length ws → get_or ws j 0 ≡ x → ((k : ℕ) → k < j → get_or ws k 0 ≡ x → ⊥) → entry_from i x ws ≡ suc (i + j)
unfolding entry_from
entry_first i x [] j h e other = absurd (omega arith)
entry_first i x (y ∷ ws) ℕ.zero h e other = let z : i + 0 ≡ i = omega arith in rw (eq-eqb y x e, z) refl
entry_first i x (y ∷ ws) (suc j) h e other = let z : suc i + j ≡ i + suc j = omega arith in rw (ne_eqb y x (other 0 (omega arith))) (entry_first (suc i) x ws j (omega arith) e (λ k l. other (suc k) (omega arith)) ∙ ap suc z)

pub entry-none : (i x : ℕ) (ws : List ℕ) → ((k : ℕ) → k < length ws → get_or ws k 0 ≡ x → ⊥) → entry_from i x ws ≡ 0
unfolding entry_from
entry-none i x [] other = refl
entry-none i x (y ∷ ws) other = rw (ne_eqb y x (other 0 (omega arith))) (entry-none (suc i) x ws (λ k l. other (suc k) (omega arith)))

-- the entries in declarations of 16
module _ (ws : List ℕ) (size : length ws ≡ 16) (x : ℕ) (n : x ≡ 0 → ⊥) where
  whole : take 16 ws ≡ ws
  whole = take_all 16 ws (omega arith)

  pub entry-is : (j : ℕ) → j < 16 → get_or ws j 0 ≡ x → ((k : ℕ) → k < j → get_or ws k 0 ≡ x → ⊥) → entry_in ws x ≡ suc j
  entry-is j h e other = sym (entry-all ws x n) ∙ ap (entry_from 0 x) whole ∙ entry_first 0 x ws j (omega arith) e other ∙ (let z : suc (0 + j) ≡ suc j = omega arith in z)

  pub entry-isnt : ((k : ℕ) → k < 16 → get_or ws k 0 ≡ x → ⊥) → entry_in ws x ≡ 0
  entry-isnt other = sym (entry-all ws x n) ∙ ap (entry_from 0 x) whole ∙ entry-none 0 x ws (λ k h. other k (omega arith))

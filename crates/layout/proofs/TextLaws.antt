-- Laws of texts that are cut at a byte. Assumes nothing.
use mathlib.Core.Path.{◌≡◌, refl, ◌∙◌}
use mathlib.Core.Bool.{Bool, true, false}
use mathlib.Core.List.{List, [], ◌∷◌}
use Prim.Native.Nat.{ℕ, suc, ◌+◌, ◌≤◌, ◌<◌}
use native.Mathlib.Nat.{add-zero, add-suc, add-sub_cancel_left, le_of_suc-le-suc, not-suc-le-zero}
use native.Mathlib.Numerals.{add-one}
use native.Mathlib.Omega.{arith}
use lib.ListN.{length, get_or, take, drop, length-drop, drop_of_length-le}
use lib.Seq.{drop-cons, drop-drop}
use lib.Dec.{eqb}
use borrow.Author.Tests.{eq-eqb, ne_eqb}
use Rattle.layout.specs.Text.{part, upto, end_of, push, split, ended}

-- ---- the end of a part
module _ (b : ℕ) (s : List ℕ) (i : ℕ) where
  pub end-here : i < length s → get_or s i 0 ≡ b → end_of b s i ≡ i
  unfolding end_of upto
  end-here h e = rw (drop-cons s i 0 h, eq-eqb _ _ e) (add-zero i)

  pub end-next : i < length s → (get_or s i 0 ≡ b → ⊥) → end_of b s (i + 1) ≡ end_of b s i
  unfolding end_of upto
  end-next h ne = rw (drop-cons s i 0 h, ne_eqb _ _ ne, add-one i) (omega arith)

  pub end-end : length s ≤ i → end_of b s i ≡ i
  unfolding end_of upto
  end-end h = rw (drop_of_length-le s h) (add-zero i)

-- ---- the first part
last_step : (b c : ℕ) (r : List ℕ) (t : Bool) → eqb c b ≡ t → (length r ≤ upto b r → split b r ≡ r ∷ []) → suc (length r) ≤ upto b (c ∷ r) → split b (c ∷ r) ≡ (c ∷ r) ∷ []
unfolding upto split
last_step b c r true e ih h = absurd (not-suc-le-zero (rw e at h))
last_step b c r false e ih h = rw (e, ih (le_of_suc-le-suc (rw e at h)))

pub split-last : (b : ℕ) (x : List ℕ) → length x ≤ upto b x → split b x ≡ x ∷ []
unfolding split
split-last b [] h = refl
split-last b (c ∷ r) h = last_step b c r (eqb c b) refl (split-last b r) h

next-step : (b c : ℕ) (r : List ℕ) (t : Bool) → eqb c b ≡ t
    → (upto b r < length r → split b r ≡ take (upto b r) r ∷ split b (drop (suc (upto b r)) r))
    → upto b (c ∷ r) < suc (length r) → split b (c ∷ r) ≡ take (upto b (c ∷ r)) (c ∷ r) ∷ split b (drop (suc (upto b (c ∷ r))) (c ∷ r))
unfolding upto split
next-step b c r true e ih h = rw e
next-step b c r false e ih h = rw (e, ih (le_of_suc-le-suc (rw e at h)))

pub split-next : (b : ℕ) (x : List ℕ) → upto b x < length x → split b x ≡ take (upto b x) x ∷ split b (drop (suc (upto b x)) x)
split-next b [] h = absurd (not-suc-le-zero h)
split-next b (c ∷ r) h = next-step b c r (eqb c b) refl (split-next b r) h

-- the last part ends no line, each other one does
ended-push : (c : ℕ) (l : List ℕ) (ls : List (List ℕ)) → ended (l ∷ push c ls) ≡ l ∷ ended (push c ls)
unfolding ended
ended-push c l [] = refl
ended-push c l (m ∷ ms) = refl

ended-step : (b c : ℕ) (l r : List ℕ) (t : Bool) → eqb c b ≡ t → ended (l ∷ split b (c ∷ r)) ≡ l ∷ ended (split b (c ∷ r))
unfolding ended split
ended-step b c l r true e = rw e
ended-step b c l r false e = rw e (ended-push c l (split b r))

pub ended-split : (b : ℕ) (l x : List ℕ) → ended (l ∷ split b x) ≡ l ∷ ended (split b x)
unfolding ended split
ended-split b l [] = refl
ended-split b l (c ∷ r) = ended-step b c l r (eqb c b) refl

-- ---- at a position of a text
module _ (b : ℕ) (s : List ℕ) (at : ℕ) (inside : at ≤ length s) where
  pub cut-last : length s ≤ end_of b s at → split b (drop at s) ≡ drop at s ∷ []
  unfolding end_of
  cut-last h = split-last b (drop at s) (rw length-drop (omega arith))

  pub cut-next : end_of b s at < length s → split b (drop at s) ≡ part s at (end_of b s at) ∷ split b (drop (end_of b s at + 1) s)
  unfolding end_of
  cut-next h =
      split-next b (drop at s) (rw length-drop (omega arith))
      ∙ rw (add-sub_cancel_left at (upto b (drop at s)), drop-drop, add-suc, add-one)

  pub lines-last : length s ≤ end_of b s at → ended (split b (drop at s)) ≡ []
  unfolding ended
  lines-last h = rw (cut-last h)

  pub lines_next : end_of b s at < length s → ended (split b (drop at s)) ≡ part s at (end_of b s at) ∷ ended (split b (drop (end_of b s at + 1) s))
  lines_next h = rw (cut-next h) (ended-split b _ _)

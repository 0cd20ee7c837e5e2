-- The invariant of a loop that fills the first w elements of a list, one store a turn, for any contents g. Assumes nothing.
use mathlib.Core.Path.{◌≡◌, refl, sym, ap, ◌∙◌}
use mathlib.Core.List.{List}
use Prim.Native.Nat.{ℕ, ◌+◌, ◌^◌, ◌≤◌, ◌<◌}
use native.Mathlib.Omega.{arith}
use lib.ListN.{length, get_or, set, length-set}
use Rattle.wordset.specs.Word.{bit}
use Rattle.wordset.specs.Words.{member, filled}
use Rattle.wordset.proofs.WordLaws.{filled-step, filled_next, member-at}
use Rattle.wordset.specs.Answers.{Answers}

-- the list l, from d, after i turns of w
pub record Filling (g : ℕ → ℕ) (d : List ℕ) (w : ℕ) (l : List ℕ) (i : ℕ) : Type 0 where
  pub within : i ≤ w
  pub long : length l ≡ length d
  pub is : l ≡ filled i g d

module _ {g : ℕ → ℕ} {d : List ℕ} {w : ℕ} where
  pub begins : Filling g d w d 0
  unfolding filled
  begins = record { within = omega arith; long = refl; is = refl }

  pub goes : {l : List ℕ} {i : ℕ} (v : ℕ) → Filling g d w l i → i < w → v ≡ g i → Filling g d w (set l i v) (i + 1)
  goes {l} {i} v f h e = record { within = omega arith; long = length-set l i v ∙ f.long; is = filled-step g d l i v f.is e }

  pub ends : {l : List ℕ} {i : ℕ} → Filling g d w l i → w ≤ i → l ≡ filled w g d
  ends {l} {i} f h = let e : i ≡ w = omega arith in f.is ∙ ap (λ (k : ℕ). filled k g d) e

  -- the element that is next is as it was
  pub next : {l : List ℕ} {i : ℕ} → Filling g d w l i → get_or l i 0 ≡ get_or d i 0
  next {l} {i} f = filled_next g d l i f.is

  -- so it answers for the set as it was
  pub next-answers : {l : List ℕ} {i : ℕ} → Filling g d w l i → get_or l i 0 < 2 ^ 64 → Answers (member d) i (get_or l i 0)
  next-answers {l} {i} f h = record { small = h; each = λ b k. member-at d i b k ∙ ap (λ (x : ℕ). bit x b) (sym (next f)) }

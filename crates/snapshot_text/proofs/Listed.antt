-- A list by its elements: g 0 to g (n - 1). Assumes nothing.
use Prim.Native.Nat.{ℕ, zero, suc, ◌≤◌, ◌<◌}
use native.Mathlib.Omega.{arith}
use mathlib.Core.Path.{◌≡◌, refl, ap, ap₂}
use mathlib.Core.List.{List, [], ◌∷◌}
use lib.ListN.{length, get_or}

module _ {A : Type 0} where
  unfoldable pub listed : ℕ → (ℕ → A) → List A
  listed zero g = []
  listed (suc n) g = g 0 ∷ listed n (λ i. g (suc i))

  pub listed-length : (n : ℕ) (g : ℕ → A) → length (listed n g) ≡ n
  unfolding listed
  listed-length zero g = refl
  listed-length (suc n) g = ap suc (listed-length n (λ i. g (suc i)))

  pub listed_at : (d : A) (n : ℕ) (g : ℕ → A) (i : ℕ) → i < n → get_or (listed n g) i d ≡ g i
  unfolding listed
  listed_at d zero g i h = absurd (omega arith)
  listed_at d (suc n) g zero h = refl
  listed_at d (suc n) g (suc i) h = listed_at d n (λ i. g (suc i)) i (omega arith)

  pub listed-past : (d : A) (n : ℕ) (g : ℕ → A) (i : ℕ) → n ≤ i → get_or (listed n g) i d ≡ d
  unfolding listed
  listed-past d zero g i h = refl
  listed-past d (suc n) g zero h = absurd (omega arith)
  listed-past d (suc n) g (suc i) h = listed-past d n (λ i. g (suc i)) i (omega arith)

  pub listed_same : (n : ℕ) (g h : ℕ → A) → ((i : ℕ) → i < n → g i ≡ h i) → listed n g ≡ listed n h
  unfolding listed
  listed_same zero g h e = refl
  listed_same (suc n) g h e = ap₂ (λ x l. x ∷ l) (e 0 (omega arith)) (listed_same n (λ i. g (suc i)) (λ i. h (suc i)) (λ i l. e (suc i) (omega arith)))

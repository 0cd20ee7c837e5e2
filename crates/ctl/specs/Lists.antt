-- Lists searched, kept and counted by a test, and the numbers below a bound. Assumes nothing.
use Rattle.std.specs.Prelude.{◌≡◌, Bool, true, false, ◌&&◌, ◌||◌, ℕ, zero, suc, eqb}
use mathlib.Core.List.{List, [], ◌∷◌, Memᴰ}

-- a is in the list
infix 4 ◌∈◌
abbrev pub ◌∈◌ {ℓ} : {A : Type ℓ} → A → List A → Type ℓ
a ∈ l = Memᴰ a l

-- a implies b
abbrev pub imp : Bool → Bool → Bool
imp true b = b
imp false b = true

-- x before the list, if b
abbrev pub put {ℓ} : {A : Type ℓ} → Bool → A → List A → List A
put true x l = x ∷ l
put false x l = l

module _ {ℓ} {A : Type ℓ} where
  -- some, or every, element passes the test. The `let` keeps the rest of the list from being looked at where it does not matter.
  abbrev pub any_of : (A → Bool) → List A → Bool
  any_of p [] = false
  any_of p (x ∷ xs) = let rest = any_of p xs in p x || rest

  abbrev pub all_of : (A → Bool) → List A → Bool
  all_of p [] = true
  all_of p (x ∷ xs) = let rest = all_of p xs in p x && rest

  -- the elements that pass the test, in their order
  abbrev pub keep : (A → Bool) → List A → List A
  keep p [] = []
  keep p (x ∷ xs) = put (p x) x (keep p xs)

-- if the list has any member, exactly one member has the property
abbrev pub ExactlyOne : List ℕ → (ℕ → Type 0) → Type 0
ExactlyOne l P = (v : ℕ) → v ∈ l → (k : ℕ) × (k ∈ l) × P k × ((j : ℕ) → j ∈ l → P j → j ≡ k)

-- the number is in the list
unfoldable pub elem : ℕ → List ℕ → Bool
elem n l = any_of (eqb n) l

-- the n numbers from a on
abbrev pub count_from : ℕ → ℕ → List ℕ
count_from a zero = []
count_from a (suc n) = a ∷ count_from (suc a) n

-- 0, 1 .. n - 1
abbrev pub below : ℕ → List ℕ
below n = count_from 0 n

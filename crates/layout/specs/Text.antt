-- Texts: lists of bytes, cut at a byte. Assumes nothing: these are definitions.
use Rattle.std.specs.Prelude.{Bool, true, false, cond, ◌&&◌, ◌||◌, List, [], ◌∷◌, ℕ, suc, ◌+◌, ◌-◌, take, drop, eqb}

-- the bytes from a up to e
abbrev pub part : List ℕ → ℕ → ℕ → List ℕ
part s a e = take (e - a) (drop a s)

-- how many bytes stand before the first b: all, where there is none
unfoldable pub upto : ℕ → List ℕ → ℕ
upto b [] = 0
upto b (c ∷ r) = cond (eqb c b) 0 (suc (upto b r))

-- the position of the first b from `at` on, or the end
unfoldable pub end_of : ℕ → List ℕ → ℕ → ℕ
end_of b s at = at + upto b (drop at s)

-- one more byte in front of the first part
abbrev pub push : ℕ → List (List ℕ) → List (List ℕ)
push c [] = (c ∷ []) ∷ []
push c (l ∷ ls) = (c ∷ l) ∷ ls

-- the parts of a text between its b's: one more than it has b's
unfoldable pub split : ℕ → List ℕ → List (List ℕ)
split b [] = [] ∷ []
split b (c ∷ r) = cond (eqb c b) ([] ∷ split b r) (push c (split b r))

-- all but the last part: those that a b ends
unfoldable pub ended : List (List ℕ) → List (List ℕ)
ended [] = []
ended (l ∷ []) = []
ended (l ∷ m ∷ ms) = l ∷ ended (m ∷ ms)

-- two texts are the same
unfoldable pub same : List ℕ → List ℕ → Bool
same [] [] = true
same [] (d ∷ q) = false
same (c ∷ r) [] = false
same (c ∷ r) (d ∷ q) = eqb c d && same r q

-- a text begins with another
unfoldable pub begins : List ℕ → List ℕ → Bool
begins s [] = true
begins [] (d ∷ q) = false
begins (c ∷ r) (d ∷ q) = eqb c d && begins r q

-- a byte is in a text
unfoldable pub has : ℕ → List ℕ → Bool
has b [] = false
has b (c ∷ r) = eqb c b || has b r

-- The lean's places by the kind of their symbols. Assumes nothing.
use Rattle.std.specs.Prelude.{◌≡◌, Bool, ◌&&◌, List, ◌++◌, ℕ, ◌≤◌, ◌<◌, length, get_or, drop, eqb}
use Rattle.ctl.specs.Lists.{keep, below}
use Rattle.members.specs.Members.{arg_w, tag_w}

-- a member's word is a symbol of kind q (kinds: 1 mark, 2 name, 3 field, 4 value)
unfoldable pub kind_word : List ℕ → ℕ → ℕ → Bool
kind_word kinds q x = eqb (tag_w x) 2 && eqb (get_or kinds (arg_w x) 0) q

-- lean place k is such a symbol
unfoldable pub kind_at : ℕ → List ℕ → List ℕ → List ℕ → ℕ → Bool
unfolding kind_word
kind_at q ms ln kinds k = kind_word kinds q (get_or ms (get_or ln k 0) 0)

-- the places that are such symbols
unfoldable pub places_by : ℕ → List ℕ → List ℕ → List ℕ → List ℕ
unfolding kind_at
places_by q ms ln kinds = keep (kind_at q ms ln kinds) (below (length ln))

-- what finding them asks
pub record Sought (ms ln store : List ℕ) : Type 0 where
  pub short : length ln ≤ 60
  pub inside : (k : ℕ) → k < length ln → get_or ln k 0 < length ms
  pub room : length ln ≤ length store

-- and what it gives: they are at the beginning of the store, and the rest as it was
pub record Found (places store store' : List ℕ) (n : ℕ) : Type 0 where
  pub many : n ≡ length places
  pub are : store' ≡ places ++ drop n store

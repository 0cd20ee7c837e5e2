-- Start types, by words. Assumes nothing.
use Rattle.std.specs.Prelude.{◌≡◌, Bool, not, ◌&&◌, ◌||◌, List, ℕ, ◌+◌, ◌-◌, ◌*◌, ◌^◌, ◌≤◌, ◌<◌, eqb, ltb, length, get_or}
use Rattle.ctl.specs.Lists.{imp, keep, below}
use Rattle.ctl.specs.Numbers.{digit_at, with_place}
use Rattle.ctl.specs.Types.{in_type}
use Rattle.wordset.specs.Below.{all_below, any_below, count_below}
use Rattle.wordset.specs.Words.{member}
use Rattle.truth.specs.Truths.{true_at}

-- ---- once for all namings

-- a type has exactly one of some places, if there are any
unfoldable pub has_one : List ℕ → ℕ → Bool
has_one values t = eqb (length values) 0 || eqb (count_below (length values) (λ i. in_type t (get_or values i 0))) 1

-- what a start type is under every naming: below 2 ^ n, with exactly one of the value places, if there are any, and with all globals true
unfoldable pub in_base : List ℕ → List ℕ → List ℕ → List ℕ → ℕ → Bool
unfolding has_one
in_base ms ln globals values t = ltb t (2 ^ length ln) && (has_one values t && all_below (length globals) (λ i. true_at ms ln (get_or globals i 0) t))

-- a type has none of some places
unfoldable pub has_none : List ℕ → ℕ → Bool
has_none names t = all_below (length names) (λ i. not (in_type t (get_or names i 0)))

-- the first w words hold the types of which P holds and that have no name, the next w words those that have one
pub record Based (w : ℕ) (P : ℕ → Bool) (names base : List ℕ) : Type 0 where
  pub free : (t : ℕ) → t < w * 64 → member base t ≡ (P t && has_none names t)
  pub named : (t : ℕ) → t < w * 64 → member base (w * 64 + t) ≡ (P t && not (has_none names t))

-- ---- under a naming

-- at most two names, each at one of n places
pub record Named (names : List ℕ) (n : ℕ) : Type 0 where
  pub few : length names ≤ 2
  pub within : (i : ℕ) → i < length names → get_or names i 0 < n
  pub narrow : n ≤ 31

-- the one type that has name i, at place v of n, under naming r
abbrev pub named_type : ℕ → ℕ → ℕ → ℕ → ℕ
named_type v n r i = with_place v (digit_at (n - 1) r i)

-- if a type has that name, it is that type
abbrev pub fits_name : ℕ → ℕ → ℕ → ℕ → ℕ → Bool
fits_name v n r i t = imp (in_type t v) (eqb t (named_type v n r i))

-- a type obeys a naming: for each name that it has, it is that name's type
unfoldable pub obeys_by : List ℕ → ℕ → ℕ → ℕ → Bool
obeys_by names n r t = all_below (length names) (λ i. fits_name (get_or names i 0) n r i t)

-- it is the type of one of the names
unfoldable pub type_of_name : List ℕ → ℕ → ℕ → ℕ → Bool
type_of_name names n r t = any_below (length names) (λ i. eqb t (named_type (get_or names i 0) n r i))

-- the start types of naming r: those without a name, and of those with one the names' own types that obey
unfoldable pub starts_by : ℕ → List ℕ → List ℕ → ℕ → ℕ → ℕ → Bool
unfolding obeys_by type_of_name
starts_by w base names n r t = member base t || (member base (w * 64 + t) && (type_of_name names n r t && obeys_by names n r t))

-- ascending
unfoldable pub start_list : ℕ → List ℕ → List ℕ → ℕ → ℕ → List ℕ
unfolding starts_by
start_list w base names n r = keep (starts_by w base names n r) (below (w * 64))

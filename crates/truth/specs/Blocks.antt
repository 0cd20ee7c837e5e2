-- A store of words in blocks of w words, and a set in w words as a list, for any word count. Assumes nothing.
use Rattle.std.specs.Prelude.{◌≡◌, Bool, true, false, not, ◌&&◌, ◌||◌, List, ℕ, ◌+◌, ◌*◌, ◌<◌, drop, get_or, length}
use Rattle.ctl.specs.Lists.{keep, below}
use Rattle.wordset.specs.Answers.{Answers}
use Rattle.wordset.specs.Words.{member}

-- bit t of block i
unfoldable pub has : ℕ → List ℕ → ℕ → ℕ → Bool
has w ws i t = member (drop (i * w) ws) t

-- the numbers that are members of the first w words, ascending
unfoldable pub list_of : ℕ → List ℕ → List ℕ
list_of w ws = keep (member ws) (below (w * 64))

-- block i answers test P
abbrev pub BlockIs : (ℕ → Bool) → ℕ → ℕ → List ℕ → Type 0
BlockIs P w i ws = (k : ℕ) → k < w → Answers P k (get_or ws (i * w + k) 0)

-- block i of a store answers test P now, and the words before it are as they were
pub record Redone (w i : ℕ) (P : ℕ → Bool) (ws ws' : List ℕ) : Type 0 where
  pub long : length ws' ≡ length ws
  pub before : (j : ℕ) → j < i * w → get_or ws' j 0 ≡ get_or ws j 0
  pub block : BlockIs P w i ws'

-- ---- how a block's test changes

-- x and y where every is true, x or y where it is false
abbrev pub added : Bool → Bool → Bool → Bool
added true x y = x && y
added false x y = x || y

-- an until of p and q is true, where x is what it says of the next types; where until is false, a release
abbrev pub expanded : Bool → Bool → Bool → Bool → Bool
expanded true x p q = q || (p && x)
expanded false x p q = q && (p || x)

-- x, turned where n is true
abbrev pub turned : Bool → Bool → Bool
turned true x = not x
turned false x = x

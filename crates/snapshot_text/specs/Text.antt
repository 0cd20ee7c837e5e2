-- What a snapshot's text is: a copy of line 1, then 1 to 16 lines of entries. Assumes nothing.
use Rattle.std.specs.Prelude.{ℕ, ◌+◌, ◌/◌, ◌%◌, ◌≤◌, ◌<◌, ◌≡◌, cond, List, [], ◌∷◌, ◌++◌, ltb, length, get_or}
use Rattle.ctl.specs.Snapshot.{entry}
use Rattle.snapshot_text.specs.Store.{entry_at}

-- a number below 100 in decimal digits, without a leading 0
unfoldable pub decimal : ℕ → List ℕ
decimal v = cond (ltb v 10) ((48 + v) ∷ []) ((48 + v / 10) ∷ (48 + v % 10) ∷ [])

-- a line: its entries with single spaces between, ended by a newline
unfoldable pub line_text : List ℕ → List ℕ
line_text [] = 10 ∷ []
line_text (v ∷ []) = decimal v ++ (10 ∷ [])
line_text (v ∷ (w ∷ l)) = decimal v ++ (32 ∷ line_text (w ∷ l))

-- lines, one after the other
unfoldable pub lines_text : List (List ℕ) → List ℕ
lines_text [] = []
lines_text (l ∷ ls) = line_text l ++ lines_text ls

-- s is the text of these lines, of m entries each, under line 1
pub record Text (line : List ℕ) (m : ℕ) (s : List ℕ) (lines : List (List ℕ)) : Type 0 where
  pub short : length s ≤ 1024
  pub spelled : s ≡ line ++ (10 ∷ lines_text lines)
  pub some : 1 ≤ length lines
  pub few : length lines ≤ 16
  pub each : (i : ℕ) → i < length lines → length (get_or lines i []) ≡ m
  pub small : (i k : ℕ) → entry lines k i < 100

-- The text s was taken: it is the text of n lines, and the store holds their entries
pub record Taken (line : List ℕ) (m : ℕ) (s out : List ℕ) (n : ℕ) : Type 0 where
  pub lines : List (List ℕ)
  pub text : Text line m s lines
  pub count : length lines ≡ n
  pub entries : (i k : ℕ) → entry_at out i k ≡ entry lines k i

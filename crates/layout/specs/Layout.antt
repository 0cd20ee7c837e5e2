-- The sheet's layout, the refusals 1 to 3, and the formulas' texts. Assumes nothing: these are definitions.
use Rattle.std.specs.Prelude.{◌≡◌, Bool, true, false, not, ◌&&◌, ◌||◌, List, [], ◌∷◌, ◌++◌, ℕ, ◌+◌, ◌-◌, ◌≤◌, ◌<◌, length, drop, get_or, ltb, leb, eqb}
use Rattle.layout.specs.declared.formulas.Span.{Span}
use Rattle.layout.specs.Text.{part, split, ended, begins}

-- ---- lines
abbrev pub newline : ℕ
newline = 10

-- the parts of a sheet between its newlines; the last one is what stands after the last newline
abbrev pub parts : List ℕ → List (List ℕ)
parts s = split newline s

-- the lines that a newline ends
abbrev pub lines : List ℕ → List (List ℕ)
lines s = ended (parts s)

-- the text of some lines, each with its newline
unfoldable pub unlines : List (List ℕ) → List ℕ
unlines [] = []
unlines (l ∷ ls) = l ++ (newline ∷ unlines ls)

-- the lines from a position on, where a line begins
abbrev pub lines_from : List ℕ → ℕ → List (List ℕ)
lines_from s at = ended (split newline (drop at s))

-- line 1 is at 0, line 2 at 1
abbrev pub line_of : List ℕ → ℕ → List ℕ
line_of s k = get_or (parts s) k []

-- what a step from a line's beginning to the next one's answers
pub record NextLine (s : List ℕ) (at r : ℕ) : Type 0 where
  pub inside : r ≤ length s
  pub rest : lines_from s r ≡ drop 1 (lines_from s at)
  pub first : get_or (split newline (drop r s)) 0 [] ≡ get_or (split newline (drop at s)) 1 []

-- ---- 1, length: the sheet is empty, over 1,024 bytes, or has a line over 200, bytes after the last newline counted as a line
unfoldable pub any_long : List (List ℕ) → Bool
any_long [] = false
any_long (l ∷ ls) = ltb 200 (length l) || any_long ls

unfoldable pub length_wrong : List ℕ → Bool
length_wrong s = eqb (length s) 0 || ltb 1024 (length s) || any_long (parts s)

-- ---- 2, byte: not printable, not newline
abbrev pub byte_right : ℕ → Bool
byte_right b = eqb b newline || leb 32 b && leb b 126

unfoldable pub byte_wrong : List ℕ → Bool
byte_wrong [] = false
byte_wrong (b ∷ r) = not (byte_right b) || byte_wrong r

-- ---- 3, layout: no final newline, not 3 to 7 lines, wrong line start
-- `all `, `goal `
abbrev pub all_word : List ℕ
all_word = 97 ∷ 108 ∷ 108 ∷ 32 ∷ []

abbrev pub goal_word : List ℕ
goal_word = 103 ∷ 111 ∷ 97 ∷ 108 ∷ 32 ∷ []

-- the lines from the third on begin with `all `, the last one with `goal `
unfoldable pub starts_right : List (List ℕ) → Bool
starts_right [] = true
starts_right (l ∷ []) = begins l goal_word
starts_right (l ∷ m ∷ ms) = begins l all_word && starts_right (m ∷ ms)

unfoldable pub ends_right : List ℕ → Bool
ends_right s = eqb (get_or s (length s - 1) 0) newline

unfoldable pub layout_right : List ℕ → Bool
layout_right s = ends_right s && leb 3 (length (lines s)) && leb (length (lines s)) 7 && starts_right (drop 2 (lines s))

-- ---- the formulas' texts
-- after `all ` and, on the last line, after `goal `
unfoldable pub texts_of : List (List ℕ) → List (List ℕ)
texts_of [] = []
texts_of (l ∷ []) = drop 5 l ∷ []
texts_of (l ∷ m ∷ ms) = drop 4 l ∷ texts_of (m ∷ ms)

abbrev pub texts : List ℕ → List (List ℕ)
texts s = texts_of (drop 2 (lines s))

-- what a reader of the place of a formula's text on the line from `at` to e answers
pub record TextAt (s : List ℕ) (at e r : ℕ) : Type 0 where
  pub after : at ≤ r
  pub before : r ≤ e
  pub texts-are : texts_of (lines_from s at) ≡ part s r e ∷ texts_of (lines_from s (e + 1))

-- the last text, or the given one where there is none
unfoldable pub last_of : List ℕ → List (List ℕ) → List ℕ
last_of t [] = t
last_of t (u ∷ us) = last_of u us

-- the goal's text
abbrev pub goal_of : List ℕ → List ℕ
goal_of s = last_of [] (texts s)

pub record LastText (s : List ℕ) (from : ℕ) (r : Span) : Type 0 where
  pub order : r.start ≤ r.end
  pub inside : r.end ≤ length s
  pub is : part s r.start r.end ≡ last_of [] (texts_of (lines_from s from))
  pub closes : ends_right s ≡ true → from < length s → r.end + 1 ≡ length s

-- Two sheets that say the same. Assumes nothing: this is a definition.
use Rattle.std.specs.Prelude.{◌≡◌, List, ℕ}
use Rattle.layout.specs.Layout.{line_of}
use Rattle.reader.specs.Reader.{forms}

-- their first lines are equal, their second lines, and their formulas in positive form, in the sheets' order
pub record SameSheet (s t : List ℕ) : Type 0 where
  pub line-one : line_of t 0 ≡ line_of s 0
  pub line-two : line_of t 1 ≡ line_of s 1
  pub forms-same : forms t ≡ forms s

-- What measuring and writing a clean text answer and leave. Assumes nothing: these are definitions.
use Rattle.std.specs.Prelude.{◌≡◌, cond, List, ◌++◌, map, ℕ, ◌+◌, ◌<◌, length, drop, get_or, take, Option, Some, None}
use Rattle.ctl.specs.Formula.{tru}
use Rattle.members.specs.Members.{forms}
use Rattle.prints.specs.Prints.{spell_at}
use Rattle.layout.specs.Layout.{any_long, unlines}
use Rattle.clean.specs.Clean.{clean_text, clean_wrong, formula_lines}

-- each place is that of one of n members
abbrev pub Among : ℕ → List ℕ → Type 0
Among n places = (j : ℕ) → j < length places → get_or places j 0 < n

-- the lines of the formulas that stand at places of a table
abbrev pub lines_at : List ℕ → ℕ → List ℕ → List ℕ → List (List ℕ)
lines_at tab n ls places = formula_lines (spell_at ls) (map (λ i. get_or (forms (take n tab)) i tru) places)

-- the length of so many bytes and the text of some lines, or none where a line is over 200
abbrev pub length_by : ℕ → List (List ℕ) → Option ℕ
length_by from ls = cond (any_long ls) None (Some (from + length (unlines ls)))

-- the answer on a sheet and a store of so many bytes: how long the clean text is, none where it does not fit
abbrev pub length_of : List ℕ → ℕ → Option ℕ
length_of s long = cond (clean_wrong s long) None (Some (length (clean_text s)))

-- and the store then, of what it held: the clean text and behind it what was there; or all as it was
abbrev pub store_of : List ℕ → List ℕ → List ℕ
store_of s d = cond (clean_wrong s (length d)) d (clean_text s ++ drop (length (clean_text s)) d)

pub record Written (s d : List ℕ) (o : Option ℕ) (d' : List ℕ) : Type 0 where
  pub answer : o ≡ length_of s (length d)
  pub store-holds : d' ≡ store_of s d

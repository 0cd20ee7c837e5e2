-- A sheet written clean: lines 1 and 2 as they are, then each formula in canonical print, behind `all ` or `goal `. Assumes nothing: these are definitions.
use Rattle.std.specs.Prelude.{Bool, ◌||◌, List, [], ◌∷◌, ◌++◌, ℕ, length, ltb}
use Rattle.ctl.specs.Formula.{Form}
use Rattle.ctl.specs.Print.{print}
use Rattle.layout.specs.Layout.{all_word, any_long, goal_word, line_of, unlines}
use Rattle.sheet.specs.Reading.{spell_of}
use Rattle.reader.specs.Reader.{forms}

-- the lines of positive formulas: globals, then the goal
unfoldable pub formula_lines : (ℕ → List ℕ) → List Form → List (List ℕ)
unfolding print
formula_lines spell [] = []
formula_lines spell (p ∷ []) = (goal_word ++ print spell p) ∷ []
formula_lines spell (p ∷ q ∷ r) = (all_word ++ print spell p) ∷ formula_lines spell (q ∷ r)

-- the lines of the clean sheet
abbrev pub clean_lines : List ℕ → List (List ℕ)
clean_lines s = line_of s 0 ∷ line_of s 1 ∷ formula_lines (spell_of s) (forms s)

-- and their text, each with its newline
unfoldable pub clean_text : List ℕ → List ℕ
unfolding formula_lines unlines
clean_text s = unlines (clean_lines s)

-- 18: a written line is over 200 bytes, without its newline, or the text is over 1,024 bytes, or over what a store of so many bytes has room for
unfoldable pub clean_wrong : List ℕ → ℕ → Bool
unfolding clean_text any_long
clean_wrong s long = any_long (clean_lines s) || ltb 1024 (length (clean_text s)) || ltb long (length (clean_text s))

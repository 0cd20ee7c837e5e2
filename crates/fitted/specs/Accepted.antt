-- What a sheet that is not refused has: its words, its namings, its surviving types, and its verdict; and what a table, a book and a list of it hold. Assumes nothing.
use Rattle.std.specs.Prelude.{List, ◌++◌, ℕ, ◌*◌, length, drop}
use Rattle.ctl.specs.Lists.{elem}
use Rattle.ctl.specs.Sorting.{sort}
use Rattle.ctl.specs.TypeOrder.{fewest_first}
use Rattle.ctl.specs.Positive.{positive}
use Rattle.ctl.specs.Tableau.{namings, start_types}
use Rattle.ctl.specs.Verdict as Ctl
use Rattle.ctl.specs.Verdict.{rounds_of, surviving_types}
use Rattle.wordset.specs.Words.{packed}
use Rattle.sheet.specs.Reading.{formulas, goal_of}
use Rattle.tableau.specs.Tabled.{Tabled}
use Rattle.tableau.specs.declared.table.Counts.{Counts}
use Rattle.prepare.specs.Prepared.{tableau_in}
use Rattle.prepare.specs.Width.{words_for}
use Rattle.booking.specs.Booked.{tables_by}

-- document 01's W of the sheet: how many words hold one bit for each of its types
unfoldable pub words_in : List ℕ → ℕ
unfolding words_for
words_in s = words_for (length (tableau_in s).ln)

abbrev pub namings_in : List ℕ → ℕ
namings_in s = namings (tableau_in s)

-- the surviving types (document 01's standing types) under naming r
abbrev pub survivors_in : List ℕ → ℕ → List ℕ
survivors_in s r = surviving_types (tableau_in s) r

-- the same in the order in which they are listed: the fewest true lean places first, among equals the smaller number
unfoldable pub listed_in : List ℕ → ℕ → List ℕ
unfolding sort fewest_first
listed_in s r = sort (fewest_first (length (tableau_in s).ln)) (survivors_in s r)

-- a store with the surviving types in its first W words, type j as bit j mod 64 of word j div 64, and its later words as they were
unfoldable pub holding : List ℕ → ℕ → List ℕ → List ℕ
unfolding words_in
holding s r d = packed (words_in s) (λ t. elem t (survivors_in s r)) d

-- the counts of naming r, and both stores afterwards
abbrev pub TabledIn : List ℕ → ℕ → List ℕ → List ℕ → List ℕ → List ℕ → Counts → Type 0
TabledIn s r = Tabled (start_types (tableau_in s) r) (survivors_in s r) (rounds_of (tableau_in s) r) (words_in s)

-- a store with the words of all namings one after the other, so naming r's at word r × W, and the rest as it was
abbrev pub book_in : List ℕ → List ℕ → List ℕ
book_in s d = tables_by (words_in s) (λ r t. elem t (survivors_in s r)) (namings_in s) ++ drop (namings_in s * words_in s) d

-- the verdict on the goal
unfoldable pub verdict_in : List ℕ → Ctl.Verdict
verdict_in s = Ctl.verdict (tableau_in s) (positive (goal_of (formulas s)))

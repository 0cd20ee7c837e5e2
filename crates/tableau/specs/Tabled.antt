-- What one naming's table is: the counts, and the two stores after it, from the start types, the survivors and the number of rounds.
-- Assumes nothing.
use Rattle.std.specs.Prelude.{◌≡◌, List, ℕ, length}
use Rattle.ctl.specs.Lists.{elem}
use Rattle.wordset.specs.Words.{packed}
use Rattle.tableau.specs.declared.table.Counts.{Counts}

pub record Tabled (start survivors : List ℕ) (rounds w : ℕ) (first second first' second' : List ℕ) (c : Counts) : Type 0 where
  pub started : c.start ≡ length start
  pub left_over : c.left ≡ length survivors
  pub rounds-done : c.rounds ≡ rounds
  pub first_holds : first' ≡ packed w (λ t. elem t survivors) first
  pub second_holds : second' ≡ packed w (λ t. elem t survivors) second

-- What filling a page leaves. Assumes nothing.
use Rattle.std.specs.Prelude.{◌≡◌, List, ◌++◌, map, ℕ, ◌+◌, ◌-◌, ◌≤◌, ◌<◌, length, take}
use Rattle.ctl.specs.Lists.{count_from}
use Rattle.tableau.specs.Families.{Rounds, Survivors}
use Rattle.start.specs.Starts.{start_list}
use Rattle.tableau.specs.declared.words.Sheet.{Sheet}
use Rattle.naming.specs.declared.Naming.{Naming}
use Rattle.judge.specs.Judged.{Judged}
use Rattle.lines.specs.Lines.{joined, naming_line}
use Rattle.pages.specs.declared.Page.{Page}

-- the line of naming r, from what its table is filled with
unfoldable pub row_at : List ℕ → List ℕ → ℕ → List ℕ → List ℕ → List ℕ → ℕ → List ℕ
row_at ms ln w base names newline r =
    naming_line r (length (start_list w base names (length ln) r)) (length (Survivors ms ln (start_list w base names (length ln) r))) (Rounds ms ln (start_list w base names (length ln) r)) newline

-- the same of what the sheet's tables are made from
abbrev pub row_of : Sheet → List ℕ → ℕ → List ℕ
row_of s newline = row_at s.ms.now s.ln.now s.words.w s.base.now s.names.now newline

-- the lines of namings a up to b, one after the other
abbrev pub rows : (ℕ → List ℕ) → ℕ → ℕ → List ℕ
rows line a b = joined (map line (count_from a (b - a)))

-- A page from naming n on, behind the `used` bytes that the buffer held: the lines of the namings up to the one in hand then, and the verdict on those before that. While
-- namings are left the page has one at least, and there is room for the last two lines
pub record Paged (line goals : ℕ → List ℕ) (n : Naming) (used : ℕ) (out out' : List ℕ) (p : Page) : Type 0 where
  pub text : take p.used out' ≡ take used out ++ rows line n.number p.naming.number
  pub within : p.naming.number ≤ n.count
  pub same_count : p.naming.count ≡ n.count
  pub further : p.naming.number < n.count → n.number < p.naming.number
  pub judged : Judged goals p.naming.number p.verdict
  pub room : p.used + 128 ≤ length out'

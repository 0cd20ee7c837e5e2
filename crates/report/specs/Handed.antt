-- What is handed to the output, write after write. Assumes nothing.
use Rattle.std.specs.Prelude.{◌≡◌, List, [], ◌∷◌, ◌++◌, ℕ}
use Rattle.report.specs.Text.{up_to}

-- the bytes of all writes that hand over the first n of some lines: each with what `write_lines` asks, from none on
pub data Handed (lines : List (List ℕ)) : ℕ → List (List ℕ) → Type 0 where
  none : Handed lines 0 []
  more : {done next : ℕ} {writes : List (List ℕ)} (bytes : List ℕ) → Handed lines done writes → up_to done lines ++ bytes ≡ up_to next lines → Handed lines next (writes ++ (bytes ∷ []))

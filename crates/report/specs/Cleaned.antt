-- What the program prints of a sheet that is to be cleaned. Assumes nothing.
use Rattle.std.specs.Prelude.{List, [], ◌∷◌, ℕ, zero, suc}
use Rattle.lines.specs.Lines.{refused_line}
use Rattle.limits.specs.declared.Limits.{Limits}
use Rattle.clean.specs.Clean.{clean_text}
use Rattle.outcomes.specs.Outcomes.{clean_refusal}

-- where the refusal is k: that alone, on a line; or the clean text
abbrev pub cleaned_by : List ℕ → ℕ → List ℕ
cleaned_by s zero = clean_text s
cleaned_by s (suc k) = refused_line (suc k) (10 ∷ [])

-- no clean text has over 1,024 bytes, so that much room is enough
unfoldable pub cleaned_of : Limits → List ℕ → List ℕ
unfolding clean_refusal
cleaned_of l s = cleaned_by s (clean_refusal l s 1024)

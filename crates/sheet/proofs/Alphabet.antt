-- The spellings of a sheet are an alphabet for prints. Assumes nothing.
use mathlib.Core.List.Memᴰ
use mathlib.Core.List.{List, [], ◌∷◌}
use mathlib.Core.Logic.{◌⊎◌, inl, inr}
use mathlib.Core.Path.{◌≡◌}
use Prim.Native.Nat.{ℕ, ◌≤◌}
use lib.ListN.{length}
use Rattle.ctl.specs.Lists.{◌∈◌}
use Rattle.ctl.specs.Alphabet.{Spelling, Alphabet}
use Rattle.spelling.proofs.SpellingLaws.{Lower, Spelled}
use Rattle.head.specs.Head.{spellings}
use Rattle.head.proofs.Spellings.{sheet-spellings}
use Rattle.sheet.specs.Reading.{spell_of}

lower_in : (w : List ℕ) → Lower w → (b : ℕ) → b ∈ w → (97 ≤ b) × (b ≤ 122)
lower_in [] l b m = absurd (Memᴰ.not-nil m)
lower_in (c ∷ w) l b m = go (Memᴰ.cases_cons m) (lower_in w l.1 b)
  where
    go : (b ≡ c) ⊎ (b ∈ w) → (b ∈ w → (97 ≤ b) × (b ≤ 122)) → (97 ≤ b) × (b ≤ 122)
    go (inl e) f = rw e l.0
    go (inr k) f = f k

pub spelled-spelling : (w : List ℕ) → Spelled w → Spelling w
spelled-spelling w x = record { some = x.some; short = x.short; letters = lower_in w x.letters }

pub sheet-alphabet : (s : List ℕ) → Alphabet (spell_of s) (length (spellings s))
sheet-alphabet s =
    let x = sheet-spellings s in
    record { few = x.few; spelled = λ k h. spelled-spelling (spell_of s k) (x.spelled k h); different = x.different }

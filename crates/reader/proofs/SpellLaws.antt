-- The words that the reader keeps of a sheet's spellings give the spellings back. Assumes nothing.
use mathlib.Core.Path.{◌≡◌, refl, ap, ◌∙◌, fun_ext}
use mathlib.Core.List.{List, [], ◌∷◌, map}
use Prim.Native.Nat.{ℕ, suc, ◌<◌}
use native.Mathlib.Omega.{arith}
use lib.ListN.{length, get_or}
use Rattle.spelling.specs.Spelling.{word}
use Rattle.spelling.proofs.SpellingLaws.{Spelled, spelled-letters, letters-none}
use Rattle.prints.specs.Prints.{spell_at}
use Rattle.head.specs.Head.{spellings}
use Rattle.head.proofs.Spellings.{sheet-spellings}
use Rattle.sheet.specs.Reading.{spell_of}

spell-back : (ws : List (List ℕ)) → ((k : ℕ) → k < length ws → Spelled (get_or ws k [])) → (k : ℕ) → spell_at (map word ws) k ≡ get_or ws k []
spell-back [] f k = letters-none 8 0 refl
spell-back (w ∷ ws) f ℕ.zero = spelled-letters w (f 0 (omega arith))
spell-back (w ∷ ws) f (suc k) = spell-back ws (λ j h. f (suc j) (omega arith)) k

pub spell-line : (s : List ℕ) {ls : List ℕ} → ls ≡ map word (spellings s) → spell_at ls ≡ spell_of s
spell-line s e = ap spell_at e ∙ fun_ext (λ k. spell-back (spellings s) (sheet-spellings s).spelled k)

-- Numbers in decimal digits, computed: the least, where the digits become more, and the largest of 64 bits. Assumes nothing.
use mathlib.Core.Path.{◌≡◌, refl}
use mathlib.Core.List.{[], ◌∷◌, map}
use Rattle.layout.specs.Ascii.{ascii}
use Rattle.lines.specs.Lines.{decimal, digits}

spelled : map decimal (0 ∷ 9 ∷ 10 ∷ 109 ∷ 65535 ∷ 18446744073709551615 ∷ []) ≡ map ascii ("0" ∷ "9" ∷ "10" ∷ "109" ∷ "65535" ∷ "18446744073709551615" ∷ [])
unfolding decimal digits
spelled = refl

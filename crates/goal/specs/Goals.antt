-- The first of some types, if there is one. Assumes nothing.
use Rattle.std.specs.Prelude.{List, [], ◌∷◌, ℕ, Option, Some, None}

unfoldable pub first_of : List ℕ → Option ℕ
first_of [] = None
first_of (t ∷ ts) = Some t

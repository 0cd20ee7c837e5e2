-- The kinds of document 01: what request §3 is compared with. Only theorems that compare with it cite it. Assumes nothing.
use Rattle.std.specs.Prelude.{◌≡◌, cond, false, ℕ}
use mathlib.Core.List.{List, [], ◌∷◌, ◌++◌, Memᴰ}
use Rattle.layout.specs.Text.{split, same}
use Rattle.head.specs.Head.{space, mark_word, name_word, field_word, value_word, kind_right}

-- none of some words is `value`
abbrev pub NoValue : List (List ℕ) → Type 0
NoValue ws = (w : List ℕ) → Memᴰ w ws → same w value_word ≡ false

unfoldable pub former_kind : List ℕ → ℕ
former_kind w = cond (same w mark_word) 1 (cond (same w name_word) 2 (cond (same w field_word) 3 0))

unfoldable pub former_from : List ℕ → List (List ℕ) → List ℕ
former_from seen [] = seen
former_from seen (w ∷ ws) = cond (kind_right seen (former_kind w)) (former_from (seen ++ (former_kind w ∷ [])) ws) []

unfoldable pub former_kinds : List ℕ → List ℕ
former_kinds line = former_from [] (split space line)

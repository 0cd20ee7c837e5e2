-- A line 2 without the word `value` has the kinds that it had in document 01. Assumes nothing.
use mathlib.Core.Path.{◌≡◌, refl, ap, ◌∙◌}
use mathlib.Core.Bool.{false, cond}
use mathlib.Core.List.Memᴰ
use mathlib.Core.List.{List, [], ◌∷◌, ◌++◌}
use Prim.Native.Nat.{ℕ}
use Rattle.layout.specs.Text.{split, same}
use Rattle.head.specs.Head.{space, value_word, kind_of, kind_right, kinds_from, kinds_of}
use Rattle.head.specs.Former.{NoValue, former_kind, former_from, former_kinds}

kind-former : (w : List ℕ) → same w value_word ≡ false → kind_of w ≡ former_kind w
unfolding kind_of former_kind
kind-former w e = rw e

from-former : (ws : List (List ℕ)) (seen : List ℕ) → NoValue ws → kinds_from seen ws ≡ former_from seen ws
unfolding kinds_from former_from
from-former [] seen f = refl
from-former (w ∷ ws) seen f =
    ap (λ k. cond (kind_right seen k) (kinds_from (seen ++ (k ∷ [])) ws) []) (kind-former w (f w (Memᴰ.head refl)))
    ∙ ap (λ l. cond (kind_right seen (former_kind w)) l []) (from-former ws (seen ++ (former_kind w ∷ [])) (λ v m. f v (Memᴰ.tail m)))

pub kinds-former : (line : List ℕ) → NoValue (split space line) → kinds_of line ≡ former_kinds line
unfolding kinds_of former_kinds
kinds-former line f = from-former (split space line) [] f

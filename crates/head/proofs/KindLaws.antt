-- Laws of the kinds on line 2. Assumes nothing.
use mathlib.Core.Path.{◌≡◌}
use mathlib.Core.Bool.{true, false}
use mathlib.Core.List.{List}
use Prim.Native.Nat.{ℕ, ◌≤◌, ◌<◌}
use native.Mathlib.Omega.{arith}
use lib.Dec.{ltb}
use lib.ListN.{length}
use borrow.Author.Tests.{eq-eqb, ne_eqb, lt-ltb, le-ltb}
use Rattle.layout.specs.Text.{same}
use Rattle.head.specs.Head.{name_count, kind_right, mark_word, name_word, field_word, value_word, kind_of}

module _ (w : List ℕ) where
  pub kind-mark : same w mark_word ≡ true → kind_of w ≡ 1
  unfolding kind_of
  kind-mark e = rw e

  pub kind-name : same w mark_word ≡ false → same w name_word ≡ true → kind_of w ≡ 2
  unfolding kind_of
  kind-name e f = rw (e, f)

  pub kind-field : same w mark_word ≡ false → same w name_word ≡ false → same w field_word ≡ true → kind_of w ≡ 3
  unfolding kind_of
  kind-field e f g = rw (e, f, g)

  pub kind-value : same w mark_word ≡ false → same w name_word ≡ false → same w field_word ≡ false → same w value_word ≡ true → kind_of w ≡ 4
  unfolding kind_of
  kind-value e f g h = rw (e, f, g, h)

  pub kind-none : same w mark_word ≡ false → same w name_word ≡ false → same w field_word ≡ false → same w value_word ≡ false → kind_of w ≡ 0
  unfolding kind_of
  kind-none e f g h = rw (e, f, g, h)

module _ (seen : List ℕ) (k : ℕ) where
  pub kind-zero : k ≡ 0 → kind_right seen k ≡ false
  unfolding kind_right
  kind-zero e = rw (le-ltb 0 k (omega arith))

  module _ (ne : k ≡ 0 → ⊥) where
    pub kind-many : 8 ≤ length seen → kind_right seen k ≡ false
    unfolding kind_right
    kind-many h = rw (lt-ltb 0 k (omega arith), le-ltb _ _ h)

    pub kind-third : length seen < 8 → k ≡ 2 → kind_right seen k ≡ ltb (name_count seen) 2
    unfolding kind_right
    kind-third h e = rw (lt-ltb 0 k (omega arith), lt-ltb _ _ h, eq-eqb _ _ e)

    pub kind-other : length seen < 8 → (k ≡ 2 → ⊥) → kind_right seen k ≡ true
    unfolding kind_right
    kind-other h e = rw (lt-ltb 0 k (omega arith), lt-ltb _ _ h, ne_eqb _ _ e)

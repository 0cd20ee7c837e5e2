-- Laws of the refusals 1 and 3. Assumes nothing.
use mathlib.Core.Path.{◌≡◌}
use mathlib.Core.Bool.{true, false}
use mathlib.Core.List.{List}
use Prim.Native.Nat.{ℕ, ◌≤◌, ◌<◌}
use lib.ListN.{length, drop}
use borrow.Author.Tests.{eq-eqb, ne_eqb, lt-ltb, le-ltb, le-leb, lt-leb}
use Rattle.layout.specs.Layout.{parts, lines, lines_from, any_long, length_wrong, starts_right, ends_right, layout_right}

-- ---- 1
pub length-empty : (s : List ℕ) → length s ≡ 0 → length_wrong s ≡ true
unfolding length_wrong
length-empty s e = rw (eq-eqb _ _ e)

pub length_over : (s : List ℕ) → (length s ≡ 0 → ⊥) → 1024 < length s → length_wrong s ≡ true
unfolding length_wrong
length_over s ne h = rw (ne_eqb _ _ ne, lt-ltb _ _ h)

pub length-lines : (s : List ℕ) → (length s ≡ 0 → ⊥) → length s ≤ 1024 → length_wrong s ≡ any_long (parts s)
unfolding length_wrong
length-lines s ne h = rw (ne_eqb _ _ ne, le-ltb _ _ h)

-- ---- 3
pub layout-unended : (s : List ℕ) → ends_right s ≡ false → layout_right s ≡ false
unfolding layout_right
layout-unended s e = rw e

module _ (s : List ℕ) (k : ℕ) (ends : ends_right s ≡ true) (is : k ≡ length (lines s)) where
  pub layout-few : k < 3 → layout_right s ≡ false
  unfolding layout_right
  layout-few h = rw (ends, ← is, lt-leb _ _ h)

  pub layout-many : 3 ≤ k → 7 < k → layout_right s ≡ false
  unfolding layout_right
  layout-many g h = rw (ends, ← is, le-leb _ _ g, lt-leb _ _ h)

  pub layout-starts : (b : ℕ) → lines_from s b ≡ drop 2 (lines s) → 3 ≤ k → k ≤ 7 → layout_right s ≡ starts_right (lines_from s b)
  unfolding layout_right
  layout-starts b third g h = rw (ends, ← is, le-leb _ _ g, le-leb _ _ h, third)

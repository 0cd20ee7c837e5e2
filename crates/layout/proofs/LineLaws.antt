-- Laws of a sheet's lines. Assumes nothing.
use mathlib.Core.Path.{◌≡◌}
use mathlib.Core.Bool.{true, false}
use mathlib.Core.List.{List, [], ◌∷◌}
use Prim.Native.Nat.{ℕ, ◌+◌, ◌≤◌, ◌<◌}
use native.Mathlib.Omega.{arith}
use lib.ListN.{length, drop, drop_of_length-le}
use lib.Seq.{drop-drop}
use Rattle.layout.specs.Text.{part, end_of, split, ended, begins}
use Rattle.layout.specs.Layout.{newline, lines, lines_from, NextLine, all_word, goal_word, starts_right}
use Rattle.layout.proofs.TextLaws.{cut-last, cut-next, lines-last, lines_next}

-- past the end there is no line
pub lines_end : (s : List ℕ) (at : ℕ) → length s ≤ at → lines_from s at ≡ []
unfolding split ended
lines_end s at h = rw (drop_of_length-le s h)

pub parts-end : (s : List ℕ) (at : ℕ) → length s ≤ at → split newline (drop at s) ≡ [] ∷ []
unfolding split
parts-end s at h = rw (drop_of_length-le s h)

module _ (s : List ℕ) (at e : ℕ) (is : e ≡ end_of newline s at) (inside : at ≤ length s) where
  pub more : e < length s → lines_from s at ≡ part s at e ∷ lines_from s (e + 1)
  more h = rw (lines_next newline s at inside (rw (← is) h), ← is)

  pub none : length s ≤ e → lines_from s at ≡ []
  none h = lines-last newline s at inside (rw (← is) h)

  pub next_more : e < length s → NextLine s at (e + 1)
  next_more h = record { inside = omega arith; rest = rw (more h); first = rw (cut-next newline s at inside (rw (← is) h), ← is) }

  pub next-end : length s ≤ e → e ≤ length s → NextLine s at e
  next-end h k = record { inside = k; rest = rw (none h, lines_end s e h); first = rw (cut-last newline s at inside (rw (← is) h), parts-end s e h) }

  -- line starts
  pub starts_none : length s ≤ e → starts_right (lines_from s at) ≡ true
  unfolding starts_right
  starts_none h = rw (none h)

module _ (s : List ℕ) (at e f : ℕ) (is : e ≡ end_of newline s at) (then : f ≡ end_of newline s (e + 1)) (inside : at ≤ length s) (h : e < length s) where
  pub starts-goal : length s ≤ f → starts_right (lines_from s at) ≡ begins (part s at e) goal_word
  unfolding starts_right
  starts-goal k = rw (more s at e is inside h, none s (e + 1) f then (omega arith) k)

  pub starts-not : f < length s → begins (part s at e) all_word ≡ false → starts_right (lines_from s at) ≡ false
  unfolding starts_right
  starts-not k b = rw (more s at e is inside h, more s (e + 1) f then (omega arith) k, b)

  pub starts-next : f < length s → begins (part s at e) all_word ≡ true → starts_right (lines_from s (e + 1)) ≡ starts_right (lines_from s at)
  unfolding starts_right
  starts-next k b = rw (more s at e is inside h, more s (e + 1) f then (omega arith) k, b)

pub starts-end : (s : List ℕ) (at : ℕ) → length s ≤ at → starts_right (lines_from s at) ≡ true
unfolding starts_right
starts-end s at h = rw (lines_end s at h)

-- the third line
pub third-rest : (s : List ℕ) (a b : ℕ) → NextLine s 0 a → NextLine s a b → lines_from s b ≡ drop 2 (lines s)
third-rest s a b n m = rw (m.rest, n.rest, drop-drop)

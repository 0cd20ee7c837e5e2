-- Laws of the declarations. Assumes nothing.
use mathlib.Core.Path.{◌≡◌}
use mathlib.Core.Bool.{Bool, true, false, cond}
use mathlib.Core.List.{List}
use Prim.Native.Nat.{ℕ, ◌+◌, ◌≤◌, ◌<◌, min}
use native.Mathlib.Numerals.{add-one}
use native.Mathlib.Decide.{dec_lt}
use native.Mathlib.Omega.{arith}
use lib.Dec.{eqb}
use lib.ListN.{length, get_or, drop, set, drop_of_length-le}
use lib.Seq.{drop-cons}
use Rattle.head.specs.Head.{place_of, declare}

pub place-low : (a k : ℕ) → a < 8 → place_of a k < 16
place-low a k h = go (eqb k 3)
  where
    go : (x : Bool) → cond x (8 + a) a < 16
    go true = omega arith
    go false = omega arith

module _ (xs ks tab : List ℕ) (i : ℕ) where
  pub declare-more : i < length xs → i < length ks → (p : ℕ) → p ≡ place_of i (get_or ks i 0)
      → declare (i + 1) (drop (i + 1) xs) (drop (i + 1) ks) (set tab p (get_or xs i 0)) ≡ declare i (drop i xs) (drop i ks) tab
  unfolding declare
  declare-more h k p e = rw (drop-cons xs i 0 h, drop-cons ks i 0 k, add-one i, e)

  declare-end : length xs ≤ i → declare i (drop i xs) (drop i ks) tab ≡ tab
  unfolding declare
  declare-end h = rw (drop_of_length-le xs h)

  -- past the last symbol that has a kind
  pub declare-stop : min (length xs) (length ks) ≤ i → declare i (drop i xs) (drop i ks) tab ≡ tab
  unfolding declare
  declare-stop h = go (dec_lt i (length xs))
    where
      go : Dec (i < length xs) → declare i (drop i xs) (drop i ks) tab ≡ tab
      go (yes l) = let k : length ks ≤ i = omega arith in rw (drop-cons xs i 0 l, drop_of_length-le ks k)
      go (no n) = declare-end (omega arith)

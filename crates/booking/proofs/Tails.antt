-- A slice's part from a place to the end, lent and come back. Assumes nothing.
use mathlib.Core.Path.{◌≡◌, ap, ◌∙◌}
use mathlib.Core.List.{List, ◌++◌, append-nil}
use Prim.Native.Nat.{ℕ, ◌-◌}
use native.Mathlib.Nat.{le_of_eq}
use lib.ListN.{length, take, drop, length-drop, drop_of_length-le}
use lib.Seq.{take_all}
use borrow.Rule.Slice.PartMut.{put_mid}

module _ (xs : List ℕ) (a : ℕ) where
  -- the part that begins at a
  pub tail-lent : take (length xs - a) (drop a xs) ≡ drop a xs
  tail-lent = take_all (length xs - a) (drop a xs) (le_of_eq (length-drop a xs))

  -- the whole, after that part came back as ys
  pub tail-back : (ys : List ℕ) → put_mid a (length xs - a) xs ys ≡ take a xs ++ ys
  tail-back ys =
      ap (λ (l : List ℕ). take a xs ++ (ys ++ l)) (drop_of_length-le (drop a xs) (le_of_eq (length-drop a xs)))
      ∙ ap (λ (l : List ℕ). take a xs ++ l) (append-nil ys)

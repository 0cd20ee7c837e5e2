-- The first place of a list at which a test passes is the least number at which it does. Assumes nothing.
use mathlib.Core.Path.{◌≡◌, refl, sym, ◌∙◌}
use mathlib.Core.Bool.{Bool, true, false, not, cond}
use mathlib.Core.List.{List, [], ◌∷◌}
use Prim.Native.Nat.{ℕ, suc, ◌+◌}
use native.Mathlib.Omega.{arith}
use lib.Dec.{ltb}
use borrow.Author.Tests.{ltb-false}
use lib.ListN.{length, get_or}
use Rattle.std.specs.Prelude.{Option, Some, None, position, unwrap_or}
use Rattle.std.specs.List.{position_or_len}
use Rattle.wordset.proofs.BelowLaws.{least-le, least-suc, least_zero}
use Rattle.wordset.specs.Below.{least}

first_least : (p : ℕ → Bool) (xs : List ℕ) → position_or_len p xs ≡ least (length xs) (λ k. p (get_or xs k 0))
first_least p [] = sym (least_zero _)
first_least p (x ∷ xs) = go (p x) (first_least p xs) ∙ sym (least-suc (length xs) (λ k. p (get_or (x ∷ xs) k 0)))
  where
    go : (b : Bool) → position_or_len p xs ≡ least (length xs) (λ k. p (get_or xs k 0)) → cond (not b) (1 + position_or_len p xs) 0 ≡ cond b 0 (suc (least (length xs) (λ k. p (get_or xs k 0))))
    go true e = refl
    go false e = omega arith

pub first-or : (p : ℕ → Bool) (xs : List ℕ) (o : Option ℕ) → o ≡ position p xs → unwrap_or o (length xs) ≡ least (length xs) (λ k. p (get_or xs k 0))
first-or p xs o e = rw e (go (ltb n (length xs)) refl ∙ q)
  where
    n : ℕ
    n = position_or_len p xs

    q : n ≡ least (length xs) (λ k. p (get_or xs k 0))
    q = first_least p xs

    go : (b : Bool) → ltb n (length xs) ≡ b → unwrap_or (cond b (Some n) None) (length xs) ≡ n
    go true e = refl
    go false e = let l = ltb-false n (length xs) e in let m = least-le (length xs) (λ k. p (get_or xs k 0)) in let z : length xs ≡ n = omega (arith, q) in z

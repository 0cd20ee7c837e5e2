-- The first naming, and the next where there is one in hand: their numbers and counts, and that the namings come to an end.
-- Assumes nothing.
use mathlib.Core.Path.{◌≡◌, ap, ◌∙◌}
use mathlib.Core.Bool.{Bool, cond}
use Prim.Native.Nat.{ℕ, ◌+◌, ◌<◌}
use native.Mathlib.Omega.{arith}
use borrow.Author.Tests.{lt-ltb}
use Rattle.naming.specs.declared.Naming.{Naming}
use Rattle.naming.specs.Next.{start_of, next_of}

-- ---- the first of k namings

module _ {k : ℕ} (n : Naming) (e : n ≡ start_of k) where
  pub start-number : n.number ≡ 0
  start-number = ap (λ (m : Naming). m.number) e

  pub start-count : n.count ≡ k
  start-count = ap (λ (m : Naming). m.count) e

-- ---- one of k namings

module _ {k : ℕ} (n : Naming) (e : n.count ≡ k) where
  pub in-hand : n.number < n.count → n.number < k
  in-hand h = omega arith

-- ---- the next

module _ (n m : Naming) (e : m ≡ next_of n) where
  pub next-count : {k : ℕ} → n.count ≡ k → m.count ≡ k
  next-count i = ap (λ (x : Naming). x.count) e ∙ i

  pub next-number : n.number < n.count → m.number ≡ n.number + 1
  next-number h = ap (λ (x : Naming). x.number) e ∙ ap (λ (t : Bool). cond t (n.number + 1) n.count) (lt-ltb n.number n.count h)

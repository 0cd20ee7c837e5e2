-- Lines one after the other: a range of them is cut anywhere. Assumes nothing.
use mathlib.Core.Path.{◌≡◌, refl, sym, ap, ap₂, ◌∙◌}
use mathlib.Core.List.{List, [], ◌++◌, append_assoc, append-nil, map}
use Prim.Native.Nat.{ℕ, zero, suc, ◌+◌, ◌-◌, ◌≤◌}
use native.Mathlib.Nat.{add-zero, zero-add}
use native.Mathlib.Omega.{arith}
use Rattle.ctl.specs.Lists.{count_from}
use Rattle.pages.specs.Pages.{rows}
use Rattle.lines.specs.Lines.{joined}

module _ (line : ℕ → List ℕ) where
  abbrev run : ℕ → ℕ → List ℕ
  run a n = joined (map line (count_from a n))

  run-split : (a m n : ℕ) → run a (m + n) ≡ run a m ++ run (a + m) n
  run-split a zero n = ap₂ run (sym (add-zero a)) (zero-add n)
  run-split a (suc m) n =
      let e : suc m + n ≡ suc (m + n) = omega arith in
      let i : suc a + m ≡ a + suc m = omega arith in
      ap (run a) e ∙ ap (λ l. line a ++ l) (run-split (suc a) m n ∙ ap (λ k. run (suc a) m ++ run k n) i) ∙ sym (append_assoc (line a) (run (suc a) m) (run (a + suc m) n))

  pub rows_split : (a b c : ℕ) → a ≤ b → b ≤ c → rows line a c ≡ rows line a b ++ rows line b c
  rows_split a b c h k =
      let e : c - a ≡ (b - a) + (c - b) = omega arith in
      let i : a + (b - a) ≡ b = omega arith in
      ap (run a) e ∙ run-split a (b - a) (c - b) ∙ ap (λ n. rows line a b ++ run n (c - b)) i

  pub rows_none : (a : ℕ) → rows line a a ≡ []
  rows_none a = let e : a - a ≡ 0 = omega arith in ap (run a) e

  pub rows-one : (a : ℕ) → rows line a (a + 1) ≡ line a
  rows-one a = let e : a + 1 - a ≡ 1 = omega arith in ap (run a) e ∙ append-nil (line a)

  pub rows_next : (a b : ℕ) → a ≤ b → rows line a (b + 1) ≡ rows line a b ++ line b
  rows_next a b h = rows_split a b (b + 1) h (omega arith) ∙ ap (λ l. rows line a b ++ l) (rows-one b)

-- the same lines by another function
run-same : (f g : ℕ → List ℕ) → ((r : ℕ) → f r ≡ g r) → (a n : ℕ) → joined (map f (count_from a n)) ≡ joined (map g (count_from a n))
run-same f g e a zero = refl
run-same f g e a (suc n) = ap₂ ◌++◌ (e a) (run-same f g e (suc a) n)

pub rows_same : (f g : ℕ → List ℕ) → ((r : ℕ) → f r ≡ g r) → (a b : ℕ) → rows f a b ≡ rows g a b
rows_same f g e a b = run-same f g e a (b - a)

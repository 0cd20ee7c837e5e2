-- Truth in a type goes through the expansions. Assumes nothing.
use mathlib.Core.Path.{◌≡◌, refl, sym, ap, ◌∙◌}
use mathlib.Core.Bool.{◌&&◌, ◌||◌, or-false, and-true}
use mathlib.Core.List.{List, [], ◌∷◌, map}
use Prim.Native.Nat.{ℕ, ◌^◌}
use Rattle.ctl.specs.Lists.{◌∈◌, any_of, all_of}
use Rattle.ctl.specs.Formula.{Form, tru, fls, lit, nlit, and, or, ex, ax, eu, au, er, ar}
use Rattle.ctl.specs.Modes.{modes, all_modes}
use Rattle.ctl.specs.Expansion.{or_all, and_all, expand}
use Rattle.ctl.specs.Types.{holds, ex_some, ax_every, truth}
use Rattle.ctl.proofs.ListLaws.{any_same, all_same}
use Rattle.ctl.proofs.ModeLaws.{modes-in, modes-one}

module _ (ln : List Form) (t : ℕ) where
  or-truth : (f : ℕ → Form) (ms : List ℕ) → truth ln t (or_all (map f ms)) ≡ any_of (λ m. truth ln t (f m)) ms
  unfolding truth
  or-truth f [] = refl
  or-truth f (a ∷ []) = sym (or-false (truth ln t (f a)))
  or-truth f (a ∷ (b ∷ r)) = ap (λ c. truth ln t (f a) || c) (or-truth f (b ∷ r))

  and-truth : (f : ℕ → Form) (ms : List ℕ) → truth ln t (and_all (map f ms)) ≡ all_of (λ m. truth ln t (f m)) ms
  unfolding truth
  and-truth f [] = refl
  and-truth f (a ∷ []) = sym (and-true (truth ln t (f a)))
  and-truth f (a ∷ (b ∷ r)) = ap (λ c. truth ln t (f a) && c) (and-truth f (b ∷ r))

  -- EX and AX over one mode are true in the types that have their place
  pub truth-ex : {m : ℕ} → m ∈ all_modes → (p : Form) → truth ln t (ex (2 ^ m) p) ≡ holds ln t (ex (2 ^ m) p)
  unfolding truth ex_some
  truth-ex {m} k p = ap (any_of (λ m. holds ln t (ex (2 ^ m) p))) (modes-one k) ∙ or-false (holds ln t (ex (2 ^ m) p))

  pub truth-ax : {m : ℕ} → m ∈ all_modes → (p : Form) → truth ln t (ax (2 ^ m) p) ≡ holds ln t (ax (2 ^ m) p)
  unfolding truth ax_every
  truth-ax {m} k p = ap (all_of (λ m. holds ln t (ax (2 ^ m) p))) (modes-one k) ∙ and-true (holds ln t (ax (2 ^ m) p))

  -- every formula is true exactly where its expansion is
  pub truth-expand : (p : Form) → truth ln t p ≡ truth ln t (expand p)
  unfolding truth expand ex_some ax_every
  truth-expand tru = refl
  truth-expand fls = refl
  truth-expand (lit k) = refl
  truth-expand (nlit k) = refl
  truth-expand (and p q) = refl
  truth-expand (or p q) = refl
  truth-expand (ex A p) =
      any_same (λ m. holds ln t (ex (2 ^ m) p)) (λ m. truth ln t (ex (2 ^ m) p)) (modes A) (λ m k. sym (truth-ex (modes-in A k).0 p)) ∙ sym (or-truth (λ m. ex (2 ^ m) p) (modes A))
  truth-expand (ax A p) =
      all_same (λ m. holds ln t (ax (2 ^ m) p)) (λ m. truth ln t (ax (2 ^ m) p)) (modes A) (λ m k. sym (truth-ax (modes-in A k).0 p)) ∙ sym (and-truth (λ m. ax (2 ^ m) p) (modes A))
  truth-expand (eu A p q) = refl
  truth-expand (au A p q) = refl
  truth-expand (er A p q) = refl
  truth-expand (ar A p q) = refl

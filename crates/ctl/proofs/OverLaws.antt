-- The closure of formulas over some symbols is over them. Assumes nothing.
use mathlib.Core.Path.{sym, subst}
use mathlib.Core.List.Memᴰ
use mathlib.Core.List.{List}
use Prim.Native.Nat.{ℕ, ◌^◌, ◌<◌}
use lib.Pow.{pow-lt}
use Rattle.ctl.specs.Lists.{◌∈◌}
use Rattle.ctl.specs.Formula.{Form}
use Rattle.ctl.specs.Modes.{modes}
use Rattle.ctl.specs.Alphabet.{Declared, DeclaredAll, Over}
use Rattle.ctl.specs.Closure.{closure}
use Rattle.ctl.proofs.ModeLaws.{modes-in, modes-one, mode-lt}
use Rattle.ctl.proofs.UsesLaws.{closure-uses}

module _ (count : ℕ) where
  one-declared : (A m : ℕ) → DeclaredAll count A → m ∈ modes A → DeclaredAll count (2 ^ m)
  one-declared A m d k = (pow-lt (mode-lt (modes-in A k).0), λ a i. subst (Declared count) (sym (Memᴰ.eq_of_singleton (subst (λ l. a ∈ l) (modes-one (modes-in A k).0) i))) (d.1 m k))

  -- the closure of formulas over the symbols is over them
  pub closure-over : (l : List Form) → ((p : Form) → p ∈ l → Over count p) → (p : Form) → p ∈ closure l → Over count p
  closure-over = closure-uses (λ k. k < count) (DeclaredAll count) one-declared

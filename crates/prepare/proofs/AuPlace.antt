-- A closure that has an AU has AX over each of its modes alone, of that AU. Assumes nothing.
use mathlib.Core.Path.{◌≡◌, refl, sym, subst}
use mathlib.Core.Logic.{◌⊎◌, inl, inr}
use mathlib.Core.Bool.{true}
use mathlib.Core.List.Memᴰ
use mathlib.Core.List.{List, [], ◌∷◌, map}
use Prim.Native.Nat.{ℕ, ◌^◌, ◌<◌}
use Rattle.ctl.specs.Lists.{◌∈◌}
use Rattle.ctl.specs.Formula.{Form, tru, and, or, ex, ax, au}
use Rattle.ctl.specs.Modes.{has_mode, modes}
use Rattle.ctl.specs.Expansion.{and_all, expand, parts}
use Rattle.ctl.specs.Closure.{closure}
use Rattle.ctl.proofs.BoolLaws.{T_true}
use Rattle.ctl.proofs.ClosureLaws.{closure-saturated}
use Rattle.ctl.proofs.ModeLaws.{modes-has}

module _ (l : List Form) where
  abbrev In : Form → Type 0
  In p = p ∈ closure l

  second-and : (p q : Form) → In (and p q) → In q
  unfolding parts
  second-and p q h = (closure-saturated l).part (and p q) q h (Memᴰ.tail (Memᴰ.head refl))

  second-or : (p q : Form) → In (or p q) → In q
  unfolding parts
  second-or p q h = (closure-saturated l).part (or p q) q h (Memᴰ.tail (Memᴰ.head refl))

  first-and : (p q : Form) → In (and p q) → In p
  unfolding parts
  first-and p q h = (closure-saturated l).part (and p q) p h (Memᴰ.head refl)

  -- what is joined by `&`
  joined : (f : ℕ → Form) (ms : List ℕ) → In (and_all (map f ms)) → (m : ℕ) → m ∈ ms → In (f m)
  joined f [] h m k = absurd (Memᴰ.not-nil k)
  joined f (a ∷ []) h m k = subst (λ b. In (f b)) (sym (Memᴰ.eq_of_singleton k)) h
  joined f (a ∷ (b ∷ r)) h m k = go (Memᴰ.cases_cons k) (joined f (b ∷ r) (second-and (f a) (and_all (map f (b ∷ r))) h) m)
    where
      go : (m ≡ a) ⊎ (m ∈ b ∷ r) → (m ∈ b ∷ r → In (f m)) → In (f m)
      go (inl e) rec = subst (λ b. In (f b)) (sym e) (first-and (f a) (and_all (map f (b ∷ r))) h)
      go (inr j) rec = rec j

  pub au-next : (A m : ℕ) (p q : Form) → m < 16 → has_mode A m ≡ true → In (au A p q) → In (ax (2 ^ m) (au A p q))
  unfolding expand
  au-next A m p q b e h =
      let s = au A p q in
      let n = second-and (ex A tru) (ax A s) (second-and p (and (ex A tru) (ax A s)) (second-or q (and p (and (ex A tru) (ax A s))) ((closure-saturated l).expansion s h))) in
      joined (λ a. ax (2 ^ a) s) (modes A) ((closure-saturated l).expansion (ax A s) n) m (modes-has A m b (T_true (has_mode A m) e))

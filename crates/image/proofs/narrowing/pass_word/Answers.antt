-- `pass_word` meets its contract. Assumes nothing.
use mathlib.Core.Path.{◌≡◌, sym, ap}
use mathlib.Core.Bool.{Bool, true, false, not}
use mathlib.Core.List.{List}
use Prim.Native.Nat.{ℕ}
use borrow.Author.Tests.{eq-eqb, ne_eqb}
use Rattle.truth.proofs.BlockLaws.{word-as}
use Rattle.conditions.specs.Entries.{in_some}
use Rattle.image.specs.Narrowing.{not_all, passing}
use Rattle.image.proofs.narrowing.pass_word.Goals as goal

lacking : (w : ℕ) (cw : List ℕ) (r u : ℕ) {lack : Bool} → lack ≡ true → not_all w cw r u ≡ passing w cw r lack u
unfolding passing
lacking w cw r u e = sym (ap (λ b. passing w cw r b u) e)

having : (w : ℕ) (cw : List ℕ) (r u : ℕ) {lack : Bool} → lack ≡ false → in_some w cw r u ≡ passing w cw r lack u
unfolding passing
having w cw r u e = sym (ap (λ b. passing w cw r b u) e)

pub returns-then-this-ne0 : goal.returns-then-this-ne0
returns-then-this-ne0 g c = word-as (λ u. lacking _ _ _ u (ap not (ne_eqb _ 0 c.if-this-ne0.true))) c.lack_word.ensures

pub returns : goal.returns
returns g c = word-as (λ u. having _ _ _ u (ap not (eq-eqb _ 0 c.if-this-ne0.false))) c.some_word.ensures

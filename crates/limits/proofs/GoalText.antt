-- The goal's text is empty exactly with a refusal. Assumes nothing.
use mathlib.Core.Path.{◌≡◌, sym, ap}
use mathlib.Core.Logic.{◌↔◌}
use mathlib.Core.List.{List, []}
use Prim.Native.Nat.{ℕ, ◌<◌}
use native.Mathlib.Omega.{arith}
use lib.ListN.{length}
use borrow.Author.Tests.{eq-eqb}
use Rattle.sheet.specs.Sheet.{goal_under}
use Rattle.sheet.proofs.SheetLaws.{goal-refused}
use Rattle.sheet.proofs.GoalLaws.{goal-some}
use Rattle.limits.specs.declared.Limits.{Limits}
use Rattle.limits.specs.Limits.{refusal_under}
use Rattle.limits.proofs.LimitLaws.{accepted-read}

module _ (l : Limits) (s : List ℕ) where
  -- a sheet that is accepted has a goal's text of at least one byte
  pub goal-text-some : refusal_under l s ≡ 0 → 0 < length (goal_under s (refusal_under l s))
  unfolding goal_under
  goal-text-some z = let h = goal-some s (accepted-read l s z) in rw (eq-eqb (refusal_under l s) 0 z) h

  pub goal-text-empty-iff : (goal_under s (refusal_under l s) ≡ []) ↔ (refusal_under l s ≡ 0 → ⊥)
  goal-text-empty-iff = ((λ e z. (let h = goal-text-some z in let n : length (goal_under s (refusal_under l s)) ≡ 0 = ap length e in omega arith)), λ n. sym (goal-refused s (refusal_under l s) n))

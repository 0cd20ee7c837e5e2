-- `mode_of` meets its contract: only a set of one mode is the power of two of its lowest digit. Assumes nothing.
use mathlib.Core.Logic.{inr}
use mathlib.Core.Path.{refl, sym, ◌∙◌}
use native.Mathlib.Omega.{arith}
use Rattle.wordset.proofs.BitLaws.{shl_one}
use Rattle.members.proofs.ModeLaws.{no-single}
use Rattle.members.proofs.parts.mode_of.Goals.{else-m-lt16-via-then-m-lt16+else-a-m, else-m-lt16-via-else-m-lt16}
use Rattle.members.proofs.parts.mode_of.Goals as goal

pub returns-else-m-lt16 : goal.returns-else-m-lt16
returns-else-m-lt16 c = inr (
  refl,
  no-single _ (λ h e. elim c.else-m-lt16.branch [
    | else-m-lt16-via-then-m-lt16+else-a-m w ↦ w.if-a-m.false (e ∙ sym (shl_one _ (omega arith)))
    | else-m-lt16-via-else-m-lt16 w ↦ omega arith
  ]),
)

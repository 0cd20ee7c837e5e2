-- `sheet::goal_part` meets its contract. Assumes nothing.
use Rattle.sheet.proofs.SheetLaws.{goal-refused, goal-is, start-refused, goal-place}
use mathlib.Core.Path.{refl}
use native.Mathlib.Omega.{arith}
use Rattle.sheet.proofs.goal_part.Goals as goal

pub returns-then-refusal-ne0 : goal.returns-then-refusal-ne0
returns-then-refusal-ne0 c = let s = c.args.s.now in
    let k = c.args.refusal in record { result_value = goal-refused _ _ c.if-refusal-ne0.true; ref_ptr_value = (refl, λ e. omega (arith, start-refused s k c.if-refusal-ne0.true)) }

pub returns : goal.returns
returns c = record {
  result_value = goal-is _ _ _ c.third_line.result c.if-refusal-ne0.false c.third_line.ensures.1 c.last_text-g.ensures.is;
  ref_ptr_value = (refl, λ e. (let p = goal-place _ _ c.third_line.result _ c.if-refusal-ne0.false c.third_line.ensures.1 c.last_text-g.ensures (e c.if-refusal-ne0.false) in omega arith));
}

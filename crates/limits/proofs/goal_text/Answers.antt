-- `goal_text` meets its contract. Assumes nothing.
use mathlib.Core.Path.{sym, ap, ◌∙◌}
use Rattle.std.proofs.Common.{◌≡◌, ◌+◌, rules}
use Rattle.sheet.specs.Sheet.{goal_under, goal_start}
use Rattle.sheet.proofs.RefusalLaws.{right-layout}
use Rattle.limits.specs.Limits.{refusal_under}
use Rattle.limits.proofs.GoalText.{goal-text-empty-iff}
use Rattle.limits.proofs.LimitLaws.{accepted-read}
use Rattle.limits.proofs.goal_text.Goals as goal

pub returns : goal.returns
returns c =
    let l = c.args.l in
    let a = c.args.s in
    let e : c.map_or-k.result ≡ refusal_under l a.now = search rules in
    let q = c.goal_part.ensures.result_value ∙ ap (goal_under a.now) e in
    let i = goal-text-empty-iff l a.now in
    record {
      result_value = q;
      ref_ptr_value = (
        c.goal_part.ensures.ref_ptr_value.0,
        c.goal_part.ensures.ref_ptr_value.1 (λ z. right-layout a.now (accepted-read l a.now (sym e ∙ z))) ∙ ap (λ k. a.ref_ptr.1 + goal_start a.now k) e,
      );
      variant = ((λ h. i.0 (sym q ∙ h)), λ n. q ∙ i.1 n);
    }

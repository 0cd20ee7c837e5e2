-- `refused` meets its contract. Assumes nothing.
use mathlib.Core.Path.{ap, sym, ◌∙◌}
use mathlib.Core.List.{◌++◌}
use native.Mathlib.Omega.{arith}
use lib.ListN.{take}
use lib.Seq.{length-take-le}
use Rattle.buffer.proofs.PutLaws.{put_front}
use Rattle.lines.specs.Lines.{refused_line}
use Rattle.refusal.proofs.NumberLaws.{number-some}
use Rattle.report.specs.Text.{lines_of, up_to}
use Rattle.report.proofs.TextLaws.{refused-count, refused-text}
use Rattle.report.proofs.refused.Goals as goal

pub slice_bounds-write_lines-end : goal.slice_bounds-write_lines-end
slice_bounds-write_lines-end c =
    let r = c.put_refused-n.ensures.upper_bound in
    let k = c.put_refused-n.auto.out in
    sym (length-take-le _ _ (omega arith))

pub write_lines-requires : goal.write_lines-requires
write_lines-requires c =
    ap (λ k. up_to k (lines_of c.args.job.now.limits c.args.job.now.sheet.now c.args.job.now.newline.now) ++ take c.put_refused-n.result c.put_refused-n.new.out) c.requires.done_value ∙ put_front (omega arith) c.put_refused-n.ensures.put
    ∙ ap (λ k. refused_line k c.args.job.now.newline.now) c.number.ensures ∙ sym (refused-text _ _ _ _ c.requires.why_value.0 (number-some _))

pub returns : goal.returns
returns c =
    c.write_lines.ensures ∙ refused-count _ _ _ _ c.requires.why_value.0 (number-some _)

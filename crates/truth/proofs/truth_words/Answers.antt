use mathlib.Core.Path.{◌∙◌}
use Rattle.truth.proofs.Redoing.{redone-next}
use Rattle.truth.proofs.truth_words.Goals as goal

pub loop-i-preserved : goal.loop-i-preserved
loop-i-preserved c =
    let v = c.loop-i.invariant in
    (c.truth_block.ensures.long ∙ v.0, redone-next c.truth_block.ensures v.1)

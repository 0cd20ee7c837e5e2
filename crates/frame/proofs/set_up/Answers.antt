-- `set_up` meets its contract: a refusal, or the frame of what was read. Assumes nothing.
use Rattle.std.proofs.Common.{refl, rules}
use Rattle.frame.proofs.SetUpLaws.{formulas-five, frame-asked, setup-accepted}
use Rattle.frame.proofs.set_up.Goals as goal

pub shared_ref_as_front-frame_of-4 : goal.shared_ref_as_front-frame_of-4
shared_ref_as_front-frame_of-4 c =
    formulas-five _ c.in_ok-r.ensures

pub frame_of-f-requires : goal.frame_of-f-requires
frame_of-f-requires c =
    frame-asked _ c.in_ok-r.ensures (search rules) refl refl refl

pub returns : goal.returns
returns c =
    setup-accepted _ c.in_ok-r.ensures (search rules) c.frame_of-f.ensures c.frame_of-f.auto.globals c.frame_of-f.auto.names c.frame_of-f.auto.values

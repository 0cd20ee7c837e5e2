use native.Mathlib.Omega.{arith}
use Rattle.truth.proofs.BlockLaws.{word-not}
use Rattle.truth.proofs.Folds.{meet-end, meet-on, meet-start}
use Rattle.start.specs.Starts.{has_none}
use Rattle.start.proofs.free_word.Goals as goal

pub loop-v-init : goal.loop-v-init
loop-v-init c = meet-start _

pub loop-v-preserved : goal.loop-v-preserved
loop-v-preserved c = meet-on _ c.loop-v.invariant (word-not c.place_word.ensures)

pub returns : goal.returns
unfolding has_none
returns c = meet-end _ c.loop-v.invariant (omega arith)

use native.Mathlib.Omega.{arith}
use borrow.Author.Rules.{rules}
use Rattle.wordset.proofs.Packing.{pack-start}
use Rattle.image.proofs.Fours.{narrow-as, narrow-four, narrow-part}
use Rattle.image.proofs.narrowing.fours.Goals as goal

pub loop-j-init : goal.loop-j-init
loop-j-init g c = pack-start

pub loop-j-preserved : goal.loop-j-preserved
loop-j-preserved g c =
    let k = c.keep_four-any in
    narrow-as k.ensures.0 k.ensures.1 (omega arith)
    (narrow-four c.loop-j.invariant (let t = c.loop-j-test.true in omega arith) (λ i. search rules) c.four.ensures)

pub returns : goal.returns
returns g c = narrow-part c.loop-j.invariant (omega arith)

use Rattle.std.proofs.Common.{rules}
use Rattle.wordset.proofs.AnswersLaws.{minus-answers, word-answers}
use Rattle.wordset.proofs.Filling.{next-answers}
use Rattle.wordset.proofs.Packing.{pack-any, pack-end, pack-on, pack-start}
use Rattle.wordset.proofs.subtract.Goals as goal

pub loop-i-preserved : goal.loop-i-preserved
loop-i-preserved c =
    let a = word-answers _ _ (c.type_inv.src _).fits in
    pack-on c.loop-i.invariant c.loop-i-test.true (minus-answers (next-answers c.loop-i.invariant.fill (search rules)) a) a

pub returns : goal.returns
returns c = let s = c.loop-i.invariant in record { dst_after = pack-end s c.loop-i-test.false; value = pack-any s c.loop-i-test.false }

pub loop-i-init : goal.loop-i-init
loop-i-init c = pack-start

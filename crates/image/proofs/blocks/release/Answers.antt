use Prim.Native.Nat.{◌^◌, ◌<◌}
use lib.ListN.{get_or}
use borrow.Author.Rules.{rules}
use Rattle.wordset.proofs.AnswersLaws.{and-answers, minus-answers, word-answers}
use Rattle.wordset.proofs.Filling.{next-answers}
use Rattle.wordset.proofs.Packing.{pack-any, pack-on, pack-start}
use Rattle.truth.proofs.BlockLaws.{block-word}
use Rattle.image.proofs.blocks.release.Goals as goal

pub loop-k-init : goal.loop-k-init
loop-k-init c = pack-start

pub loop-k-preserved : goal.loop-k-preserved
loop-k-preserved c =
    let s = c.loop-k.invariant in
    let small : get_or c.loop-k.dst c.loop-k.k 0 < 2 ^ 64 = search rules in
    let x = minus-answers (block-word _ _ _ _ (c.type_inv.tw _).fits) (word-answers _ _ (c.type_inv.u _).fits) in
    let y = next-answers s.fill small in
    pack-on s c.loop-k-test.true (minus-answers y x) (and-answers y x)

pub returns-clause-value : goal.returns-clause-value
returns-clause-value c = pack-any c.loop-k.invariant c.loop-k-test.false

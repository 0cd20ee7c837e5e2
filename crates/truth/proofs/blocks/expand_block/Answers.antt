use Rattle.truth.proofs.Redoing.{earlier, redo-end, redo-on, still}
use Rattle.truth.proofs.blocks.expand_block.Goals as goal

pub loop-k-preserved : goal.loop-k-preserved
loop-k-preserved c =
    let s = c.loop-k.invariant in
    let h = c.loop-k-test.true in
    (redo-on s.0 c.requires.0 h (λ X P Q x y z. c.expand_word.ensures X P Q _ (still s.0 x) (earlier s.0 c.requires.1 h y) (earlier s.0 c.requires.2 h z)), s.1, s.2)

pub returns : goal.returns
returns c X P Q x y z = redo-end c.loop-k.invariant.0 c.loop-k-test.false (λ l h v a. a X P Q (x l h) (y l h) (z l h))

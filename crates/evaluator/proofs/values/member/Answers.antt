-- `member` meets its contract: plain or modal by its tag. Assumes nothing.
use Rattle.evaluator.proofs.SatLaws.{modal-is, plain-is}
use Rattle.evaluator.proofs.values.member.Goals as goal

pub returns-then-t-lt6 : goal.returns-then-t-lt6
returns-then-t-lt6 c =
    plain-is c.args.out.now c.args.n c.args.w c.args.p c.args.q _ _ _ c.tag-t.ensures c.arg-a.ensures c.if-t-lt6.true c.plain.ensures

pub returns : goal.returns
returns c =
    modal-is c.args.out.now c.args.n c.args.w c.args.p c.args.q _ _ _ c.tag-t.ensures c.arg-a.ensures _ c.if-t-lt6.false c.edge_words.ensures c.modal.ensures

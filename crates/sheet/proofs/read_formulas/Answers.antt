use native.Mathlib.Omega.{arith}
use Rattle.sheet.proofs.FormulaLaws.{going-last, going-room, going_step, texts-none, texts-end}
use Rattle.layout.proofs.ScanLaws.{part_length}
use lib.ListN.{length-set}
use Prim.Native.Nat.{◌<◌}
use mathlib.Core.Path.{◌∙◌}
use Rattle.sheet.proofs.read_formulas.Goals as goal

pub returns-then-s-e : goal.returns-then-s-e
returns-then-s-e c =
    going-last _ _ _ _ _ _ _ _ c.loop-at.invariant.1.1.1 (omega arith) (texts-none _ _ _ c.end_of-e.ensures.0 (omega arith) c.if-s-e.true)

pub loop-at-preserved : goal.loop-at-preserved
loop-at-preserved c = (
  (
    omega (arith, c.read_one-one.ensures.bound, c.text_at-a.ensures.after, c.text_at-a.ensures.before, part_length c.args.s.now c.text_at-a.result c.end_of-e.result (omega arith)),
    omega (arith, c.read_one-one.ensures.bound, c.text_at-a.ensures.after, c.text_at-a.ensures.before, part_length c.args.s.now c.text_at-a.result c.end_of-e.result (omega arith)),
  ),
  (
    c.read_one-one.auto.tab ∙ c.loop-at.invariant.1.0,
    (
      simp length-set c.loop-at.invariant.1.1.0,
      going_step _ _ _ _ _ _ _ _ c.loop-at.invariant.1.1.1 _ _ c.text_at-a.ensures.texts-are _ _ _ c.read_one-one.ensures (omega arith) (let q : c.loop-at.k < 5 = going-room _ _ _ _ _ _ _ _ c.loop-at.invariant.1.1.1 _ _ c.text_at-a.ensures.texts-are c.requires.1.1 in omega arith) c.lower-low.ensures,
    ),
  ),
)

pub returns : goal.returns
returns c =
    going-last _ _ _ _ _ _ _ _ c.loop-at.invariant.1.1.1 (omega arith) (texts-end _ _ c.loop-at-test.false)

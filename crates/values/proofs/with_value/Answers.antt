-- `with_value` meets its contract: a symbol of another kind changes nothing, and there is room for a value. Assumes nothing.
use native.Mathlib.Omega.{arith}
use Rattle.members.specs.Members.{c-lit}
use Rattle.values.proofs.TableLaws.{kind-other, kind-value, kind-full}
use Rattle.values.proofs.with_value.Goals as goal

pub returns-then-kind-ne4 : goal.returns-then-kind-ne4
returns-then-kind-ne4 c = kind-other c.requires.0 _ _ c.if-kind-ne4.true

pub make-requires : goal.make-requires
make-requires c =
    let h = c.requires.1.1 in
    (c.requires.0, (omega arith, (omega arith, (omega arith, (omega arith, c-lit {k = c.args.k} (omega arith))))))

pub returns-in-Some : goal.returns-in-Some
returns-in-Some c =
    kind-value c.requires.0 _ _ c.if-kind-ne4.false c.make.ensures c.in-Some.is

pub returns-in-None : goal.returns-in-None
returns-in-None c =
    kind-full c.requires.0 c.requires.1.0 c.make.ensures c.in-None.is

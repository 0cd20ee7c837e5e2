use native.Mathlib.Omega.{arith}
use Rattle.start.proofs.NamedNumbers.{type-lt}
use Rattle.start.proofs.Starting.{started-all, started-first, started-on}
use Rattle.start.proofs.start_words.Goals as goal

pub loop-i-init : goal.loop-i-init
loop-i-init c =
    let a = c.args in
    started-first a.w a.base.now a.names.now a.n a.r (omega (arith, c.copy.auto.dst)) _ c.requires.1.1.1.1 c.copy.ensures

pub add_type-requires : goal.add_type-requires
add_type-requires c =
    let l = type-lt _ c.args.n c.args.r c.loop-i.i (c.requires.0.within _ c.loop-i-test.true) c.requires.0.narrow in
    (c.requires.0, (omega arith, (omega arith, (omega (arith, c.loop-i.auto.dst, c.copy.auto.dst), omega arith))))

pub loop-i-preserved : goal.loop-i-preserved
loop-i-preserved c =
    let a = c.args in
    started-on a.w a.base.now a.names.now a.n a.r (omega (arith, c.copy.auto.dst)) c.loop-i.invariant c.named_type-t.ensures c.add_type.ensures

pub returns : goal.returns
returns c =
    let a = c.args in
    started-all a.w a.base.now a.names.now a.n a.r (omega (arith, c.copy.auto.dst)) c.loop-i.invariant (omega arith) _ c.requires.1.1.1.1 c.copy.ensures

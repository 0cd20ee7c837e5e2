use Prim.Native.Nat.{◌-◌}
use native.Mathlib.Omega.{arith}
use Rattle.spelling.proofs.SpellingLaws.{packed_none, packed-next}
use Rattle.spelling.proofs.word_from.Goals as goal

pub loop-i-init : goal.loop-i-init
loop-i-init c = (c.requires.0, packed_none _)

pub overflow_mul-x : goal.overflow_mul-x
overflow_mul-x c = let q = c.loop-i.invariant.1.small 7 (omega arith) in omega arith

pub overflow_add-x : goal.overflow_add-x
overflow_add-x c = let q = c.loop-i.invariant.1.small 7 (omega arith) in let h = c.type_inv.w (c.loop-i.i - 1) in omega (arith, c.from.ensures, h)

pub loop-i-preserved : goal.loop-i-preserved
loop-i-preserved c =
    let h = c.type_inv.w (c.loop-i.i - 1) in
    (omega arith, packed-next c.loop-i.invariant.1 (omega arith) (omega arith) c.from.ensures (omega (arith, c.from.ensures, h)))

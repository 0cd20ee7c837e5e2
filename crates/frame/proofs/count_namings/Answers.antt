-- `count_namings` meets its contract: the shift stays within a word. Assumes nothing.
use mathlib.Core.Path.{sym, ap, ◌∙◌}
use Prim.Native.Nat.{◌-◌, ◌*◌, ◌^◌}
use native.Mathlib.Nat.{mul-zero}
use native.Mathlib.Omega.{arith}
use Rattle.frame.proofs.CopyLaws.{few_bits, shift_is}
use Rattle.frame.proofs.count_namings.Goals as goal

pub returns-then-names-eq0 : goal.returns-then-names-eq0
returns-then-names-eq0 c =
    let a = c.args in
    sym (ap (λ n. 2 ^ ((a.width - 1) * n)) c.if-names-eq0.true ∙ ap (λ n. 2 ^ n) (mul-zero (a.width - 1)))

pub overflow_sub-result : goal.overflow_sub-result
overflow_sub-result c = let h = c.requires.1.1 (let n = c.if-names-eq0.false in omega arith) in omega arith

pub overflow_mul-result : goal.overflow_mul-result
overflow_mul-result c = let a = c.args in let b = few_bits a.names a.width c.requires.0 c.requires.1.0 in omega arith

pub overflow_shl-result : goal.overflow_shl-result
overflow_shl-result c = let a = c.args in let b = few_bits a.names a.width c.requires.0 c.requires.1.0 in omega arith

pub returns : goal.returns
returns c =
    let a = c.args in
    let b = few_bits a.names a.width c.requires.0 c.requires.1.0 in
    shift_is ((a.width - 1) * a.names) (omega arith)

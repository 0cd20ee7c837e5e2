-- `own` meets its contract, a return for each way through the match. Assumes nothing.
use mathlib.Core.Path.{refl}
use native.Mathlib.Omega.{arith}
use Rattle.conditions.proofs.RuleLaws.{own_back, own-forth, own-none}
use Rattle.conditions.proofs.own.Goals as goal

pub returns-in-6 : goal.returns-in-6
returns-in-6 c =
    own-forth c.requires.0 _ c.requires.1 _ _ _ c.tag.ensures c.arg.ensures c.mode_of-m.ensures _ c.left.ensures (omega arith) (omega arith) c.if-m-lt8.true

pub returns-in-7 : goal.returns-in-7
returns-in-7 c =
    own_back c.requires.0 _ c.requires.1 _ _ _ c.tag.ensures c.arg.ensures c.mode_of-m.ensures _ c.left-in-7.ensures (omega arith) (omega arith) (omega arith) (omega arith) (omega arith) refl

pub returns-in_default : goal.returns-in_default
returns-in_default c =
    own-none c.requires.0 _ c.requires.1 _ _ _ c.tag.ensures c.arg.ensures c.mode_of-m.ensures (λ e. omega (arith, e)) (λ e. omega (arith, e))

pub returns-in_default-2 : goal.returns-in_default-2
returns-in_default-2 c =
    own-none c.requires.0 _ c.requires.1 _ _ _ c.tag.ensures c.arg.ensures c.mode_of-m.ensures (λ e. omega (arith, e)) (λ e. omega (arith, e))

pub returns-in_default-3 : goal.returns-in_default-3
returns-in_default-3 c =
    own-none c.requires.0 _ c.requires.1 _ _ _ c.tag.ensures c.arg.ensures c.mode_of-m.ensures (λ e. omega (arith, e)) (λ e. omega (arith, e))

pub returns-in_default-4 : goal.returns-in_default-4
returns-in_default-4 c =
    own-none c.requires.0 _ c.requires.1 _ _ _ c.tag.ensures c.arg.ensures c.mode_of-m.ensures (λ e. omega (arith, e)) (λ e. omega (arith, e))

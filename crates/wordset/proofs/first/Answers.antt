use native.Mathlib.Omega.{arith}
use lib.Seq.{length-take-le}
use Rattle.wordset.proofs.AnswersLaws.{front-answers}
use Rattle.wordset.proofs.Scanning.{none-start, none-on, least-found, least-end}
use Rattle.wordset.proofs.first.Goals as goal

pub loop-i-init : goal.loop-i-init
loop-i-init c = none-start

pub returns-then-x-ne0 : goal.returns-then-x-ne0
returns-then-x-ne0 c = (least-found (front-answers c.args.ws.now c.args.w c.loop-i.i (omega (arith, length-take-le c.args.w c.args.ws.now c.requires.0)) (c.type_inv.ws _).fits) c.loop-i.invariant (omega (arith, length-take-le c.args.w c.args.ws.now c.requires.0)) c.if-x-ne0.true).1

pub loop-i-preserved : goal.loop-i-preserved
loop-i-preserved c = none-on (front-answers c.args.ws.now c.args.w c.loop-i.i (omega (arith, length-take-le c.args.w c.args.ws.now c.requires.0)) (c.type_inv.ws _).fits) c.loop-i.invariant (omega (arith, length-take-le c.args.w c.args.ws.now c.requires.0)) c.if-x-ne0.false

pub returns : goal.returns
returns c = least-end c.loop-i.invariant (omega (arith, length-take-le c.args.w c.args.ws.now c.requires.0))

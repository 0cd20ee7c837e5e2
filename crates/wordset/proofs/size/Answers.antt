use native.Mathlib.Omega.{arith}
use lib.Seq.{length-take-le}
use Rattle.wordset.proofs.AnswersLaws.{front-answers}
use Rattle.wordset.proofs.Scanning.{count-start, count-on, count_fits}
use Rattle.wordset.proofs.size.Goals as goal

pub loop-x-init : goal.loop-x-init
loop-x-init c = count-start

pub overflow_add-n : goal.overflow_add-n
overflow_add-n c = let a = front-answers c.args.ws.now c.args.w c.loop-x.x-index (omega (arith, length-take-le c.args.w c.args.ws.now c.requires.0)) (c.type_inv.ws _).fits in record { fits = count_fits c.loop-x.invariant (omega (arith, length-take-le c.args.w c.args.ws.now c.requires.0)) (omega arith) _ a.small }

pub loop-x-preserved : goal.loop-x-preserved
loop-x-preserved c = count-on (front-answers c.args.ws.now c.args.w c.loop-x.x-index (omega (arith, length-take-le c.args.w c.args.ws.now c.requires.0)) (c.type_inv.ws _).fits) c.loop-x.invariant (omega (arith, length-take-le c.args.w c.args.ws.now c.requires.0))

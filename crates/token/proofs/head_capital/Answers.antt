-- `token::head_capital` meets its contract, by the laws of Fronts. Assumes nothing.
use mathlib.Core.Path.{refl}
use native.Mathlib.Omega.{arith}
use lib.ListN.{get_or}
use Rattle.token.proofs.Fronts.{head-long, head-word}
use Rattle.token.proofs.head_capital.Goals as goal

pub returns-then-e-a-gt7 : goal.returns-then-e-a-gt7
returns-then-e-a-gt7 c = head-long c.args.s.now c.args.i _ _ (get_or c.args.s.now c.args.i 0) refl c.run_end-e.ensures.0 c.if-e-a-gt7.true

pub overflow_mul-result : goal.overflow_mul-result
overflow_mul-result c = let q = c.word_from-rest.ensures.1 7 (omega arith) in omega arith

pub overflow_add-result-2 : goal.overflow_add-result-2
overflow_add-result-2 c = let q = c.word_from-rest.ensures.1 7 (omega arith) in omega arith

pub returns : goal.returns
returns c = head-word c.args.s.now c.args.i _ _ (get_or c.args.s.now c.args.i 0) refl c.run_end-e.ensures.0 _ _ c.if-e-a-gt7.false c.from.ensures c.word_from-rest.ensures.0

-- `front` meets its contract. Assumes nothing.
use mathlib.Core.Path.{refl, sym}
use native.Mathlib.Omega.{arith}
use lib.Seq.{length-take-le, take_all}
use Rattle.outcomes.proofs.parts.front.Goals as goal

pub slice_bounds-result-end : goal.slice_bounds-result-end
slice_bounds-result-end c = sym (length-take-le c.args.w c.args.store.now (omega arith))

pub returns : goal.returns
returns c = (sym (take_all c.args.w c.args.store.now c.if-w-store.false), refl)

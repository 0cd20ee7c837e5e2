-- `add_modes` meets its contract: the modes that were gone through are added. Assumes nothing.
use Prim.Native.Nat.{◌^◌}
use Rattle.ctl.specs.Types.{in_type}
use Rattle.truth.specs.Tables.{arg_at}
use Rattle.truth.specs.Truths.{next_tag, place_of}
use Rattle.truth.proofs.Adding.{Adding}
use Rattle.truth.proofs.add_modes.Given as goal

abbrev pub invariant-loop-rest : goal.invariant-loop-rest
invariant-loop-rest l = Adding l.every (λ m t. in_type t (place_of l.ms l.ln (next_tag l.every) (2 ^ m) l.b)) l.w l.i (arg_at l.ms l.i) l.initial.tw l.tw l.rest

abbrev pub decreases-loop-rest : goal.decreases-loop-rest
decreases-loop-rest l = l.rest

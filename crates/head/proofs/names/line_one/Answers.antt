-- `names::line_one` meets its contract. Assumes nothing.
use native.Mathlib.Omega.{arith}
use Rattle.head.proofs.HeadLaws.{line_first}
use Rattle.head.specs.Head.{NamesRead}
use Prim.Native.Nat.{ℕ, ◌-◌}
use lib.ListN.{take}
use mathlib.Core.List.{List}
use mathlib.Core.Path.{◌≡◌, ap, ◌∙◌, subst}
use Rattle.head.proofs.names.line_one.Goals as goal

pub returns : goal.returns
returns c =
    subst (λ (l : List ℕ). NamesRead l c.read_names.result) ((let z : c.end_of.result ≡ c.end_of.result - 0 = omega arith in ap (λ k. take k c.args.s.now) z) ∙ line_first _ _ _ c.end_of.ensures.0 (omega arith) c.end_of.ensures.1.1) c.read_names.ensures

-- `kinds::line_two` meets its contract. Assumes nothing.
use Rattle.head.proofs.HeadLaws.{line_first}
use Rattle.head.specs.Head.{KindsRead}
use Prim.Native.Nat.{ℕ}
use mathlib.Core.List.{List}
use mathlib.Core.Path.{◌∙◌, subst}
use Rattle.head.proofs.kinds.line_two.Goals as goal

pub returns : goal.returns
returns c =
    subst (λ (l : List ℕ). KindsRead l c.read_kinds.result) (line_first _ _ _ c.end_of.ensures.0 c.next_line-at.ensures.inside c.end_of.ensures.1.1 ∙ c.next_line-at.ensures.first) c.read_kinds.ensures

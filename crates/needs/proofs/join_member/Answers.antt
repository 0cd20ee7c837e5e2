-- `join_member` meets its contract: nothing is joined, or the member's block. Assumes nothing.
use mathlib.Core.Path.{sym, ◌∙◌}
use Rattle.needs.proofs.BlockSteps.{member-on}
use Rattle.needs.proofs.join_member.Goals as goal

pub returns-then-has_mode : goal.returns-then-has_mode
returns-then-has_mode c P Q p q =
    member-on P Q (sym (c.field_of.ensures _ c.requires.0) ∙ sym c.has_mode.ensures ∙ c.if-has_mode.true) (c.join_block.ensures P Q p q)

-- `below` meets its contract, a return for each thing that may be missing. Assumes nothing.
use mathlib.Core.Path.{◌≡◌, sym, ap, ap₂, ◌∙◌}
use mathlib.Core.Bool.{false, ◌&&◌}
use mathlib.Core.List.{List}
use Prim.Native.Nat.{ℕ, ◌+◌, ◌<◌}
use native.Mathlib.Omega.{arith}
use lib.ListN.{length}
use Rattle.ctl.specs.Modes.{has_mode}
use Rattle.truth.specs.Tables.{Table, left_at, tag_at}
use Rattle.conditions.proofs.RuleLaws.{below_both, below-mode, below_other, below-tag, below-way}
use Rattle.conditions.proofs.below.Goals as goal
use Rattle.conditions.proofs.below.Goals.{then-not-has_mode-via-then-not-has_mode, then-not-has_mode-via-else-not-has_mode+then-not-has_mode-2}

body : {ms : List ℕ} → Table ms → {j g p : ℕ} → j < length ms → g ≡ tag_at ms j → g ≡ 7 → p ≡ left_at ms j → p < length ms
body t {j} h e q f = let o = (t.operands j h (omega arith)).0 in omega arith

pub returns-then-tag-ne7 : goal.returns-then-tag-ne7
returns-then-tag-ne7 c = below-tag c.requires.0 _ c.requires.1 _ c.tag.ensures c.if-tag-ne7.true

pub returns-then-m-ge8 : goal.returns-then-m-ge8
returns-then-m-ge8 c = below-mode c.requires.0 _ c.requires.1 _ _ c.arg.ensures c.mode_of-m.ensures c.if-m-ge8.true

pub returns-then-tag-ne9 : goal.returns-then-tag-ne9
returns-then-tag-ne9 c = below_other c.requires.0 _ c.requires.1 _ _ c.left-i.ensures c.tag-2.ensures c.if-tag-ne9.true

pub returns-then-not-has_mode : goal.returns-then-not-has_mode
returns-then-not-has_mode c =
    below-way c.requires.0 _ c.requires.1 _ _ _ _ c.arg.ensures c.mode_of-m.ensures c.left-i.ensures (body c.requires.0 c.requires.1 c.tag.ensures c.if-tag-ne7.false c.left-i.ensures) c.arg-a.ensures off
  where
    off : (has_mode c.arg-a.result c.mode_of-m.result && has_mode c.arg-a.result (c.mode_of-m.result + 8)) ≡ false
    off = elim c.then-not-has_mode.branch [
      | then-not-has_mode-via-then-not-has_mode w ↦ ap (λ x. x && has_mode c.arg-a.result (c.mode_of-m.result + 8)) (sym c.has_mode.ensures ∙ w.if-not-has_mode.true)
      | then-not-has_mode-via-else-not-has_mode+then-not-has_mode-2 w ↦ ap₂ ◌&&◌ (sym c.has_mode.ensures ∙ w.if-not-has_mode.false) (sym w.has_mode-else-not-has_mode.ensures ∙ w.if-not-has_mode-2.true)
    ]

pub returns : goal.returns
returns c =
    below_both c.requires.0 _ c.requires.1 _ _ _ _ _ c.arg.ensures c.mode_of-m.ensures (omega arith) c.left-i.ensures (body c.requires.0 c.requires.1 c.tag.ensures c.if-tag-ne7.false c.left-i.ensures) (sym c.tag-2.ensures ∙ c.if-tag-ne9.false) c.arg-a.ensures c.right.ensures (ap₂ ◌&&◌ (sym c.has_mode.ensures ∙ c.if-not-has_mode.false) (sym c.has_mode-else-not-has_mode.ensures ∙ c.if-not-has_mode-2.false))

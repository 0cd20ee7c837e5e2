-- `fill_block` meets its contract. Assumes nothing.
use mathlib.Core.Path.{sym, subst}
use Rattle.std.proofs.Common.{ℕ, rules}
use Rattle.std.proofs.lemmas.List.{places}
use Rattle.wordset.specs.Answers.{Answers}
use Rattle.truth.proofs.BlockLaws.{word-as, word-full, word_none}
use Rattle.truth.proofs.Redoing.{length-part, redone-part}
use Rattle.truth.proofs.blocks.fill_block.Goals as goal
use Rattle.truth.proofs.blocks.fill_block.Goals.{then-on, else-on}

pub returns : goal.returns
returns c =
    let e = c.fill.ensures.after (λ y q. q) in
    let n = length-part c.args.w c.args.i _ c.requires in
    redone-part _ _ _ _ c.requires c.fill.ensures.len (λ k h. subst (Answers (λ t. c.args.on) k) (search (rules, places)) (word k))
  where
    word : (k : ℕ) → Answers (λ t. c.args.on) k c.if-on.fill
    word k = elim c.if-on.branch [
      | then-on w ↦ rw w.fill-is (word-as (λ t. sym w.if-on.true) word-full)
      | else-on w ↦ rw w.fill-is (word-as (λ t. sym w.if-on.false) word_none)
    ]

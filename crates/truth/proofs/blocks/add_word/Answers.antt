-- `add_word` meets its contract. Assumes nothing.
use mathlib.Core.Path.{sym, ap}
use Rattle.ctl.specs.Types.{in_type}
use Rattle.wordset.proofs.AnswersLaws.{and-answers, or-answers}
use Rattle.truth.specs.Blocks.{added}
use Rattle.truth.proofs.BlockLaws.{word-as}
use Rattle.truth.proofs.blocks.add_word.Goals as goal

pub returns-then-every : goal.returns-then-every
returns-then-every c P a =
    let s = c.args in
    word-as (λ t. ap (λ n. added n (P t) (in_type t s.place)) (sym c.if-every.true)) (and-answers a c.place_word-y.ensures)

pub returns-else-every : goal.returns-else-every
returns-else-every c P a =
    let s = c.args in
    word-as (λ t. ap (λ n. added n (P t) (in_type t s.place)) (sym c.if-every.false)) (or-answers a c.place_word-y.ensures)

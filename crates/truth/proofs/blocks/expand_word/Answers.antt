-- `expand_word` meets its contract. Assumes nothing.
use mathlib.Core.Path.{sym, ap}
use Rattle.wordset.proofs.AnswersLaws.{and-answers, or-answers}
use Rattle.truth.specs.Blocks.{expanded}
use Rattle.truth.proofs.BlockLaws.{word-as}
use Rattle.truth.proofs.blocks.expand_word.Goals as goal

pub returns-then-until : goal.returns-then-until
returns-then-until c X P Q k x p q = word-as (λ t. ap (λ n. expanded n (X t) (P t) (Q t)) (sym c.if-until.true)) (or-answers q (and-answers p x))

pub returns-else-until : goal.returns-else-until
returns-else-until c X P Q k x p q = word-as (λ t. ap (λ n. expanded n (X t) (P t) (Q t)) (sym c.if-until.false)) (and-answers q (or-answers p x))

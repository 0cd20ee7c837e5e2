-- `add_type` meets its contract: a type that is not of base, or does not obey, leaves the store as it is. Assumes nothing.
use mathlib.Core.Path.{◌≡◌, sym, ap, ap₂, ◌∙◌}
use mathlib.Core.Bool.{false, ◌&&◌, and-false}
use Prim.Native.Nat.{◌+◌, ◌*◌}
use Rattle.wordset.specs.Words.{member}
use Rattle.start.specs.Starts.{obeys_by}
use Rattle.start.proofs.Starting.{join-none, join_one}
use borrow.Author.Rules.{rules}
use Rattle.start.proofs.add_type.Goals as goal
use Rattle.start.proofs.add_type.Goals.{else-contains-via-then-contains+else-obeys, else-contains-via-else-contains}

pub returns-then-obeys : goal.returns-then-obeys
returns-then-obeys c =
    let a = c.args in
    join_one (λ u. member a.base.now (a.w * 64 + u)) (obeys_by a.names.now a.n a.r) a.dst.now a.w a.t c.requires.1.1.1.0 (λ i h. search rules) c.requires.1.1.1.1
    (ap₂ ◌&&◌ (sym c.contains.ensures ∙ c.if-contains.true) (sym c.obeys.ensures ∙ c.if-obeys.true))

pub returns-else-contains : goal.returns-else-contains
returns-else-contains c =
    let a = c.args in
    join-none (λ u. member a.base.now (a.w * 64 + u)) (obeys_by a.names.now a.n a.r) a.dst.now a.w a.t c.requires.1.1.1.0 (λ i h. (c.type_inv.dst i).fits) out
  where
    out : (member c.args.base.now (c.args.w * 64 + c.args.t) && obeys_by c.args.names.now c.args.n c.args.r c.args.t) ≡ false
    out = elim c.else-contains.branch [
      | else-contains-via-then-contains+else-obeys w ↦ ap (λ b. member c.args.base.now (c.args.w * 64 + c.args.t) && b) (sym w.obeys.ensures ∙ w.if-obeys.false) ∙ and-false _
      | else-contains-via-else-contains w ↦ ap (λ b. b && obeys_by c.args.names.now c.args.n c.args.r c.args.t) (sym c.contains.ensures ∙ w.if-contains.false)
    ]

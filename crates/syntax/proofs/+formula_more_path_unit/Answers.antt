use mathlib.Core.Path.{refl, sym, ap}
use mathlib.Core.List.{[], ◌∷◌}
use Prim.Native.Nat.{ℕ}
use Rattle.syntax.proofs.FormulaLaws.{formula-wrong-unit, formula-more, more-none, more-other, more-right-wrong, more-joined, more-on}
use Rattle.syntax.proofs.PathLaws.{path-none, path-left-wrong, path-no-operator, path-other, path-right-wrong, path-no-close, path-reads}
use Rattle.syntax.proofs.UnitLaws.{unit-leaf, unit-letter, unit-not, unit-not-wrong, unit-open, unit-open-wrong, unit-unclosed, unit-none, unit-operator, unit-operator-wrong, unit-operator-unbraced, unit-path, unit-path-unbraced}
use Rattle.syntax.specs.Raw.{zero, one}
use Rattle.token.specs.declared.Tok.TheVariants.{Zero, One}
use Rattle.syntax.proofs.+formula_more_path_unit.Goals as goal

pub formula-returns-in_err-first : goal.formula-returns-in_err-first
formula-returns-in_err-first t c =
    rw c.from_residual.ensures (formula-wrong-unit _ _ _ _ _ _ c.requires.0 c.unit.ensures c.in_err-first.was)

pub formula-returns : goal.formula-returns
formula-returns t c =
    formula-more _ _ _ _ _ _ c.requires.0 c.unit.ensures c.in_ok-first.was c.more.ensures

pub more-returns-in_default : goal.more-returns-in_default
more-returns-in_default t c =
    more-none _ _ _ _ _ _ c.requires.0 c.requires.1.0 c.next_token-t.ensures c.in_default.not-Infix

pub more-returns-then-l-level : goal.more-returns-then-l-level
more-returns-then-l-level t c =
    more-other _ _ _ _ _ _ c.requires.0 c.requires.1.0 c.next_token-t.ensures c.in-Infix.is c.then-l-level.either

pub more-returns-in_err-right : goal.more-returns-in_err-right
more-returns-in_err-right t c =
    rw c.from_residual.ensures (more-right-wrong _ _ _ _ _ _ c.requires.0 c.requires.1.0 c.next_token-t.ensures c.in-Infix.is c.if-l-level.false c.if-top-l.false c.formula.ensures c.in_err-right.was)

pub more-returns-then-l-level-2 : goal.more-returns-then-l-level-2
more-returns-then-l-level-2 t c =
    more-joined _ _ _ _ _ _ c.requires.0 c.requires.1.0 c.next_token-t.ensures c.in-Infix.is c.if-l-level.false c.if-top-l.false c.formula.ensures c.in_ok-right.was c.node-v.ensures c.lower.ensures c.emit-joined.ensures c.if-l-level-2.true

pub more-returns : goal.more-returns
more-returns t c =
    more-on _ _ _ _ _ _ c.requires.0 c.requires.1.0 c.next_token-t.ensures c.in-Infix.is c.if-l-level.false c.if-top-l.false c.formula.ensures c.in_ok-right.was c.node-v.ensures c.lower.ensures c.emit-joined.ensures c.more.ensures

pub path-returns-in_default : goal.path-returns-in_default
path-returns-in_default t c =
    path-none _ _ _ _ _ _ c.next_token-t.ensures c.in_default.not-Open

pub path-returns-in_err-left : goal.path-returns-in_err-left
path-returns-in_err-left t c =
    rw c.from_residual.ensures (path-left-wrong _ _ _ _ _ _ c.next_token-t.ensures c.in-Open.is c.formula.ensures c.in_err-left.was)

pub path-returns-in_default-tok : goal.path-returns-in_default-tok
path-returns-in_default-tok t c =
    path-no-operator _ _ _ _ _ _ c.next_token-t.ensures c.in-Open.is c.formula.ensures c.in_ok-left.was c.next_token-u.ensures c.in_default-tok.not-Capital

pub path-returns-in_err-operator : goal.path-returns-in_err-operator
path-returns-in_err-operator t c =
    rw c.from_residual-in_err-operator.ensures (path-other _ _ _ _ _ _ c.next_token-t.ensures c.in-Open.is c.formula.ensures c.in_ok-left.was c.next_token-u.ensures c.in-Capital.is c.choose.ensures c.in_err-operator.was)

pub path-returns-in_err-right : goal.path-returns-in_err-right
path-returns-in_err-right t c =
    rw c.from_residual-in_err-right.ensures (path-right-wrong _ _ _ _ _ _ c.next_token-t.ensures c.in-Open.is c.formula.ensures c.in_ok-left.was c.next_token-u.ensures c.in-Capital.is c.choose.ensures c.in_ok-operator.was c.formula-2.ensures c.in_err-right.was)

pub path-returns-in_default-tok-2 : goal.path-returns-in_default-tok-2
path-returns-in_default-tok-2 t c =
    path-no-close _ _ _ _ _ _ c.next_token-t.ensures c.in-Open.is c.formula.ensures c.in_ok-left.was c.next_token-u.ensures c.in-Capital.is c.choose.ensures c.in_ok-operator.was c.formula-2.ensures c.in_ok-right.was c.next_token-v.ensures c.in_default-tok-2.not-Close

pub path-returns : goal.path-returns
path-returns t c =
    path-reads _ _ _ _ _ _ c.next_token-t.ensures c.in-Open.is c.formula.ensures c.in_ok-left.was c.next_token-u.ensures c.in-Capital.is c.choose.ensures c.in_ok-operator.was c.formula-2.ensures c.in_ok-right.was c.next_token-v.ensures c.in-Close.is c.binary_kind.ensures c.node-x.ensures c.lower.ensures c.lower-low.ensures c.emit.ensures

pub unit-returns-in_err-p-in-Not : goal.unit-returns-in_err-p-in-Not
unit-returns-in_err-p-in-Not t c =
    rw c.from_residual.ensures (unit-not-wrong _ _ _ _ _ c.next_token-t.ensures c.in-Not.is c.unit.ensures c.in_err-p-in-Not.was)

pub unit-returns-in_err-p-in-Open : goal.unit-returns-in_err-p-in-Open
unit-returns-in_err-p-in-Open t c =
    rw c.from_residual-in_err-p-in-Open.ensures (unit-open-wrong _ _ _ _ _ c.next_token-t.ensures c.in-Open.is c.formula.ensures c.in_err-p-in-Open.was)

pub unit-returns-in_default-tok : goal.unit-returns-in_default-tok
unit-returns-in_default-tok t c =
    unit-unclosed _ _ _ _ _ c.next_token-t.ensures c.in-Open.is c.formula.ensures c.in_ok-p-in-Open.was c.next_token-u.ensures c.in_default-tok.not-Close

pub unit-returns-in_err-b-in-Operator : goal.unit-returns-in_err-b-in-Operator
unit-returns-in_err-b-in-Operator t c =
    rw c.from_residual-in_err-b-in-Operator.ensures (unit-operator-unbraced _ _ _ _ _ c.next_token-t.ensures c.in-Operator.is c.braces.ensures c.in_err-b-in-Operator.was)

pub unit-returns-in_err-p-in-Operator : goal.unit-returns-in_err-p-in-Operator
unit-returns-in_err-p-in-Operator t c =
    rw c.from_residual-in_err-p-in-Operator.ensures (unit-operator-wrong _ _ _ _ _ c.next_token-t.ensures c.in-Operator.is c.braces.ensures c.in_ok-b-in-Operator.was c.unit-in-Operator.ensures c.in_err-p-in-Operator.was)

pub unit-returns-in_err-b-in-Capital : goal.unit-returns-in_err-b-in-Capital
unit-returns-in_err-b-in-Capital t c =
    rw c.from_residual-in_err-b-in-Capital.ensures (unit-path-unbraced _ _ _ _ _ c.next_token-t.ensures c.in-Capital.is c.braces-in-Capital.ensures c.in_err-b-in-Capital.was)

pub unit-returns-in-Zero : goal.unit-returns-in-Zero
unit-returns-in-Zero t c =
    unit-leaf _ _ _ _ _ Zero zero 9 c.next_token-t.ensures c.in-Zero.is refl (λ f. refl) refl (ap (λ (v : ℕ). v ∷ []) (sym c.node.ensures)) c.emit.ensures

pub unit-returns-in-One : goal.unit-returns-in-One
unit-returns-in-One t c =
    unit-leaf _ _ _ _ _ One one 9 c.next_token-t.ensures c.in-One.is refl (λ f. refl) refl (ap (λ (v : ℕ). v ∷ []) (sym c.node-in-One.ensures)) c.emit-in-One.ensures

pub unit-returns-in-Letter : goal.unit-returns-in-Letter
unit-returns-in-Letter t c =
    unit-letter _ _ _ _ _ c.next_token-t.ensures c.in-Letter.is c.entry-v.ensures c.below.ensures c.node-in-Letter.ensures c.letter_low.ensures c.emit-in-Letter.ensures

pub unit-returns-in_ok-p-in-Not : goal.unit-returns-in_ok-p-in-Not
unit-returns-in_ok-p-in-Not t c =
    unit-not _ _ _ _ _ c.next_token-t.ensures c.in-Not.is c.unit.ensures c.in_ok-p-in-Not.was c.node-in-Not.ensures c.emit-in-Not.ensures

pub unit-returns-in-Close : goal.unit-returns-in-Close
unit-returns-in-Close t c =
    unit-open _ _ _ _ _ c.next_token-t.ensures c.in-Open.is c.formula.ensures c.in_ok-p-in-Open.was c.next_token-u.ensures c.in-Close.is

pub unit-returns-in_ok-p-in-Operator : goal.unit-returns-in_ok-p-in-Operator
unit-returns-in_ok-p-in-Operator t c =
    unit-operator _ _ _ _ _ c.next_token-t.ensures c.in-Operator.is c.braces.ensures c.in_ok-b-in-Operator.was c.unit-in-Operator.ensures c.in_ok-p-in-Operator.was c.modal_kind.ensures c.node-v.ensures c.lower.ensures c.emit-in-Operator.ensures

pub unit-returns-in_ok-b-in-Capital : goal.unit-returns-in_ok-b-in-Capital
unit-returns-in_ok-b-in-Capital t c =
    unit-path _ _ _ _ _ c.next_token-t.ensures c.in-Capital.is c.braces-in-Capital.ensures c.in_ok-b-in-Capital.was c.path.ensures

pub unit-returns-in_default : goal.unit-returns-in_default
unit-returns-in_default t c =
    unit-none _ _ _ _ _ c.next_token-t.ensures c.in_default.not-Zero c.in_default.not-One c.in_default.not-Letter c.in_default.not-Not c.in_default.not-Open c.in_default.not-Operator c.in_default.not-Capital

-- The operators with modes. Assumes nothing: these are definitions.
use Rattle.std.specs.Prelude.{Option, Some, None, ℕ, eqb}
use Rattle.token.specs.declared.Modal.{Modal}
use Rattle.token.specs.declared.Modal.TheVariants.{Ex, Ax, Ef, Af, Eg, Ag}
use Rattle.operators.specs.declared.kinds.Binary.{Binary}
use Rattle.operators.specs.declared.kinds.Binary.TheVariants.{Eu, Au, Er, Ar}
use Rattle.token.specs.Token.{pick}
use Rattle.ctl.specs.Raw.{Raw, ex, ax, ef, af, eg, ag, eu, au, er, ar}

-- the kind of an operator's node
abbrev pub modal_kind : Modal → ℕ
modal_kind Ex = 4
modal_kind Ax = 5
modal_kind Ef = 6
modal_kind Af = 7
modal_kind Eg = 8
modal_kind Ag = 9

abbrev pub modal : Modal → ℕ → Raw → Raw
modal Ex A p = ex A p
modal Ax A p = ax A p
modal Ef A p = ef A p
modal Af A p = af A p
modal Eg A p = eg A p
modal Ag A p = ag A p

abbrev pub binary_kind : Binary → ℕ
binary_kind Eu = 13
binary_kind Au = 14
binary_kind Er = 15
binary_kind Ar = 16

abbrev pub binary : Binary → ℕ → Raw → Raw → Raw
binary Eu A p q = eu A p q
binary Au A p q = au A p q
binary Er A p q = er A p q
binary Ar A p q = ar A p q

-- the operator of a quantifier, E (101) or A (97), and U (117) or R (114), each a capital by its lower-case letter
unfoldable pub choice_of : ℕ → ℕ → Option Binary
choice_of q c =
    pick (eqb q 101) (pick (eqb c 117) (Some Eu) (pick (eqb c 114) (Some Er) None))
    (pick (eqb q 97) (pick (eqb c 117) (Some Au) (pick (eqb c 114) (Some Ar) None)) None)

-- The positive form of a formula as typed. Assumes nothing.
use Rattle.std.specs.Prelude.{Bool, true, false}
use Rattle.ctl.specs.Formula.{Form}
use Rattle.ctl.specs.Raw.{Raw, zero, one, sym, neg, and, or, imp, ex, ax, ef, af, eg, ag, eu, au, er, ar}

-- The positive form of a formula (true), or of its negation (false): `!` moves inward to symbols,
-- exchanging E with A, U with R, `&` with `|`, 0 with 1; `p>q` is `!p|q`.
unfoldable pub signed : Bool → Raw → Form
signed true zero = Form.fls
signed false zero = Form.tru
signed true one = Form.tru
signed false one = Form.fls
signed true (sym k) = Form.lit k
signed false (sym k) = Form.nlit k
signed true (neg p) = signed false p
signed false (neg p) = signed true p
signed true (and p q) = Form.and (signed true p) (signed true q)
signed false (and p q) = Form.or (signed false p) (signed false q)
signed true (or p q) = Form.or (signed true p) (signed true q)
signed false (or p q) = Form.and (signed false p) (signed false q)
signed true (imp p q) = Form.or (signed false p) (signed true q)
signed false (imp p q) = Form.and (signed true p) (signed false q)
signed true (ex A p) = Form.ex A (signed true p)
signed false (ex A p) = Form.ax A (signed false p)
signed true (ax A p) = Form.ax A (signed true p)
signed false (ax A p) = Form.ex A (signed false p)
signed true (ef A q) = Form.eu A Form.tru (signed true q)
signed false (ef A q) = Form.ar A Form.fls (signed false q)
signed true (af A q) = Form.au A Form.tru (signed true q)
signed false (af A q) = Form.er A Form.fls (signed false q)
signed true (eg A q) = Form.er A Form.fls (signed true q)
signed false (eg A q) = Form.au A Form.tru (signed false q)
signed true (ag A q) = Form.ar A Form.fls (signed true q)
signed false (ag A q) = Form.eu A Form.tru (signed false q)
signed true (eu A p q) = Form.eu A (signed true p) (signed true q)
signed false (eu A p q) = Form.ar A (signed false p) (signed false q)
signed true (au A p q) = Form.au A (signed true p) (signed true q)
signed false (au A p q) = Form.er A (signed false p) (signed false q)
signed true (er A p q) = Form.er A (signed true p) (signed true q)
signed false (er A p q) = Form.au A (signed false p) (signed false q)
signed true (ar A p q) = Form.ar A (signed true p) (signed true q)
signed false (ar A p q) = Form.eu A (signed false p) (signed false q)

abbrev pub positive : Raw → Form
positive r = signed true r

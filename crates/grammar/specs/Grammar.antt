-- The grammar of formulas, by shape alone: which tokens are a formula, and its tree as typed. Then its symbols, looked up in the declarations.
-- Assumes nothing: these are definitions.
use Rattle.std.specs.Prelude.{Bool, true, false, not, ◌&&◌, ◌||◌, List, [], ◌∷◌, ◌++◌, map, ℕ, suc, ◌+◌, ◌-◌, leb, eqb}
use Rattle.spelling.specs.Spelling.{entry_in}
use Rattle.token.specs.declared.Modal.{Modal}
use Rattle.token.specs.declared.Tok.{Tok}
use Rattle.token.specs.declared.Tok.TheVariants.{Zero, One, Letter, Capital, Operator, Infix, Not, Open, Close, OpenBrace, CloseBrace, Comma}
use Rattle.token.specs.Token.{pick}
use Rattle.token.specs.Tokens.{tokens}
use Rattle.ctl.specs.Lists.{any_of}
use Rattle.ctl.specs.Numbers.{number}
use Rattle.ctl.specs.Modes.{all_modes}
use Rattle.operators.specs.declared.kinds.Binary.{Binary}
use Rattle.operators.specs.declared.kinds.Binary.TheVariants.{Eu, Au, Er, Ar}
use Rattle.syntax.specs.Raw.{Raw}
use Rattle.operators.specs.Operators.{modal as modalRaw, binary as pathRaw}
use Rattle.syntax.specs.Parse.{infix·}

-- ---- formulas as typed
-- A mode: a spelling goes forward; with its first letter in capital, backward. A spelling is a number (spelling: word)
pub data Mode : Type 0 where
  forward backward : ℕ → Mode

-- A formula, its symbols not looked up. `infixed` has the level of its operator: 0 for `>`, 1 for `|`, 2 for `&`; `modal` is EX AX EF AF EG AG;
-- `path` is E or A over two operands, U or R between
pub data Tree : Type 0 where
  zero one : Tree
  letter : ℕ → Tree
  neg : Tree → Tree
  infixed : ℕ → Tree → Tree → Tree
  modal : Modal → List Mode → Tree → Tree
  path : Binary → List Mode → Tree → Tree → Tree

-- ---- the grammar
abbrev pub mode_token : Mode → Tok
mode_token (forward k) = Letter k
mode_token (backward k) = Capital k

-- modes with commas between
abbrev pub commas : List Mode → List Tok
commas [] = []
commas (m ∷ []) = mode_token m ∷ []
commas (m ∷ (n ∷ r)) = mode_token m ∷ Comma ∷ commas (n ∷ r)

-- braces with modes, perhaps none
abbrev pub braces : List Mode → List Tok
braces A = OpenBrace ∷ commas A ++ CloseBrace ∷ []

-- the capital before the braces, E (101) or A (97), and the one between the operands, U (117) or R (114), each by its lower-case letter
abbrev pub quantifier : Binary → ℕ
quantifier Eu = 101
quantifier Au = 97
quantifier Er = 101
quantifier Ar = 97

abbrev pub connective : Binary → ℕ
connective Eu = 117
connective Au = 117
connective Er = 114
connective Ar = 114

-- In the rules `∷` binds stronger than `++`: `Open ∷ ts ++ Close ∷ []` is a bracket, the tokens ts, and a bracket
mutual
  -- A unit is `0`, `1`, a symbol, a bracketed formula, `!` before a unit, one of EX AX EF AF EG AG with braces and a unit,
  -- or E or A with braces and `(formula U formula)` or `(formula R formula)`
  pub data IsUnit : List Tok → Tree → Type 0 where
    is_zero : IsUnit (Zero ∷ []) zero
    is_one : IsUnit (One ∷ []) one
    is-letter : {k : ℕ} → IsUnit (Letter k ∷ []) (letter k)
    is-bracketed : {ts : List Tok} {t : Tree} → IsFormula 0 ts t → IsUnit (Open ∷ ts ++ Close ∷ []) t
    is-neg : {ts : List Tok} {t : Tree} → IsUnit ts t → IsUnit (Not ∷ ts) (neg t)
    is-modal : {m : Modal} {A : List Mode} {ts : List Tok} {t : Tree} → IsUnit ts t → IsUnit (Operator m ∷ braces A ++ ts) (modal m A t)
    is-path : {b : Binary} {A : List Mode} {ts us : List Tok} {t u : Tree} → IsFormula 0 ts t → IsFormula 0 us u
        → IsUnit (Capital (quantifier b) ∷ braces A ++ Open ∷ ts ++ Capital (connective b) ∷ us ++ Close ∷ []) (path b A t u)

  -- A formula of a level is an operand of the next level, or such an operand, the operator of the level, and a formula of the same level:
  -- so operators of a lower level bind weaker, and each groups to the right. The operands of `&`, level 3, are the units; there is no level above
  pub data IsFormula : ℕ → List Tok → Tree → Type 0 where
    is-unit : {ts : List Tok} {t : Tree} → IsUnit ts t → IsFormula 3 ts t
    is-operand : {l : ℕ} {ts : List Tok} {t : Tree} → IsFormula (suc l) ts t → IsFormula l ts t
    is-infixed : {l : ℕ} {ts us : List Tok} {t u : Tree} → IsFormula (suc l) ts t → IsFormula l us u → IsFormula l (ts ++ Infix l ∷ us) (infixed l t u)

-- a line is a formula: its tokens are one
abbrev pub Line : List ℕ → Tree → Type 0
Line s t = IsFormula 0 (tokens s) t

-- ---- the symbols, in the declarations: a spelling's entry is 0 where it is undeclared, 1 + i for the mark or name i, 9 + i for the field i
module _ (decl : List ℕ) where
  abbrev pub entry_of : ℕ → ℕ
  entry_of k = entry_in decl k

  -- the spelling is that of a mark or a name
  abbrev pub is_symbol : ℕ → Bool
  is_symbol k = leb 1 (entry_of k) && leb (entry_of k) 8

  -- the mode's spelling is that of a field
  abbrev pub is_field : Mode → Bool
  is_field (forward k) = leb 9 (entry_of k) && leb (entry_of k) 16
  is_field (backward k) = leb 9 (entry_of k) && leb (entry_of k) 16

  -- the number of a mode along the field i: i forward, i + 8 backward
  abbrev pub mode_number : Mode → ℕ
  mode_number (forward k) = entry_of k - 9
  mode_number (backward k) = entry_of k - 9 + 8

  -- the mode i is among these
  abbrev pub holds_mode : List Mode → ℕ → Bool
  holds_mode A i = any_of (λ m. is_field m && eqb i (mode_number m)) A

  -- the set of modes that braces hold, as a number
  unfoldable pub mode_set : List Mode → ℕ
  mode_set A = number (map (λ i. holds_mode A i) all_modes)

  -- the formula with its symbols looked up; where one is wrong there is a refusal, and what stands for it means nothing
  abbrev pub resolve : Tree → Raw
  resolve zero = Raw.zero
  resolve one = Raw.one
  resolve (letter k) = Raw.sym (entry_of k - 1)
  resolve (neg t) = Raw.neg (resolve t)
  resolve (infixed l t u) = infix· l (resolve t) (resolve u)
  resolve (modal m A t) = modalRaw m (mode_set A) (resolve t)
  resolve (path b A t u) = pathRaw b (mode_set A) (resolve t) (resolve u)

  -- 7: some symbol of the formula is no mark and no name, or some mode's is no field
  abbrev pub some_no_field : List Mode → Bool
  some_no_field A = any_of (λ m. not (is_field m)) A

  abbrev pub symbol_wrong : Tree → Bool
  symbol_wrong zero = false
  symbol_wrong one = false
  symbol_wrong (letter k) = not (is_symbol k)
  symbol_wrong (neg t) = symbol_wrong t
  symbol_wrong (infixed l t u) = symbol_wrong t || symbol_wrong u
  symbol_wrong (modal m A t) = some_no_field A || symbol_wrong t
  symbol_wrong (path b A t u) = some_no_field A || symbol_wrong t || symbol_wrong u

  -- 8: some braces are empty, or have a mode twice
  abbrev pub twice : List Mode → Bool
  twice [] = false
  twice (m ∷ r) = any_of (λ n. eqb (mode_number n) (mode_number m)) r || twice r

  abbrev pub empty_or_twice : List Mode → Bool
  empty_or_twice [] = true
  empty_or_twice (m ∷ r) = twice (m ∷ r)

  abbrev pub braces_wrong : Tree → Bool
  braces_wrong zero = false
  braces_wrong one = false
  braces_wrong (letter k) = false
  braces_wrong (neg t) = braces_wrong t
  braces_wrong (infixed l t u) = braces_wrong t || braces_wrong u
  braces_wrong (modal m A t) = empty_or_twice A || braces_wrong t
  braces_wrong (path b A t u) = empty_or_twice A || braces_wrong t || braces_wrong u

  -- the lowest of these refusals, 9 where there is none
  abbrev pub low_of : Tree → ℕ
  low_of t = pick (symbol_wrong t) 7 (pick (braces_wrong t) 8 9)

-- A reader of trees from tokens, by recursive descent as `formula_at`, with no positions and no declarations. Assumes nothing: these are definitions.
use mathlib.Core.Bool.{Bool, true, false}
use mathlib.Core.List.{List, [], ◌∷◌}
use Prim.Native.Nat.{ℕ, suc}
use lib.Dec.{eqb}
use Rattle.token.specs.declared.Tok.{Tok}
use Rattle.token.specs.declared.Tok.TheVariants.{Zero, One, Letter, Capital, Operator, Infix, Not, Open, CloseBrace, Comma}
use Rattle.token.specs.Token.{on_open, on_close, on_capital, on_open_brace, on_close_brace, on_end}
use Rattle.token.proofs.TokensLaws.{first, later}
use Rattle.operators.specs.declared.kinds.Binary.{Binary}
use Rattle.std.specs.Prelude.{Option, Some, None}
use Rattle.operators.specs.Operators.{choice_of}
use Rattle.grammar.specs.Grammar.{Mode, forward, backward, Tree, zero, one, letter, neg, infixed, modal, path}

-- what a reader finds: a tree and the tokens after it, or none
pub data Found : Type 0 where
  tree : Tree → List Tok → Found
  nothing : Found

abbrev pub onward : Found → (Tree → List Tok → Found) → Found
onward (tree t r) go = go t r
onward nothing go = nothing

-- modes and the tokens after them, or none
pub data FoundModes : Type 0 where
  modes : List Mode → List Tok → FoundModes
  no_modes : FoundModes

abbrev pub on_modes : FoundModes → (List Mode → List Tok → Found) → Found
on_modes (modes A r) go = go A r
on_modes no_modes go = nothing

-- ---- modes
abbrev pub before : Mode → FoundModes → FoundModes
before m (modes A r) = modes (m ∷ A) r
before m no_modes = no_modes

-- what follows a mode: a comma and more modes, or the closing brace
abbrev pub more_on : (List Tok → FoundModes) → Mode → Tok → List Tok → FoundModes
more_on more n CloseBrace r = modes (n ∷ []) r
more_on more n Comma r = before n (more r)
more_on more n _ r = no_modes

abbrev pub mode_on : (List Tok → FoundModes) → Tok → List Tok → FoundModes
mode_on more (Letter k) r = more_on more (forward k) (first r) (later r)
mode_on more (Capital k) r = more_on more (backward k) (first r) (later r)
mode_on more _ r = no_modes

-- modes with commas between, up to the closing brace
unfoldable pub modes_on : (fuel : ℕ) → List Tok → FoundModes
modes_on ℕ.zero ts = no_modes
modes_on (suc fuel) ts = mode_on (λ r. modes_on fuel r) (first ts) (later ts)

-- ---- units and formulas; n is the fuel for the modes of one pair of braces
module _ (n : ℕ) where
  unfoldable pub braces_on : List Tok → FoundModes
  braces_on ts = on_open_brace (first ts) (λ _. on_close_brace (first (later ts)) (modes [] (later (later ts))) (modes_on n (later ts))) no_modes

  abbrev pub operand_on : (List Tok → Found) → List Mode → Tree → List Tok → Option Binary → Found
  operand_on formula A t r None = nothing
  operand_on formula A t r (Some b) = onward (formula r) (λ u r'. on_close (first r') (tree (path b A t u) (later r')) nothing)

  unfoldable pub path_on : (List Tok → Found) → ℕ → List Mode → List Tok → Found
  path_on formula k A ts = on_open (first ts) (λ _. onward (formula (later ts)) (λ t r. on_capital (first r) (λ c. operand_on formula A t (later r) (choice_of k c)) nothing)) nothing

  abbrev pub unit_on : (List Tok → Found) → (List Tok → Found) → Tok → List Tok → Found
  unit_on formula unit Zero r = tree zero r
  unit_on formula unit One r = tree one r
  unit_on formula unit (Letter k) r = tree (letter k) r
  unit_on formula unit (Capital k) r = on_modes (braces_on r) (λ A r'. path_on formula k A r')
  unit_on formula unit (Operator m) r = on_modes (braces_on r) (λ A r'. onward (unit r') (λ t r''. tree (modal m A t) r''))
  unit_on formula unit Not r = onward (unit r) (λ t r'. tree (neg t) r')
  unit_on formula unit Open r = onward (formula r) (λ t r'. on_close (first r') (tree t (later r')) nothing)
  unit_on formula unit _ r = nothing

  abbrev pub right_on : Bool → (List Tok → Found) → ℕ → Tree → List Tok → List Tok → Found
  right_on true right l t ts r = onward (right r) (λ u r'. tree (infixed l t u) r')
  right_on false right l t ts r = tree t ts

  -- what follows the left operand t of an infix operator of a level; `ts` are the tokens from there on
  abbrev pub rest_on : (List Tok → Found) → ℕ → Tree → List Tok → Tok → List Tok → Found
  rest_on right l t ts (Infix m) r = right_on (eqb m l) right l t ts r
  rest_on right l t ts _ r = tree t ts

  abbrev pub level_on : Bool → (List Tok → Found) → (List Tok → Found) → (List Tok → Found) → ℕ → List Tok → Found
  level_on true unit operand formula l ts = unit ts
  level_on false unit operand formula l ts = onward (operand ts) (λ t r. rest_on formula l t r (first r) (later r))

  unfoldable mutual
    pub read_formula : (fuel : ℕ) → ℕ → List Tok → Found
    read_formula ℕ.zero l ts = nothing
    read_formula (suc fuel) l ts = level_on (eqb l 3) (λ r. read_unit fuel r) (λ r. read_formula fuel (suc l) r) (λ r. read_formula fuel l r) l ts

    pub read_unit : (fuel : ℕ) → List Tok → Found
    read_unit ℕ.zero ts = nothing
    read_unit (suc fuel) ts = unit_on (λ r. read_formula fuel 0 r) (λ r. read_unit fuel r) (first ts) (later ts)

  -- a formula that is all the tokens
  unfoldable pub read_all : (fuel : ℕ) → List Tok → Found
  read_all fuel ts = onward (read_formula fuel 0 ts) (λ t r. on_end (first r) (tree t r) nothing)

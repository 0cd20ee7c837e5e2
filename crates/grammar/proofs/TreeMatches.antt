-- The reader by positions and the reader of trees find the same: a line's formula is its tree with the symbols looked up. Assumes nothing.
use mathlib.Core.Path.{◌≡◌, refl}
use mathlib.Core.Bool.{Bool, true, false, ◌&&◌, ◌||◌, not}
use mathlib.Core.List.{List}
use Prim.Native.Nat.{ℕ, suc, ◌+◌, ◌*◌, min}
use native.Mathlib.Nat.{sub-zero}
use native.Mathlib.Numerals.{add-one}
use lib.ListN.{length, drop}
use Rattle.spelling.specs.Spelling.{entry_in}
use lib.Dec.{eqb, leb}
use Rattle.token.specs.declared.Modal.{Modal}
use Rattle.token.specs.declared.Tok.{Tok}
use Rattle.token.specs.declared.Tok.TheVariants.{End, Zero, One, Letter, Capital, Operator, Infix, Not, Open, Close}
use Rattle.token.specs.Token.{pick, token_at, on_open, on_close, on_capital, on_end}
use Rattle.token.specs.Tokens.{within, tokens_in, tokens}
use Rattle.token.proofs.TokensLaws.{first, later, ahead}
use Rattle.operators.specs.declared.braced.Modes.{Modes}
use Rattle.operators.specs.declared.kinds.Binary.{Binary}
use Rattle.std.specs.Prelude.{Option, Some, None}
use Rattle.operators.specs.Operators.{choice_of, modal as modalRaw}
use Rattle.syntax.specs.Raw.{Raw}
use Rattle.syntax.specs.Parse.{Out, good, bad, after, letter_low, with_modes, operand_from, path_from, unit_from, right_from, rest_from, formula_from, formula_at, unit_at, line_at}
use Rattle.grammar.specs.Grammar.{Mode, Tree, zero, one, letter, neg, infixed, modal, path, mode_set, some_no_field, empty_or_twice, resolve, symbol_wrong, braces_wrong, low_of}
use Rattle.grammar.proofs.ModeSets.{lowest, ltb-not}
use Rattle.grammar.proofs.BracesMatches.{MatchesModes, no-modes, same-modes, braces-match}
use Rattle.grammar.proofs.TreeReader.{Found, tree, nothing, onward, FoundModes, on_modes, operand_on, path_on, unit_on, right_on, rest_on, level_on, read_formula, read_unit, read_all}

-- ---- the lowest of two refusals
low-join : (a b c d : Bool) → min (lowest a b) (lowest c d) ≡ lowest (a || c) (b || d)
low-join true true true true = refl
low-join true true true false = refl
low-join true true false true = refl
low-join true true false false = refl
low-join true false true true = refl
low-join true false true false = refl
low-join true false false true = refl
low-join true false false false = refl
low-join false true true true = refl
low-join false true true false = refl
low-join false true false true = refl
low-join false true false false = refl
low-join false false true true = refl
low-join false false true false = refl
low-join false false false true = refl
low-join false false false false = refl

letter-low : (v : ℕ) → letter_low v ≡ lowest (not (leb 1 v && leb v 8)) false
unfolding letter_low
letter-low v = rw (ltb-not v 1) (go (leb 1 v) (leb v 8))
  where
    go : (a b : Bool) → pick (not a) 7 (pick b 9 7) ≡ lowest (not (a && b)) false
    go true true = refl
    go true false = refl
    go false b = refl

module _ (s decl : List ℕ) where
  -- what the two readers find
  pub data Matches : Found → Out → Type 0 where
    both-none : Matches nothing bad
    both_found : (t : Tree) (e : ℕ) → Matches (tree t (tokens (drop e s))) (good (resolve decl t) e (low_of decl t))

  onward-match : {o : Found} {o' : Out} (go : Tree → List Tok → Found) (go' : Raw → ℕ → ℕ → Out) → Matches o o'
      → ((t : Tree) (e : ℕ) → Matches (go t (tokens (drop e s))) (go' (resolve decl t) e (low_of decl t)))
      → Matches (onward o go) (after o' go')
  onward-match go go' both-none k = both-none
  onward-match go go' (both_found t e) k = k t e

  modes-onward : {o : FoundModes} {o' : Option Modes} (go : List Mode → List Tok → Found) (go' : ℕ → ℕ → ℕ → Out) → MatchesModes s decl o o'
      → ((A : List Mode) (e : ℕ) → Matches (go A (tokens (drop e s))) (go' (mode_set decl A) e (lowest (some_no_field decl A) (empty_or_twice decl A))))
      → Matches (on_modes o go) (with_modes o' go')
  modes-onward go go' no-modes k = both-none
  modes-onward go go' (same-modes A e) k = k A e

  -- a token that is looked for
  close-match : (k : Tok) (t : Tree) (e : ℕ) → Matches (on_close k (tree t (tokens_in (within false k) (drop e s))) nothing) (on_close k (good (resolve decl t) e (low_of decl t)) bad)
  close-match Close t e = both_found t e
  close-match _ t e = both-none

  open-match : (go : List Tok → Found) (go' : ℕ → Out) → ((e : ℕ) → Matches (go (tokens (drop e s))) (go' e)) → (k : Tok) (e : ℕ) → Matches (on_open k (λ _. go (tokens_in (within false k) (drop e s))) nothing) (on_open k (λ _. go' e) bad)
  open-match go go' h Open e = h e
  open-match go go' h _ e = both-none

  capital-match : (go : ℕ → List Tok → Found) (go' : ℕ → ℕ → Out) → ((c e : ℕ) → Matches (go c (tokens (drop e s))) (go' c e)) → (k : Tok) (e : ℕ) → Matches (on_capital k (λ c. go c (tokens_in (within false k) (drop e s))) nothing) (on_capital k (λ c. go' c e) bad)
  capital-match go go' h (Capital k) e = h k e
  capital-match go go' h _ e = both-none

  end-match : {a : Found} {a' : Out} (k : Tok) → Matches a a' → Matches (on_end k a nothing) (on_end k a' bad)
  end-match End h = h
  end-match _ h = both-none

  close-found : (t : Tree) (e : ℕ) → Matches (on_close (first (tokens (drop e s))) (tree t (later (tokens (drop e s)))) nothing) (on_close (token_at s e).tok (good (resolve decl t) (token_at s e).next (low_of decl t)) bad)
  close-found t e = let a = ahead false s e in rw (a.now, a.rest) (close-match (token_at s e).tok t (token_at s e).next)

  -- ---- units and formulas, from readers of their parts
  module _ (formula unit : List Tok → Found) (formula' unit' : ℕ → Out) (f : (at : ℕ) → Matches (formula (tokens (drop at s))) (formula' at)) (u : (at : ℕ) → Matches (unit (tokens (drop at s))) (unit' at)) where
    operand-match : (A : List Mode) (t : Tree) (at : ℕ) (c : Option Binary)
        → Matches (operand_on (length s + 1) formula A t (tokens (drop at s)) c) (operand_from s decl formula' (mode_set decl A) (resolve decl t) (min (lowest (some_no_field decl A) (empty_or_twice decl A)) (low_of decl t)) at c)
    operand-match A t at None = both-none
    operand-match A t at (Some b) =
        onward-match _ _ (f at)
        (λ v e.
        rw (
          low-join (some_no_field decl A) (empty_or_twice decl A) (symbol_wrong decl t) (braces_wrong decl t),
          low-join (some_no_field decl A || symbol_wrong decl t) (empty_or_twice decl A || braces_wrong decl t) (symbol_wrong decl v) (braces_wrong decl v),
        )
        (close-found (path b A t v) e))

    -- the connective and the second operand
    second-match : (k : ℕ) (A : List Mode) (t : Tree) (e : ℕ) → Matches (on_capital (first (tokens (drop e s))) (λ c. operand_on (length s + 1) formula A t (later (tokens (drop e s))) (choice_of k c)) nothing)
        (on_capital (token_at s e).tok (λ c. operand_from s decl formula' (mode_set decl A) (resolve decl t) (min (lowest (some_no_field decl A) (empty_or_twice decl A)) (low_of decl t)) (token_at s e).next (choice_of k c)) bad)
    second-match k A t e =
        let a = ahead false s e in
        rw (a.now, a.rest) (capital-match (λ c r. operand_on (length s + 1) formula A t r (choice_of k c)) _ (λ c p. operand-match A t p (choice_of k c)) (token_at s e).tok (token_at s e).next)

    path-match : (k : ℕ) (A : List Mode) (at : ℕ) → Matches (path_on (length s + 1) formula k A (tokens (drop at s))) (path_from s decl formula' k (mode_set decl A) (lowest (some_no_field decl A) (empty_or_twice decl A)) at)
    unfolding path_on path_from
    path-match k A at =
        let a = ahead false s at in
        rw (a.now, a.rest)
        (open-match
        (λ r. onward (formula r) (λ t r'. on_capital (first r') (λ c. operand_on (length s + 1) formula A t (later r') (choice_of k c)) nothing))
        (λ p. after (formula' p) (λ t e low. on_capital (token_at s e).tok (λ c. operand_from s decl formula' (mode_set decl A) t (min (lowest (some_no_field decl A) (empty_or_twice decl A)) low) (token_at s e).next (choice_of k c)) bad))
        (λ p. onward-match (λ t r'. on_capital (first r') (λ c. operand_on (length s + 1) formula A t (later r') (choice_of k c)) nothing) (λ t e low. on_capital (token_at s e).tok (λ c. operand_from s decl formula' (mode_set decl A) t (min (lowest (some_no_field decl A) (empty_or_twice decl A)) low) (token_at s e).next (choice_of k c)) bad) (f p) (λ t e. second-match k A t e))
        (token_at s at).tok (token_at s at).next)

    modal-match : (m : Modal) (A : List Mode) (at : ℕ)
        → Matches (onward (unit (tokens (drop at s))) (λ t r. tree (modal m A t) r)) (after (unit' at) (λ p e low. good (modalRaw m (mode_set decl A) p) e (min (lowest (some_no_field decl A) (empty_or_twice decl A)) low)))
    modal-match m A at = onward-match _ _ (u at) (λ t e. rw (low-join (some_no_field decl A) (empty_or_twice decl A) (symbol_wrong decl t) (braces_wrong decl t)) (both_found (modal m A t) e))

    unit-match : (k : Tok) (at : ℕ) → Matches (unit_on (length s + 1) formula unit k (tokens_in (within false k) (drop at s))) (unit_from s decl formula' unit' k at)
    unit-match Zero at = both_found zero at
    unit-match One at = both_found one at
    unit-match (Letter k) at = rw (letter-low (entry_in decl k)) (both_found (letter k) at)
    unit-match (Capital k) at = modes-onward _ _ (braces-match s decl at) (λ A e. path-match k A e)
    unit-match (Operator m) at = modes-onward _ _ (braces-match s decl at) (λ A e. modal-match m A e)
    unit-match Not at = onward-match _ _ (u at) (λ t e. both_found (neg t) e)
    unit-match Open at = onward-match _ _ (f at) (λ t e. close-found t e)
    unit-match _ at = both-none

  module _ (formula : List Tok → Found) (formula' : ℕ → Out) (f : (at : ℕ) → Matches (formula (tokens (drop at s))) (formula' at)) (l : ℕ) where
    right-match : (x : Bool) (t : Tree) (e at : ℕ) → Matches (right_on (length s + 1) x formula l t (tokens (drop e s)) (tokens (drop at s))) (right_from s decl x formula' l (resolve decl t) e (low_of decl t) at)
    right-match true t e at = onward-match _ _ (f at) (λ v e'. rw (low-join (symbol_wrong decl t) (braces_wrong decl t) (symbol_wrong decl v) (braces_wrong decl v)) (both_found (infixed l t v) e'))
    right-match false t e at = both_found t e

    rest-match : (k : Tok) (t : Tree) (e at : ℕ) → Matches (rest_on (length s + 1) formula l t (tokens (drop e s)) k (tokens_in (within false k) (drop at s))) (rest_from s decl formula' l (resolve decl t) e (low_of decl t) k at)
    rest-match (Infix m) t e at = right-match (eqb m l) t e at
    rest-match _ t e at = both_found t e

    level-match : (unit operand : List Tok → Found) (unit' operand' : ℕ → Out) (x : Bool) (at : ℕ) → Matches (unit (tokens (drop at s))) (unit' at) → Matches (operand (tokens (drop at s))) (operand' at)
        → Matches (level_on (length s + 1) x unit operand formula l (tokens (drop at s))) (formula_from s decl x unit' operand' formula' l at)
    level-match unit operand unit' operand' true at u o = u
    level-match unit operand unit' operand' false at u o = onward-match _ _ o (λ t e. let a = ahead false s e in rw (a.now, a.rest) (rest-match (token_at s e).tok t e (token_at s e).next))

  mutual
    unfolding read_formula read_unit formula_at unit_at

    pub formula-match : (fuel l at : ℕ) → Matches (read_formula (length s + 1) fuel l (tokens (drop at s))) (formula_at s decl fuel l at)
    formula-match ℕ.zero l at = both-none
    formula-match (suc fuel) l at =
        level-match (λ r. read_formula (length s + 1) fuel l r) (λ p. formula_at s decl fuel l p) (λ p. formula-match fuel l p) l
        (λ r. read_unit (length s + 1) fuel r) (λ r. read_formula (length s + 1) fuel (suc l) r) (λ p. unit_at s decl fuel p) (λ p. formula_at s decl fuel (l + 1) p)
        (eqb l 3) at (units-match fuel at) (rw (add-one l) (formula-match fuel (suc l) at))

    pub units-match : (fuel at : ℕ) → Matches (read_unit (length s + 1) fuel (tokens (drop at s))) (unit_at s decl fuel at)
    units-match ℕ.zero at = both-none
    units-match (suc fuel) at =
        let a = ahead false s at in
        rw (a.now, a.rest)
        (unit-match (λ r. read_formula (length s + 1) fuel 0 r) (λ r. read_unit (length s + 1) fuel r) (λ p. formula_at s decl fuel 0 p) (λ p. unit_at s decl fuel p)
        (λ p. formula-match fuel 0 p) (λ p. units-match fuel p) (token_at s at).tok (token_at s at).next)

  -- a line's formula
  pub line-match : Matches (read_all (length s + 1) (5 * length s + 5) (tokens s)) (line_at s decl 0)
  unfolding read_all line_at
  line-match =
      rw (sub-zero (length s))
      (onward-match _ _ (formula-match (5 * length s + 5) 0 0)
      (λ t e.
      let a = ahead false s e in
      rw a.now (end-match (token_at s e).tok (both_found t e))))

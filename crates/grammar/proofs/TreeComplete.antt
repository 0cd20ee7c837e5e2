-- What the grammar derives, the reader of trees finds, with enough fuel. Assumes nothing.
use mathlib.Core.Path.{◌≡◌, refl, ap, ◌∙◌}
use mathlib.Core.List.{List, [], ◌∷◌, ◌++◌, append_assoc}
use Prim.Native.Nat.{ℕ, suc, ◌+◌, ◌-◌, ◌*◌, ◌≤◌, ◌<◌}
use native.Mathlib.Omega.{arith}
use lib.ListN.{length, length-append}
use lib.Dec.{eqb}
use borrow.Author.Tests.{eq-eqb, ne_eqb}
use Rattle.token.specs.declared.Modal.{Modal}
use Rattle.token.specs.declared.Tok.{Tok}
use Rattle.token.specs.declared.Tok.TheVariants.{Zero, One, Letter, Capital, Operator, Infix, Not, Open, Close, CloseBrace, Comma}
use Rattle.token.specs.Token.{on_close_brace}
use Rattle.token.proofs.TokensLaws.{first, later}
use Rattle.operators.specs.declared.kinds.Binary.{Binary}
use Rattle.operators.specs.declared.kinds.Binary.TheVariants.{Eu, Au, Er, Ar}
use Rattle.std.specs.Prelude.{Some}
use Rattle.operators.specs.Operators.{choice_of}
use Rattle.grammar.specs.Grammar.{Mode, forward, backward, Tree, zero, one, letter, neg, infixed, modal, path, mode_token, commas, braces, quantifier, connective, is_zero, is_one, is-letter, is-bracketed, is-neg, is-modal, is-path, IsFormula, is-unit, is-operand, is-infixed}
use Rattle.grammar.proofs.TreeReader.{Found, tree, FoundModes, modes, before, more_on, mode_on, modes_on, braces_on, path_on, unit_on, rest_on, level_on, read_formula, read_unit}

-- ---- braces
mode-read : (m : Mode) (more : List Tok → FoundModes) (r : List Tok) → mode_on more (mode_token m) r ≡ more_on more m (first r) (later r)
mode-read (forward k) more r = refl
mode-read (backward k) more r = refl

modes-read : (fuel : ℕ) (m : Mode) (A : List Mode) (r : List Tok) → length A < fuel → modes_on fuel (commas (m ∷ A) ++ CloseBrace ∷ r) ≡ modes (m ∷ A) r
unfolding modes_on
modes-read ℕ.zero m A r h = absurd (omega arith)
modes-read (suc fuel) m [] r h = mode-read m (λ x. modes_on fuel x) (CloseBrace ∷ r)
modes-read (suc fuel) m (n ∷ A) r h = mode-read m (λ x. modes_on fuel x) (Comma ∷ (commas (n ∷ A) ++ CloseBrace ∷ r)) ∙ ap (before m) (modes-read fuel n A r (omega arith))

first-mode : (m : Mode) (A : List Mode) (r : List Tok) → first (commas (m ∷ A) ++ r) ≡ mode_token m
first-mode m [] r = refl
first-mode m (n ∷ A) r = refl

no-closing : (m : Mode) (a b : FoundModes) → on_close_brace (mode_token m) a b ≡ b
no-closing (forward k) a b = refl
no-closing (backward k) a b = refl

braces-read : (n : ℕ) (A : List Mode) (r : List Tok) → length A ≤ n → braces_on n (braces A ++ r) ≡ modes A r
unfolding braces_on
braces-read n [] r h = refl
braces-read n (m ∷ A) r h = rw (append_assoc (commas (m ∷ A)) (CloseBrace ∷ []) r, first-mode m A (CloseBrace ∷ r), no-closing m) (modes-read n m A r (omega arith))

commas-length : (A : List Mode) → length A ≤ length (commas A)
commas-length [] = omega arith
commas-length (m ∷ []) = omega arith
commas-length (m ∷ (n ∷ A)) = let h = commas-length (n ∷ A) in omega arith

braces-length : (A : List Mode) → length A < length (braces A)
braces-length A = omega (arith, commas-length A, length-append (commas A) (CloseBrace ∷ []))

-- ---- units and formulas
choice-read : (b : Binary) → choice_of (quantifier b) (connective b) ≡ Some b
unfolding choice_of
choice-read Eu = refl
choice-read Au = refl
choice-read Er = refl
choice-read Ar = refl

-- there is no level above 3
level-le : {l : ℕ} {ts : List Tok} {t : Tree} → IsFormula l ts t → l ≤ 3
level-le (is-unit d) = omega arith
level-le (is-operand d) = let h = level-le d in omega arith
level-le (is-infixed d d') = let h = level-le d in omega arith

-- tokens that go on no formula of a level: they begin with no infix operator of this level or above
abbrev pub Clean : ℕ → List Tok → Type 0
Clean l r = (m : ℕ) → l ≤ m → first r ≡ Infix m → ⊥

differ : ◌≡◌ {A = ℕ} 0 1 → ⊥
differ e = omega arith

clean_close : (l : ℕ) (r : List Tok) → Clean l (Close ∷ r)
clean_close l r m h e = differ (cc)

clean-capital : (l c : ℕ) (r : List Tok) → Clean l (Capital c ∷ r)
clean-capital l c r m h e = differ (cc)

pub clean_end : (l : ℕ) → Clean l []
clean_end l m h e = differ (cc)

clean-infix : (l : ℕ) (r : List Tok) → Clean (suc l) (Infix l ∷ r)
clean-infix l r m h e = let g : l ≡ m = cc in omega arith

module _ (n : ℕ) where
  unit-fuel : (f : ℕ) (ts : List Tok) → 0 < f → read_unit n f ts ≡ unit_on n (λ r. read_formula n (f - 1) 0 r) (λ r. read_unit n (f - 1) r) (first ts) (later ts)
  unfolding read_unit
  unit-fuel ℕ.zero ts h = absurd (omega arith)
  unit-fuel (suc f) ts h = let e : suc f - 1 ≡ f = omega arith in rw e refl

  formula-fuel : (f l : ℕ) (ts : List Tok) → 0 < f → read_formula n f l ts ≡ level_on n (eqb l 3) (λ r. read_unit n (f - 1) r) (λ r. read_formula n (f - 1) (suc l) r) (λ r. read_formula n (f - 1) l r) l ts
  unfolding read_formula
  formula-fuel ℕ.zero l ts h = absurd (omega arith)
  formula-fuel (suc f) l ts h = let e : suc f - 1 ≡ f = omega arith in rw e refl

  module _ (formula : List Tok → Found) where
    path-read : (b : Binary) (A : List Mode) (t u : Tree) (ts us r : List Tok) → formula ts ≡ tree t (Capital (connective b) ∷ us) → formula us ≡ tree u (Close ∷ r) → path_on n formula (quantifier b) A (Open ∷ ts) ≡ tree (path b A t u) r
    unfolding path_on
    path-read b A t u ts us r e e' = rw (e, choice-read b, e') refl

    rest_read : (l : ℕ) (t : Tree) (ts r : List Tok) (k : Tok) → (k ≡ Infix l → ⊥) → rest_on n formula l t ts k r ≡ tree t ts
    rest_read l t ts r (Infix m) h = rw (ne_eqb m l (λ e. h (ap Infix e))) refl
    rest_read l t ts r _ h = refl

  -- what is read of a unit, and of a formula of a level, before any tokens that do not go on with it
  abbrev UnitRead : List Tok → Tree → Type 0
  UnitRead us t = (r : List Tok) (f : ℕ) → 5 * length us + 1 ≤ f → length us ≤ n → read_unit n f (us ++ r) ≡ tree t r

  abbrev FormulaRead : ℕ → List Tok → Tree → Type 0
  FormulaRead l us t = (r : List Tok) (f : ℕ) → 5 * length us + 5 ≤ f + l → length us ≤ n → Clean l r → read_formula n f l (us ++ r) ≡ tree t r

  zero-read : UnitRead (Zero ∷ []) zero
  zero-read r f h g = unit-fuel f (Zero ∷ r) (omega arith)

  one-read : UnitRead (One ∷ []) one
  one-read r f h g = unit-fuel f (One ∷ r) (omega arith)

  letter-read : (k : ℕ) → UnitRead (Letter k ∷ []) (letter k)
  letter-read k r f h g = unit-fuel f (Letter k ∷ r) (omega arith)

  bracketed-read : (ts : List Tok) (t : Tree) → FormulaRead 0 ts t → UnitRead (Open ∷ ts ++ Close ∷ []) t
  bracketed-read ts t d r f h g =
      let x : length (ts ++ Close ∷ []) ≡ length ts + 1 = length-append ts (Close ∷ []) in
      unit-fuel f (Open ∷ ts ++ Close ∷ [] ++ r) (omega arith)
      ∙ (rw (append_assoc ts (Close ∷ []) r, d (Close ∷ r) (f - 1) (omega arith) (omega arith) (clean_close 0 r)) refl)

  neg-read : (ts : List Tok) (t : Tree) → UnitRead ts t → UnitRead (Not ∷ ts) (neg t)
  neg-read ts t d r f h g = unit-fuel f (Not ∷ ts ++ r) (omega arith) ∙ (rw (d r (f - 1) (omega arith) (omega arith)) refl)

  modal-read : (m : Modal) (A : List Mode) (ts : List Tok) (t : Tree) → UnitRead ts t → UnitRead (Operator m ∷ braces A ++ ts) (modal m A t)
  modal-read m A ts t d r f h g =
      let x : length (braces A ++ ts) ≡ length (braces A) + length ts = length-append (braces A) ts in
      let y : length A < length (braces A) = braces-length A in
      unit-fuel f (Operator m ∷ braces A ++ ts ++ r) (omega arith)
      ∙ (rw (append_assoc (braces A) ts r, braces-read n A (ts ++ r) (omega arith), d r (f - 1) (omega arith) (omega arith)) refl)

  paths-read : (b : Binary) (A : List Mode) (ts us : List Tok) (t u : Tree) → FormulaRead 0 ts t → FormulaRead 0 us u → UnitRead (Capital (quantifier b) ∷ braces A ++ Open ∷ ts ++ Capital (connective b) ∷ us ++ Close ∷ []) (path b A t u)
  paths-read b A ts us t u d d' r f h g =
      let x : length (braces A ++ Open ∷ ts ++ Capital (connective b) ∷ us ++ Close ∷ []) ≡ length (braces A) + length ts + length us + 3 = simp length-append (omega arith) in
      let y : length A < length (braces A) = braces-length A in
      unit-fuel f (Capital (quantifier b) ∷ braces A ++ Open ∷ ts ++ Capital (connective b) ∷ us ++ Close ∷ [] ++ r) (omega arith)
      ∙ (rw (whole, braces-read n A (Open ∷ (ts ++ (Capital (connective b) ∷ (us ++ (Close ∷ r))))) (omega arith))
      (path-read (λ r. read_formula n (f - 1) 0 r) b A t u (ts ++ (Capital (connective b) ∷ (us ++ (Close ∷ r)))) (us ++ (Close ∷ r)) r
      (d (Capital (connective b) ∷ (us ++ (Close ∷ r))) (f - 1) (omega arith) (omega arith) (clean-capital 0 (connective b) (us ++ (Close ∷ r))))
      (d' (Close ∷ r) (f - 1) (omega arith) (omega arith) (clean_close 0 r))))
    where
      whole : braces A ++ Open ∷ ts ++ Capital (connective b) ∷ us ++ Close ∷ [] ++ r ≡ braces A ++ (Open ∷ (ts ++ (Capital (connective b) ∷ (us ++ (Close ∷ r)))))
      whole = simp append_assoc

  unit-read : (ts : List Tok) (t : Tree) → UnitRead ts t → FormulaRead 3 ts t
  unit-read ts t d r f h g c = formula-fuel f 3 (ts ++ r) (omega arith) ∙ d r (f - 1) (omega arith) g

  operand_read : (l : ℕ) (ts : List Tok) (t : Tree) → suc l ≤ 3 → FormulaRead (suc l) ts t → FormulaRead l ts t
  operand_read l ts t x d r f h g c =
      formula-fuel f l (ts ++ r) (omega arith)
      ∙ (rw (ne_eqb l 3 (λ e. omega arith), d r (f - 1) (omega arith) g (λ m i e. c m (omega arith) e)) (rest_read (λ r. read_formula n (f - 1) l r) l t r (later r) (first r) (c l (omega arith))))

  infixed-read : (l : ℕ) (ts us : List Tok) (t u : Tree) → suc l ≤ 3 → FormulaRead (suc l) ts t → FormulaRead l us u → FormulaRead l (ts ++ Infix l ∷ us) (infixed l t u)
  infixed-read l ts us t u x d d' r f h g c =
      let y : length (ts ++ Infix l ∷ us) ≡ length ts + suc (length us) = length-append ts (Infix l ∷ us) in
      formula-fuel f l (ts ++ Infix l ∷ us ++ r) (omega arith)
      ∙ (rw (append_assoc ts (Infix l ∷ us) r, ne_eqb l 3 (λ e. omega arith), d (Infix l ∷ (us ++ r)) (f - 1) (omega arith) (omega arith) (clean-infix l (us ++ r)), eq-eqb l l refl, d' r (f - 1) (omega arith) (omega arith) c) refl)

  pub formula-read : {l : ℕ} {us : List Tok} {t : Tree} → IsFormula l us t → FormulaRead l us t
  formula-read d = elim d as (λ us t _. UnitRead us t) (λ l us t _. FormulaRead l us t) [
    | is_zero ↦ zero-read
    | is_one ↦ one-read
    | is-letter {k} ↦ letter-read k
    | is-bracketed {ts} {t} (d → h) ↦ bracketed-read ts t h
    | is-neg {ts} {t} (d → h) ↦ neg-read ts t h
    | is-modal {m} {A} {ts} {t} (d → h) ↦ modal-read m A ts t h
    | is-path {b} {A} {ts} {us} {t} {u} (d → h) (d' → h') ↦ paths-read b A ts us t u h h'
    | is-unit {ts} {t} (d → h) ↦ unit-read ts t h
    | is-operand {l} {ts} {t} (d → h) ↦ operand_read l ts t (level-le d) h
    | is-infixed {l} {ts} {us} {t} {u} (d → h) (d' → h') ↦ infixed-read l ts us t u (level-le d) h h'
  ]

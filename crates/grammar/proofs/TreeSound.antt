-- What the reader of trees finds, the grammar derives. Assumes nothing.
use mathlib.Core.Path.{◌≡◌, refl}
use mathlib.Core.Bool.{Bool, true, false}
use mathlib.Core.List.{List, [], ◌∷◌, ◌++◌, append_assoc}
use Prim.Native.Nat.{ℕ, suc}
use lib.Dec.{eqb}
use borrow.Author.Tests.{eqb-true}
use Rattle.token.specs.declared.Tok.{Tok}
use Rattle.token.specs.declared.Tok.TheVariants.{Zero, One, Letter, Capital, Operator, Infix, Not, Open, Close, OpenBrace, CloseBrace, Comma}
use Rattle.token.specs.Token.{pick, on_open, on_close, on_capital, on_open_brace, on_close_brace}
use Rattle.token.proofs.TokensLaws.{first, later}
use Rattle.operators.specs.declared.kinds.Binary.{Binary}
use Rattle.operators.specs.declared.kinds.Binary.TheVariants.{Eu, Au, Er, Ar}
use Rattle.std.specs.Prelude.{Option, Some, None}
use Rattle.operators.specs.Operators.{choice_of}
use Rattle.grammar.specs.Grammar.{Mode, forward, backward, Tree, zero, one, letter, neg, infixed, modal, path, mode_token, commas, braces, quantifier, connective, IsUnit, is_zero, is_one, is-letter, is-bracketed, is-neg, is-modal, is-path, IsFormula, is-unit, is-operand, is-infixed}
use Rattle.grammar.proofs.TreeReader.{Found, tree, nothing, onward, FoundModes, modes, no_modes, on_modes, before, more_on, mode_on, modes_on, braces_on, operand_on, path_on, unit_on, right_on, rest_on, level_on, read_formula, read_unit}

-- ---- braces
data SoundList : List Tok → FoundModes → Type 0 where
  no-list : {ts : List Tok} → SoundList ts no_modes
  some-list : (m : Mode) (A : List Mode) (r : List Tok) → SoundList (commas (m ∷ A) ++ CloseBrace ∷ r) (modes (m ∷ A) r)

before-list : (n : Mode) {ts : List Tok} {o : FoundModes} → SoundList ts o → SoundList (mode_token n ∷ Comma ∷ ts) (before n o)
before-list n no-list = no-list
before-list n (some-list m A r) = some-list n (m ∷ A) r

module _ (more : List Tok → FoundModes) (h : (ts : List Tok) → SoundList ts (more ts)) where
  more-token : (n : Mode) (k : Tok) (r : List Tok) → SoundList (mode_token n ∷ k ∷ r) (more_on more n k r)
  more-token n CloseBrace r = some-list n [] r
  more-token n Comma r = before-list n (h r)
  more-token n _ r = no-list

  more-list : (n : Mode) (ts : List Tok) → SoundList (mode_token n ∷ ts) (more_on more n (first ts) (later ts))
  more-list n [] = no-list
  more-list n (k ∷ r) = more-token n k r

  mode-token : (k : Tok) (r : List Tok) → SoundList (k ∷ r) (mode_on more k r)
  mode-token (Letter k) r = more-list (forward k) r
  mode-token (Capital k) r = more-list (backward k) r
  mode-token _ r = no-list

  mode-list : (ts : List Tok) → SoundList ts (mode_on more (first ts) (later ts))
  mode-list [] = no-list
  mode-list (k ∷ r) = mode-token k r

modes-list : (fuel : ℕ) (ts : List Tok) → SoundList ts (modes_on fuel ts)
unfolding modes_on
modes-list ℕ.zero ts = no-list
modes-list (suc fuel) ts = mode-list (λ r. modes_on fuel r) (λ r. modes-list fuel r) ts

data SoundModes : List Tok → FoundModes → Type 0 where
  no-modes : {ts : List Tok} → SoundModes ts no_modes
  some-modes : (A : List Mode) (r : List Tok) → SoundModes (braces A ++ r) (modes A r)

list-braces : {ts : List Tok} {o : FoundModes} → SoundList ts o → SoundModes (OpenBrace ∷ ts) o
list-braces no-list = no-modes
list-braces (some-list m A r) = rw (← append_assoc (commas (m ∷ A)) (CloseBrace ∷ []) r) (some-modes (m ∷ A) r)

module _ (n : ℕ) where
  closing-sound : (k : Tok) (r : List Tok) → SoundModes (OpenBrace ∷ k ∷ r) (on_close_brace k (modes [] r) (modes_on n (k ∷ r)))
  closing-sound CloseBrace r = some-modes [] r
  closing-sound k r = list-braces (modes-list n (k ∷ r))

  inner-sound : (r : List Tok) → SoundModes (OpenBrace ∷ r) (on_close_brace (first r) (modes [] (later r)) (modes_on n r))
  inner-sound [] = list-braces (modes-list n [])
  inner-sound (k ∷ r) = closing-sound k r

  opening-sound : (k : Tok) (r : List Tok) → SoundModes (k ∷ r) (on_open_brace k (λ _. on_close_brace (first r) (modes [] (later r)) (modes_on n r)) no_modes)
  opening-sound OpenBrace r = inner-sound r
  opening-sound _ r = no-modes

  braces-sound : (ts : List Tok) → SoundModes ts (braces_on n ts)
  unfolding braces_on
  braces-sound [] = no-modes
  braces-sound (k ∷ r) = opening-sound k r

-- ---- trees
pub data Sound (P : List Tok → Tree → Type 0) : List Tok → Found → Type 0 where
  none_found : {ts : List Tok} → Sound P ts nothing
  some-found : (us r : List Tok) (t : Tree) → P us t → Sound P (us ++ r) (tree t r)

module _ (Q : List Tok → Tree → Type 0) where
  onward-sound : {P : List Tok → Tree → Type 0} {ts : List Tok} {o : Found} (front : List Tok) (go : Tree → List Tok → Found) → Sound P ts o
      → ((us r : List Tok) (t : Tree) → P us t → Sound Q (front ++ (us ++ r)) (go t r))
      → Sound Q (front ++ ts) (onward o go)
  onward-sound front go none_found k = none_found
  onward-sound front go (some-found us r t d) k = k us r t d

  modes-onward : {ts : List Tok} {o : FoundModes} (front : List Tok) (go : List Mode → List Tok → Found) → SoundModes ts o
      → ((A : List Mode) (r : List Tok) → Sound Q (front ++ (braces A ++ r)) (go A r))
      → Sound Q (front ++ ts) (on_modes o go)
  modes-onward front go no-modes k = none_found
  modes-onward front go (some-modes A r) k = k A r

  close-token : (front : List Tok) (t : Tree) (k : Tok) (r : List Tok) → Q (front ++ Close ∷ []) t → Sound Q (front ++ k ∷ r) (on_close k (tree t r) nothing)
  close-token front t Close r d = rw (← append_assoc front (Close ∷ []) r) (some-found (front ++ Close ∷ []) r t d)
  close-token front t _ r d = none_found

  close-sound : (front : List Tok) (t : Tree) (r : List Tok) → Q (front ++ Close ∷ []) t → Sound Q (front ++ r) (on_close (first r) (tree t (later r)) nothing)
  close-sound front t [] d = none_found
  close-sound front t (k ∷ r) d = close-token front t k r d

-- the operator that two capitals make
data Chosen (q c : ℕ) : Option Binary → Type 0 where
  not_chosen : Chosen q c None
  chosen : (b : Binary) → q ≡ quantifier b → c ≡ connective b → Chosen q c (Some b)

choice-is : (q c : ℕ) → Chosen q c (choice_of q c)
unfolding choice_of
choice-is q c = go (eqb q 101) (eqb q 97) (eqb c 117) (eqb c 114) refl refl refl refl
  where
    go : (x y z w : Bool) → eqb q 101 ≡ x → eqb q 97 ≡ y → eqb c 117 ≡ z → eqb c 114 ≡ w → Chosen q c (pick x (pick z (Some Eu) (pick w (Some Er) None)) (pick y (pick z (Some Au) (pick w (Some Ar) None)) None))
    go true y true w e f g h = chosen Eu (eqb-true q 101 e) (eqb-true c 117 g)
    go true y false true e f g h = chosen Er (eqb-true q 101 e) (eqb-true c 114 h)
    go true y false false e f g h = not_chosen
    go false true true w e f g h = chosen Au (eqb-true q 97 f) (eqb-true c 117 g)
    go false true false true e f g h = chosen Ar (eqb-true q 97 f) (eqb-true c 114 h)
    go false true false false e f g h = not_chosen
    go false false z w e f g h = not_chosen

-- units, from readers of their parts
module _ (n : ℕ) (formula unit : List Tok → Found) (f : (ts : List Tok) → Sound (IsFormula 0) ts (formula ts)) (u : (ts : List Tok) → Sound IsUnit ts (unit ts)) where
  operand_sound : (k c : ℕ) (A : List Mode) (us : List Tok) (t : Tree) → IsFormula 0 us t → (r : List Tok) {o : Option Binary} → Chosen k c o → Sound IsUnit (Capital k ∷ braces A ++ Open ∷ us ++ Capital c ∷ r) (operand_on n formula A t r o)
  operand_sound k c A us t d r not_chosen = none_found
  operand_sound k c A us t d r (chosen b e e') =
      rw (← append_assoc (braces A ++ Open ∷ us) (Capital c ∷ []) r)
      (onward-sound IsUnit (Capital k ∷ braces A ++ Open ∷ us ++ Capital c ∷ []) _ (f r)
      (λ vs r' v d'.
      rw (append_assoc (braces A ++ Open ∷ us) (Capital c ∷ []) (vs ++ r'), ← append_assoc (braces A ++ Open ∷ us) (Capital c ∷ vs) r')
      (close-sound IsUnit (Capital k ∷ braces A ++ Open ∷ us ++ Capital c ∷ vs) (path b A t v) r' (rw (e, e') (is-path d d')))))

  between-token : (k : ℕ) (A : List Mode) (us : List Tok) (t : Tree) → IsFormula 0 us t → (x : Tok) (r : List Tok) → Sound IsUnit (Capital k ∷ braces A ++ Open ∷ us ++ x ∷ r) (on_capital x (λ c. operand_on n formula A t r (choice_of k c)) nothing)
  between-token q A us t d (Capital k) r = operand_sound q k A us t d r (choice-is q k)
  between-token q A us t d _ r = none_found

  between-sound : (k : ℕ) (A : List Mode) (us : List Tok) (t : Tree) → IsFormula 0 us t → (r : List Tok) → Sound IsUnit (Capital k ∷ braces A ++ Open ∷ us ++ r) (on_capital (first r) (λ c. operand_on n formula A t (later r) (choice_of k c)) nothing)
  between-sound k A us t d [] = none_found
  between-sound k A us t d (x ∷ r) = between-token k A us t d x r

  path-open : (k : ℕ) (A : List Mode) (r : List Tok) → Sound IsUnit (Capital k ∷ braces A ++ Open ∷ r) (onward (formula r) (λ t r'. on_capital (first r') (λ c. operand_on n formula A t (later r') (choice_of k c)) nothing))
  path-open k A r =
      rw (← append_assoc (braces A) (Open ∷ []) r)
      (onward-sound IsUnit (Capital k ∷ braces A ++ Open ∷ []) _ (f r)
      (λ us r' t d.
      rw (append_assoc (braces A) (Open ∷ []) (us ++ r'), ← append_assoc (braces A) (Open ∷ us) r')
      (between-sound k A us t d r')))

  path-token : (q : ℕ) (A : List Mode) (x : Tok) (r : List Tok) → Sound IsUnit (Capital q ∷ braces A ++ x ∷ r) (on_open x (λ _. onward (formula r) (λ t r'. on_capital (first r') (λ c. operand_on n formula A t (later r') (choice_of q c)) nothing)) nothing)
  path-token q A Open r = path-open q A r
  path-token q A _ r = none_found

  path-sound : (k : ℕ) (A : List Mode) (ts : List Tok) → Sound IsUnit (Capital k ∷ braces A ++ ts) (path_on n formula k A ts)
  unfolding path_on
  path-sound k A [] = none_found
  path-sound k A (x ∷ r) = path-token k A x r

  unit-token : (k : Tok) (r : List Tok) → Sound IsUnit (k ∷ r) (unit_on n formula unit k r)
  unit-token Zero r = some-found (Zero ∷ []) r zero is_zero
  unit-token One r = some-found (One ∷ []) r one is_one
  unit-token (Letter k) r = some-found (Letter k ∷ []) r (letter k) is-letter
  unit-token (Capital k) r = modes-onward IsUnit (Capital k ∷ []) _ (braces-sound n r) (λ A r'. path-sound k A r')
  unit-token (Operator m) r =
      modes-onward IsUnit (Operator m ∷ []) _ (braces-sound n r)
      (λ A r'. onward-sound IsUnit (Operator m ∷ braces A) _ (u r') (λ us r'' t d. rw (← append_assoc (braces A) us r'') (some-found (Operator m ∷ braces A ++ us) r'' (modal m A t) (is-modal d))))
  unit-token Not r = onward-sound IsUnit (Not ∷ []) _ (u r) (λ us r' t d. some-found (Not ∷ us) r' (neg t) (is-neg d))
  unit-token Open r = onward-sound IsUnit (Open ∷ []) _ (f r) (λ us r' t d. close-sound IsUnit (Open ∷ us) t r' (is-bracketed d))
  unit-token _ r = none_found

  unit-sound : (ts : List Tok) → Sound IsUnit ts (unit_on n formula unit (first ts) (later ts))
  unit-sound [] = none_found
  unit-sound (k ∷ r) = unit-token k r

-- formulas of a level
module _ (n : ℕ) (formula : List Tok → Found) (l : ℕ) (f : (ts : List Tok) → Sound (IsFormula l) ts (formula ts)) where
  right-sound : (x : Bool) (m : ℕ) (us : List Tok) (t : Tree) → IsFormula (suc l) us t → (r : List Tok) → eqb m l ≡ x → Sound (IsFormula l) (us ++ Infix m ∷ r) (right_on n x formula l t (Infix m ∷ r) r)
  right-sound true m us t d r e =
      rw (← append_assoc us (Infix m ∷ []) r)
      (onward-sound (IsFormula l) (us ++ Infix m ∷ []) _ (f r)
      (λ vs r' v d'.
      rw (append_assoc us (Infix m ∷ []) (vs ++ r'), ← append_assoc us (Infix m ∷ vs) r')
      (some-found (us ++ Infix m ∷ vs) r' (infixed l t v) (rw (eqb-true m l e) (is-infixed d d')))))
  right-sound false m us t d r e = some-found us (Infix m ∷ r) t (is-operand d)

  rest-token : (us : List Tok) (t : Tree) → IsFormula (suc l) us t → (k : Tok) (r : List Tok) → Sound (IsFormula l) (us ++ k ∷ r) (rest_on n formula l t (k ∷ r) k r)
  rest-token us t d (Infix m) r = right-sound (eqb m l) m us t d r refl
  rest-token us t d k r = some-found us (k ∷ r) t (is-operand d)

  rest-sound : (us : List Tok) (t : Tree) → IsFormula (suc l) us t → (r : List Tok) → Sound (IsFormula l) (us ++ r) (rest_on n formula l t r (first r) (later r))
  rest-sound us t d [] = some-found us [] t (is-operand d)
  rest-sound us t d (k ∷ r) = rest-token us t d k r

  of-unit : {ts : List Tok} {o : Found} → l ≡ 3 → Sound IsUnit ts o → Sound (IsFormula l) ts o
  of-unit e none_found = none_found
  of-unit e (some-found us r t d) = some-found us r t (rw e (is-unit d))

  level-sound : (x : Bool) (unit operand : List Tok → Found) (ts : List Tok) → eqb l 3 ≡ x → Sound IsUnit ts (unit ts) → Sound (IsFormula (suc l)) ts (operand ts) → Sound (IsFormula l) ts (level_on n x unit operand formula l ts)
  level-sound true unit operand ts e u o = of-unit (eqb-true l 3 e) u
  level-sound false unit operand ts e u o = onward-sound (IsFormula l) [] _ o (λ us r t d. rest-sound us t d r)

module _ (n : ℕ) where
  mutual
    unfolding read_formula read_unit

    pub formula-sound : (fuel l : ℕ) (ts : List Tok) → Sound (IsFormula l) ts (read_formula n fuel l ts)
    formula-sound ℕ.zero l ts = none_found
    formula-sound (suc fuel) l ts = level-sound n (λ r. read_formula n fuel l r) l (λ r. formula-sound fuel l r) (eqb l 3) (λ r. read_unit n fuel r) (λ r. read_formula n fuel (suc l) r) ts refl (units-sound fuel ts) (formula-sound fuel (suc l) ts)

    pub units-sound : (fuel : ℕ) (ts : List Tok) → Sound IsUnit ts (read_unit n fuel ts)
    units-sound ℕ.zero ts = none_found
    units-sound (suc fuel) ts = unit-sound n (λ r. read_formula n fuel 0 r) (λ r. read_unit n fuel r) (λ r. formula-sound fuel 0 r) (λ r. units-sound fuel r) ts

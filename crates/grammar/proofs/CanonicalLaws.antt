-- The canonical print of a positive formula, as tokens: the grammar derives the formula's tree from it. Assumes nothing.
use mathlib.Core.Path.{◌≡◌, refl, sym, ap, ◌∙◌}
use mathlib.Core.Logic.{inl, inr}
use mathlib.Core.Bool.{Bool, true, false, not, ◌&&◌}
use mathlib.Core.List.Memᴰ
use mathlib.Core.List.{List, [], ◌∷◌, ◌++◌, map, append_assoc, append-nil}
use Prim.Native.Nat.{ℕ, ◌+◌, ◌-◌, ◌≤◌, ◌<◌}
use native.Mathlib.Omega.{arith}
use lib.Dec.{T, eqb, ltb}
use lib.Seq.{append_snoc}
use borrow.Author.Tests.{eqb-false, le-ltb, lt-ltb}
use Rattle.spelling.specs.Spelling.{lower, run, word}
use Rattle.spelling.proofs.SpellingLaws.{Lower}
use Rattle.token.specs.declared.Modal.{Modal}
use Rattle.token.specs.declared.Modal.TheVariants.{Ex, Ax}
use Rattle.std.specs.Prelude.{Some, None}
use Rattle.token.specs.declared.Tok.{Tok}
use Rattle.token.specs.declared.Tok.TheVariants.{Zero, One, Letter, Capital, Operator, Infix, Not, Open, Close, OpenBrace, CloseBrace, Comma}
use Rattle.token.specs.Token.{pick, sign_of, upper, pair_of, pair_on, least}
use Rattle.token.specs.Tokens.{within, tokens_in, tokens}
use Rattle.token.proofs.TokensLaws.{proper_of, tokens_none, sign-token, symbol-token, capital-token, operator-token, back-token}
use Rattle.ctl.specs.Formula.{Form, tru, fls, lit, nlit, and, or, ex, ax, eu, au, er, ar}
use Rattle.ctl.specs.Lists.{◌∈◌}
use Rattle.ctl.specs.Modes.{modes}
use Rattle.ctl.specs.Print.{capital, print_mode, print_modes, braces as printBraces, print}
use Rattle.ctl.specs.Alphabet.{Spelling, Alphabet, Declared, DeclaredAll, Over}
use Rattle.ctl.proofs.PrintLaws.{forward-is, backward-is}
use Rattle.operators.specs.declared.kinds.Binary.{Binary}
use Rattle.operators.specs.declared.kinds.Binary.TheVariants.{Eu, Au, Er, Ar}
use Rattle.grammar.specs.Grammar.{Mode, forward, backward, Tree, zero, one, letter, neg, infixed, modal, path, mode_token, commas, braces, quantifier, connective, IsUnit, is_zero, is_one, is-letter, is-bracketed, is-neg, is-modal, is-path, is-unit, is-operand, is-infixed, Line}

-- two formulas in brackets, a token between
abbrev two_toks : Tok → List Tok → List Tok → List Tok
two_toks k ts us = Open ∷ ts ++ k ∷ us ++ Close ∷ []

-- ---- a formula's tree and tokens; `at` gives each symbol's spelling
module _ (at : ℕ → List ℕ) where
  abbrev pub mode_of : ℕ → Mode
  mode_of m = pick (ltb m 8) (forward (word (at m))) (backward (word (at (m - 8))))

  unfoldable pub modes_of : ℕ → List Mode
  modes_of A = map (λ m. mode_of m) (modes A)

  abbrev pub tree_of : Form → Tree
  tree_of tru = one
  tree_of fls = zero
  tree_of (lit k) = letter (word (at k))
  tree_of (nlit k) = neg (letter (word (at k)))
  tree_of (and p q) = infixed 2 (tree_of p) (tree_of q)
  tree_of (or p q) = infixed 1 (tree_of p) (tree_of q)
  tree_of (ex A p) = modal Ex (modes_of A) (tree_of p)
  tree_of (ax A p) = modal Ax (modes_of A) (tree_of p)
  tree_of (eu A p q) = path Eu (modes_of A) (tree_of p) (tree_of q)
  tree_of (au A p q) = path Au (modes_of A) (tree_of p) (tree_of q)
  tree_of (er A p q) = path Er (modes_of A) (tree_of p) (tree_of q)
  tree_of (ar A p q) = path Ar (modes_of A) (tree_of p) (tree_of q)

  abbrev toks : Form → List Tok
  toks tru = One ∷ []
  toks fls = Zero ∷ []
  toks (lit k) = Letter (word (at k)) ∷ []
  toks (nlit k) = Not ∷ Letter (word (at k)) ∷ []
  toks (and p q) = two_toks (Infix 2) (toks p) (toks q)
  toks (or p q) = two_toks (Infix 1) (toks p) (toks q)
  toks (ex A p) = Operator Ex ∷ braces (modes_of A) ++ toks p
  toks (ax A p) = Operator Ax ∷ braces (modes_of A) ++ toks p
  toks (eu A p q) = Capital 101 ∷ braces (modes_of A) ++ two_toks (Capital 117) (toks p) (toks q)
  toks (au A p q) = Capital 97 ∷ braces (modes_of A) ++ two_toks (Capital 117) (toks p) (toks q)
  toks (er A p q) = Capital 101 ∷ braces (modes_of A) ++ two_toks (Capital 114) (toks p) (toks q)
  toks (ar A p q) = Capital 97 ∷ braces (modes_of A) ++ two_toks (Capital 114) (toks p) (toks q)

  regrouped : (bs ts us : List Tok) (k : Tok) → bs ++ two_toks k ts us ≡ bs ++ Open ∷ ts ++ k ∷ us ++ Close ∷ []
  regrouped bs ts us k = simp append_assoc

  path-derived : (b : Binary) (A : List Mode) (ts us : List Tok) (t u : Tree) → IsUnit ts t → IsUnit us u → IsUnit (Capital (quantifier b) ∷ braces A ++ two_toks (Capital (connective b)) ts us) (path b A t u)
  path-derived b A ts us t u d d' =
      rw (regrouped (braces A) ts us (Capital (connective b))) (is-path {A = A} (is-operand (is-operand (is-operand (is-unit d)))) (is-operand (is-operand (is-operand (is-unit d')))))

  toks-derived : (φ : Form) → IsUnit (toks φ) (tree_of φ)
  toks-derived tru = is_one
  toks-derived fls = is_zero
  toks-derived (lit k) = is-letter
  toks-derived (nlit k) = is-neg is-letter
  toks-derived (and p q) = is-bracketed (is-operand (is-operand (is-infixed (is-unit (toks-derived p)) (is-operand (is-unit (toks-derived q))))))
  toks-derived (or p q) = is-bracketed (is-operand (is-infixed (is-operand (is-unit (toks-derived p))) (is-operand (is-operand (is-unit (toks-derived q))))))
  toks-derived (ex A p) = is-modal {A = modes_of A} (toks-derived p)
  toks-derived (ax A p) = is-modal {A = modes_of A} (toks-derived p)
  toks-derived (eu A p q) = path-derived Eu (modes_of A) (toks p) (toks q) (tree_of p) (tree_of q) (toks-derived p) (toks-derived q)
  toks-derived (au A p q) = path-derived Au (modes_of A) (toks p) (toks q) (tree_of p) (tree_of q) (toks-derived p) (toks-derived q)
  toks-derived (er A p q) = path-derived Er (modes_of A) (toks p) (toks q) (tree_of p) (tree_of q) (toks-derived p) (toks-derived q)
  toks-derived (ar A p q) = path-derived Ar (modes_of A) (toks p) (toks q) (tree_of p) (tree_of q) (toks-derived p) (toks-derived q)

-- ---- the bytes of a print
-- what follows a symbol: nothing, or a byte that is no lower-case letter
abbrev NoLetter : List ℕ → Type 0
NoLetter r = run r ≡ 0

-- a byte that is no space and no letter of either case
abbrev sign : ℕ → Bool
sign b = not (eqb b 32) && (not (upper b) && not (lower b))

-- a sign, in braces and outside
sign_read : (i : Bool) (b : ℕ) (k : Tok) (r : List ℕ) → T (sign b) → least k ≡ 1 → sign_of b ≡ k → tokens_in i (b ∷ r) ≡ k ∷ tokens_in (within i k) r
sign_read i b k r h x e = go (eqb b 32) (upper b) (lower b) refl refl refl h
  where
    go : (p u l : Bool) → eqb b 32 ≡ p → upper b ≡ u → lower b ≡ l → T (not p && (not u && not l)) → tokens_in i (b ∷ r) ≡ k ∷ tokens_in (within i k) r
    go false false false p u l h = sign-token i b r (eqb-false b 32 p) k (proper_of k x) u l e
    go false false true p u l h = absurd h
    go false true l p u q h = absurd h
    go true u l p q w h = absurd h

comma-token : (r : List ℕ) → tokens_in true (44 ∷ r) ≡ Comma ∷ tokens_in true r
unfolding sign_of
comma-token r = sign_read true 44 Comma r tt refl refl

closing-token : (r : List ℕ) → tokens_in true (125 ∷ r) ≡ CloseBrace ∷ tokens r
unfolding sign_of
closing-token r = sign_read true 125 CloseBrace r tt refl refl

opening-token : (r : List ℕ) → tokens (123 ∷ r) ≡ OpenBrace ∷ tokens_in true r
unfolding sign_of
opening-token r = sign_read false 123 OpenBrace r tt refl refl

lower-all : (w : List ℕ) → ((b : ℕ) → b ∈ w → (97 ≤ b) × (b ≤ 122)) → Lower w
lower-all [] h = tt
lower-all (b ∷ w) h = (h b (Memᴰ.head refl), lower-all w (λ c m. h c (Memᴰ.tail m)))

-- a spelling: a symbol outside braces, a forward mode in braces
spelling-token : (i : Bool) (w r : List ℕ) → Spelling w → NoLetter r → tokens_in i (w ++ r) ≡ Letter (word w) ∷ tokens_in i r
spelling-token i [] r s n = let h = s.some in absurd (omega arith)
spelling-token i (b ∷ w) r s n = symbol-token i b w r (lower-all (b ∷ w) s.letters) s.short n

-- with its first letter in capital: a backward mode
capital-mode : (w r : List ℕ) → Spelling w → NoLetter r → tokens_in true (capital w ++ r) ≡ Capital (word w) ∷ tokens_in true r
unfolding capital
capital-mode [] r s n = let h = s.some in absurd (omega arith)
capital-mode (b ∷ w) r s n =
    let l = lower-all (b ∷ w) s.letters in
    let lo = l.0.0 in
    let hi = l.0.1 in
    let sh = s.short in
    let e : b - 32 + 32 ≡ b = omega arith in
    back-token (b - 32) (omega arith) (omega arith) w r l.1 (omega arith) n ∙ ap (λ c. Capital (word (c ∷ w)) ∷ tokens_in true r) e

module _ (at : ℕ → List ℕ) (count : ℕ) (alpha : Alphabet at count) where
  -- a mode, before a comma or the closing brace
  mode-token : (m : ℕ) (r : List ℕ) → Declared count m → NoLetter r → tokens_in true (print_mode at m ++ r) ≡ mode_token (mode_of at m) ∷ tokens_in true r
  mode-token m r (inl h) n =
      let c = alpha.few in
      rw (forward-is at m (omega arith), lt-ltb m 8 (omega arith)) (spelling-token true (at m) r (alpha.spelled m h) n)
  mode-token m r (inr h) n =
      let k : m - 8 < count = omega arith in
      rw (backward-is at m h.0, le-ltb m 8 h.0) (capital-mode (at (m - 8)) r (alpha.spelled (m - 8) k) n)

  modes-tokens : (ms : List ℕ) (r : List ℕ) → ((m : ℕ) → m ∈ ms → Declared count m) → tokens_in true (print_modes at ms ++ 125 ∷ r) ≡ commas (map (λ m. mode_of at m) ms) ++ CloseBrace ∷ tokens r
  unfolding print_modes run
  modes-tokens [] r h = closing-token r
  modes-tokens (m ∷ []) r h = mode-token m (125 ∷ r) (h m (Memᴰ.head refl)) refl ∙ ap (λ x. mode_token (mode_of at m) ∷ x) (closing-token r)
  modes-tokens (m ∷ (k ∷ ms)) r h =
      ap (tokens_in true) (append_assoc (print_mode at m) (44 ∷ print_modes at (k ∷ ms)) (125 ∷ r))
      ∙ mode-token m (44 ∷ (print_modes at (k ∷ ms) ++ 125 ∷ r)) (h m (Memᴰ.head refl)) refl
      ∙ ap (λ x. mode_token (mode_of at m) ∷ x) (comma-token (print_modes at (k ∷ ms) ++ 125 ∷ r) ∙ ap (λ x. Comma ∷ x) (modes-tokens (k ∷ ms) r (λ j i. h j (Memᴰ.tail i))))

  print-braces : (A : ℕ) (r : List ℕ) → printBraces at A ++ r ≡ 123 ∷ (print_modes at (modes A) ++ 125 ∷ r)
  unfolding printBraces
  print-braces A r = ap (λ x. 123 ∷ x) (append_assoc (print_modes at (modes A)) (125 ∷ []) r)

  braces-tokens : (A : ℕ) (r : List ℕ) → DeclaredAll count A → tokens (printBraces at A ++ r) ≡ braces (modes_of at A) ++ tokens r
  unfolding modes_of
  braces-tokens A r h =
      ap tokens (print-braces A r)
      ∙ opening-token (print_modes at (modes A) ++ 125 ∷ r)
      ∙ ap (λ x. OpenBrace ∷ x) (modes-tokens (modes A) r h.1 ∙ sym (append_assoc (commas (map (λ m. mode_of at m) (modes A))) (CloseBrace ∷ []) (tokens r)))

-- bytes that read as tokens, whatever follows them; and, of a formula, where no letter follows
Reading : List ℕ → List Tok → Type 0
Reading s ts = (r : List ℕ) → tokens (s ++ r) ≡ ts ++ tokens r

Ending : List ℕ → List Tok → Type 0
Ending s ts = (r : List ℕ) → NoLetter r → tokens (s ++ r) ≡ ts ++ tokens r

-- a byte outside braces that no letter goes on, and no brace
one-reading : (b : ℕ) (k : Tok) → T (sign b) → within false k ≡ false → least k ≡ 1 → sign_of b ≡ k → Reading (b ∷ []) (k ∷ [])
unfolding Reading
one-reading b k h w x e r = sign_read false b k r h x e ∙ ap (λ i. k ∷ tokens_in i r) w

-- a capital that begins no operator of two letters
capital-reading : (b : ℕ) → 65 ≤ b → b ≤ 90 → ((c : ℕ) → pair_of b c ≡ None) → Reading (b ∷ []) (Capital (b + 32) ∷ [])
unfolding Reading
capital-reading b lo hi none r = capital-token b lo hi r (go r)
  where
    go : (r : List ℕ) → pair_on b r ≡ None
    go [] = refl
    go (c ∷ r) = none c

join-ending : (s u : List ℕ) (ts us : List Tok) → Reading s ts → Ending u us → Ending (s ++ u) (ts ++ us)
unfolding Reading Ending
join-ending s u ts us h g r n = ap tokens (append_assoc s u r) ∙ h (u ++ r) ∙ ap (λ x. ts ++ x) (g r n) ∙ sym (append_assoc ts us (tokens r))

-- a formula before a sign: then anything may follow
then-sign : (s : List ℕ) (b : ℕ) (ts : List Tok) (k : Tok) → Ending s ts → lower b ≡ false → Reading (b ∷ []) (k ∷ []) → Reading (s ++ (b ∷ [])) (ts ++ (k ∷ []))
unfolding Reading Ending run
then-sign s b ts k h n g r = ap tokens (append_assoc s (b ∷ []) r) ∙ h (b ∷ r) (rw n refl) ∙ ap (λ x. ts ++ x) (g r) ∙ sym (append_assoc ts (k ∷ []) (tokens r))

end-reading : (s : List ℕ) (ts : List Tok) → Reading s ts → Ending s ts
unfolding Reading Ending
end-reading s ts h r n = h r

two-reading : (s u : List ℕ) (b : ℕ) (ts us : List Tok) (k : Tok) → lower b ≡ false → Reading (b ∷ []) (k ∷ []) → Ending s ts → Ending u us → Ending (40 ∷ (s ++ (b ∷ (u ++ (41 ∷ []))))) (two_toks k ts us)
unfolding sign_of Reading
two-reading s u b ts us k n m h g =
    rw (append_assoc ts (k ∷ us) (Close ∷ []), ← append_snoc s b (u ++ (41 ∷ [])), ← append_snoc ts k (us ++ (Close ∷ [])))
    (join-ending (40 ∷ []) (s ++ (b ∷ []) ++ (u ++ (41 ∷ []))) (Open ∷ []) (ts ++ (k ∷ []) ++ (us ++ (Close ∷ []))) (one-reading 40 Open tt refl refl refl)
    (join-ending (s ++ (b ∷ [])) (u ++ (41 ∷ [])) (ts ++ (k ∷ [])) (us ++ (Close ∷ [])) (then-sign s b ts k h n m)
    (end-reading (u ++ (41 ∷ [])) (us ++ (Close ∷ [])) (then-sign u 41 us Close g refl (one-reading 41 Close tt refl refl refl)))))

module _ (at : ℕ → List ℕ) (count : ℕ) (alpha : Alphabet at count) where
  symbol-ending : (k : ℕ) → k < count → Ending (at k) (Letter (word (at k)) ∷ [])
  unfolding Ending
  symbol-ending k h r n = spelling-token false (at k) r (alpha.spelled k h) n

  braces-reading : (A : ℕ) → DeclaredAll count A → Reading (printBraces at A) (braces (modes_of at A))
  unfolding Reading
  braces-reading A h r = braces-tokens at count alpha A r h

  modal-ending : (c : ℕ) (m : Modal) (A : ℕ) (s : List ℕ) (ts : List Tok) → 65 ≤ c → c ≤ 90 → pair_of c 88 ≡ Some m → DeclaredAll count A → Ending s ts → Ending (c ∷ 88 ∷ (printBraces at A ++ s)) (Operator m ∷ (braces (modes_of at A) ++ ts))
  unfolding Ending
  modal-ending c m A s ts lo hi e h g r n = operator-token c lo hi 88 m (printBraces at A ++ s ++ r) e ∙ ap (λ x. Operator m ∷ x) (join-ending (printBraces at A) s (braces (modes_of at A)) ts (braces-reading A h) g r n)

  path-ending : (c : ℕ) (A : ℕ) (s : List ℕ) (ts : List Tok) → 65 ≤ c → c ≤ 90 → pair_of c 123 ≡ None → DeclaredAll count A → Ending s ts → Ending (c ∷ (printBraces at A ++ s)) (Capital (c + 32) ∷ (braces (modes_of at A) ++ ts))
  unfolding Ending printBraces
  path-ending c A s ts lo hi e h g r n = capital-token c lo hi (printBraces at A ++ s ++ r) e ∙ ap (λ x. Capital (c + 32) ∷ x) (join-ending (printBraces at A) s (braces (modes_of at A)) ts (braces-reading A h) g r n)

  u-reading : Reading (85 ∷ []) (Capital 117 ∷ [])
  unfolding pair_of
  u-reading = capital-reading 85 (omega arith) (omega arith) (λ c. refl)

  r-reading : Reading (82 ∷ []) (Capital 114 ∷ [])
  unfolding pair_of
  r-reading = capital-reading 82 (omega arith) (omega arith) (λ c. refl)

  plain-reading : (b : ℕ) (k : Tok) → T (sign b) → within false k ≡ false → least k ≡ 1 → sign_of b ≡ k → Ending (b ∷ []) (k ∷ [])
  plain-reading b k h w x e = end-reading (b ∷ []) (k ∷ []) (one-reading b k h w x e)

  print-ending : (φ : Form) → Over count φ → Ending (print at φ) (toks at φ)
  unfolding print sign_of pair_of
  print-ending tru h = plain-reading 49 One tt refl refl refl
  print-ending fls h = plain-reading 48 Zero tt refl refl refl
  print-ending (lit k) h = symbol-ending k h
  print-ending (nlit k) h = join-ending (33 ∷ []) (at k) (Not ∷ []) (Letter (word (at k)) ∷ []) (one-reading 33 Not tt refl refl refl) (symbol-ending k h)
  print-ending (and p q) h = two-reading (print at p) (print at q) 38 (toks at p) (toks at q) (Infix 2) refl (one-reading 38 (Infix 2) tt refl refl refl) (print-ending p h.0) (print-ending q h.1)
  print-ending (or p q) h = two-reading (print at p) (print at q) 124 (toks at p) (toks at q) (Infix 1) refl (one-reading 124 (Infix 1) tt refl refl refl) (print-ending p h.0) (print-ending q h.1)
  print-ending (ex A p) h = modal-ending 69 Ex A (print at p) (toks at p) (omega arith) (omega arith) refl h.0 (print-ending p h.1)
  print-ending (ax A p) h = modal-ending 65 Ax A (print at p) (toks at p) (omega arith) (omega arith) refl h.0 (print-ending p h.1)
  print-ending (eu A p q) h = path-ending 69 A _ _ (omega arith) (omega arith) refl h.0 (two-reading (print at p) (print at q) 85 (toks at p) (toks at q) (Capital 117) refl u-reading (print-ending p h.1) (print-ending q h.2))
  print-ending (au A p q) h = path-ending 65 A _ _ (omega arith) (omega arith) refl h.0 (two-reading (print at p) (print at q) 85 (toks at p) (toks at q) (Capital 117) refl u-reading (print-ending p h.1) (print-ending q h.2))
  print-ending (er A p q) h = path-ending 69 A _ _ (omega arith) (omega arith) refl h.0 (two-reading (print at p) (print at q) 82 (toks at p) (toks at q) (Capital 114) refl r-reading (print-ending p h.1) (print-ending q h.2))
  print-ending (ar A p q) h = path-ending 65 A _ _ (omega arith) (omega arith) refl h.0 (two-reading (print at p) (print at q) 82 (toks at p) (toks at q) (Capital 114) refl r-reading (print-ending p h.1) (print-ending q h.2))

  -- the grammar derives a formula's tree from its print
  pub print-derived : (φ : Form) → Over count φ → Line (print at φ) (tree_of at φ)
  unfolding Ending run
  print-derived φ h =
      let e : tokens (print at φ) ≡ toks at φ = ap tokens (sym (append-nil (print at φ))) ∙ print-ending φ h [] refl ∙ (rw (tokens_none, append-nil) refl) in
      rw e (is-operand (is-operand (is-operand (is-unit (toks-derived at φ)))))

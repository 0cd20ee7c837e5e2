-- A line from which the grammar of document 01 derived a tree has that same tree now. Assumes nothing.
use mathlib.Core.Path.{◌≡◌, refl, sym, ap, ap₂, ◌∙◌}
use mathlib.Core.Bool.{Bool, true, false, cond, and-false, false≢true}
use mathlib.Core.List.{List, [], ◌∷◌, ◌++◌, append_assoc, append-nil}
use Prim.Native.Nat.{ℕ, suc, ◌+◌, ◌≤◌, ◌<◌}
use native.Mathlib.Omega.{arith}
use lib.ListN.{drop}
use lib.Dec.{eqb, leb}
use borrow.Author.Tests.{ne_eqb, eqb-true, eqb-false, lt-leb}
use Rattle.spelling.specs.Spelling.{lower, run, word}
use Rattle.spelling.proofs.SpellingLaws.{lower-is}
use Rattle.token.specs.declared.Modal.{Modal}
use Rattle.std.specs.Prelude.{Option, Some, None}
use Rattle.token.specs.declared.Tok.{Tok}
use Rattle.token.specs.declared.Tok.TheVariants.{End, Letter, Capital, Operator, Infix, Open, Close, CloseBrace, Comma}
use Rattle.token.specs.declared.Token.{Token}
use Rattle.token.specs.Token.{pick, spaces, skip, sign_of, upper, pair_of, pair_on, alone_front, head_front, front_by, token_by, token_at, inner_at}
use Rattle.token.specs.Tokens.{within, read_at, tokens_by, tokens_in, tokens}
use Rattle.token.proofs.Tokens.{least-sign, upper_is}
use Rattle.token.proofs.TokensLaws.{first, Proper, proper_of, Ahead, ahead, tokens-end, sign-token, symbol-token, capital-token, operator-token, back-token}
use Rattle.grammar.specs.Grammar.{Mode, forward, backward, Tree, mode_token, commas, braces, quantifier, connective, is_zero, is_one, is-letter, is-bracketed, is-neg, is-modal, is-path, IsFormula, is-unit, is-operand, is-infixed, Line}
use Rattle.grammar.specs.Former.{former_single, begins, former_tokens, FormerLine}

-- ---- tokens that are the same in both readings
-- a token that is no letter
abbrev pub NoLetter : Tok → Type 0
NoLetter x = (j : ℕ) → x ≡ Letter j → ⊥

-- what may stand behind a token: no letter behind a letter, nor behind a capital in braces, where there is no operator of two letters
abbrev pub Fits : Bool → Tok → Tok → Type 0
Fits i (Letter k) x = NoLetter x
Fits i (Capital k) x = i ≡ true → NoLetter x
Fits i (Operator m) x = i ≡ false
Fits i _ x = Unit {0}

-- tokens, in braces or outside, of which each has behind it what may stand there
abbrev pub Tidy : Bool → List Tok → Type 0
Tidy i [] = Unit {0}
Tidy i (k ∷ r) = Fits i k (first r) × Tidy (within i k) r

-- ---- what the grammar derives is tidy
differ : ◌≡◌ {A = ℕ} 0 1 → ⊥
differ e = omega arith

mode-tidy : (m : Mode) (r : List Tok) → NoLetter (first r) → Tidy true r → Tidy true (mode_token m ∷ r)
mode-tidy (forward k) r n h = (n, h)
mode-tidy (backward k) r n h = (λ _. n, h)

commas-tidy : (A : List Mode) (r : List Tok) → Tidy false r → Tidy true (commas A ++ CloseBrace ∷ r)
commas-tidy [] r h = (tt, h)
commas-tidy (m ∷ []) r h = mode-tidy m (CloseBrace ∷ r) (λ j e. differ (cc)) (tt, h)
commas-tidy (m ∷ (n ∷ A)) r h = mode-tidy m (Comma ∷ (commas (n ∷ A) ++ CloseBrace ∷ r)) (λ j e. differ (cc)) (tt, commas-tidy (n ∷ A) r h)

braces-tidy : (A : List Mode) (ts r : List Tok) → ts ≡ commas A ++ CloseBrace ∷ r → Tidy false r → Tidy true ts
braces-tidy A ts r e h = rw e (commas-tidy A r h)

-- tokens outside braces: what follows them may be any that begin with no letter
abbrev Before : List Tok → Type 0
Before ts = (r : List Tok) → NoLetter (first r) → Tidy false r → Tidy false (ts ++ r)

bracketed-tidy : (ts : List Tok) → Before ts → Before (Open ∷ ts ++ Close ∷ [])
bracketed-tidy ts d r n h = (tt, rw (append_assoc ts (Close ∷ []) r) (d (Close ∷ r) (λ j e. differ (cc)) (tt, h)))

modal-tidy : (m : Modal) (A : List Mode) (ts : List Tok) → Before ts → Before (Operator m ∷ braces A ++ ts)
modal-tidy m A ts d r n h = (refl, (tt, braces-tidy A (commas A ++ CloseBrace ∷ [] ++ ts ++ r) (ts ++ r) (simp append_assoc) (d r n h)))

path-tidy : (p q : ℕ) (A : List Mode) (ts us : List Tok) → Before ts → Before us → Before (Capital p ∷ braces A ++ Open ∷ ts ++ Capital q ∷ us ++ Close ∷ [])
path-tidy p q A ts us d d' r n h =
    let end : Tidy false (us ++ Close ∷ r) = d' (Close ∷ r) (λ j e. differ (cc)) (tt, h) in
    let mid : Tidy false (ts ++ Capital q ∷ (us ++ Close ∷ r)) = d (Capital q ∷ (us ++ Close ∷ r)) (λ j e. differ (cc)) (λ e. absurd (false≢true e), end) in
    (λ e. absurd (false≢true e), (tt, braces-tidy A (commas A ++ CloseBrace ∷ [] ++ Open ∷ ts ++ Capital q ∷ us ++ Close ∷ [] ++ r) (Open ∷ (ts ++ Capital q ∷ (us ++ Close ∷ r))) (simp append_assoc) (tt, mid)))

infixed-tidy : (l : ℕ) (ts us : List Tok) → Before ts → Before us → Before (ts ++ Infix l ∷ us)
infixed-tidy l ts us d d' r n h = rw (append_assoc ts (Infix l ∷ us) r) (d (Infix l ∷ (us ++ r)) (λ j e. differ (cc)) (tt, d' r n h))

before : {l : ℕ} {us : List Tok} {t : Tree} → IsFormula l us t → Before us
before d = elim d as (λ us t _. Before us) (λ l us t _. Before us) [
  | is_zero ↦ λ r n h. (tt, h)
  | is_one ↦ λ r n h. (tt, h)
  | is-letter {k} ↦ λ r n h. (n, h)
  | is-bracketed {ts} {t} (d → h) ↦ bracketed-tidy ts h
  | is-neg {ts} {t} (d → h) ↦ λ r n g. (tt, h r n g)
  | is-modal {m} {A} {ts} {t} (d → h) ↦ modal-tidy m A ts h
  | is-path {b} {A} {ts} {us} {t} {u} (d → h) (d' → h') ↦ path-tidy (quantifier b) (connective b) A ts us h h'
  | is-unit {ts} {t} (d → h) ↦ h
  | is-operand {l} {ts} {t} (d → h) ↦ h
  | is-infixed {l} {ts} {us} {t} {u} (d → h) (d' → h') ↦ infixed-tidy l ts us h h'
]

pub formula-tidy : {l : ℕ} {ts : List Tok} {t : Tree} → IsFormula l ts t → Tidy false ts
formula-tidy d = rw append-nil at (before d [] (λ j e. differ (cc)) tt)

-- ---- a space before bytes
-- tokens of which the first and those behind it are the same
ahead-same : (ts us : List Tok) (k : Tok) (r : List Tok) → Ahead ts k r → Ahead us k r → (k ≡ End → ts ≡ us) → ts ≡ us
ahead-same [] [] k r a b f = refl
ahead-same [] (u ∷ us) k r a b f = f (sym a.now)
ahead-same (t ∷ ts) [] k r a b f = f (sym b.now)
ahead-same (t ∷ ts) (u ∷ us) k r a b f = ap₂ ◌∷◌ (a.now ∙ sym b.now) (a.rest ∙ sym b.rest)

-- a token, a byte later
abbrev shifted : Token → Token
shifted t = record { tok = t.tok; next = suc t.next }

module _ (r : List ℕ) where
  space-by : (capital : ℕ → List ℕ → Token) → token_by capital (32 ∷ r) 0 ≡ shifted (token_by capital r 0)
  unfolding token_by skip spaces
  space-by capital =
      let n = spaces r in
      let z : 0 + suc n ≡ suc n = omega arith in
      let y : 0 + n ≡ n = omega arith in
      rw (z, y) (ap (λ x. record { tok = (front_by capital (drop n r)).tok; next = x }) (let e : suc n + (front_by capital (drop n r)).next ≡ suc (n + (front_by capital (drop n r)).next) = omega arith in e))

  space-read : (i : Bool) → read_at i (32 ∷ r) 0 ≡ shifted (read_at i r 0)
  unfolding token_at inner_at
  space-read true = space-by head_front
  space-read false = space-by alone_front

  space-tokens : (i : Bool) → tokens_in i (32 ∷ r) ≡ tokens_in i r
  space-tokens i =
      let e = space-read i in
      ahead-same (tokens_in i (32 ∷ r)) (tokens_in i r) (read_at i r 0).tok (tokens_in (within i (read_at i r 0).tok) (drop (read_at i r 0).next r))
      (rw e at (ahead i (32 ∷ r) 0)) (ahead i r 0) (λ q. tokens-end i (32 ∷ r) (ap (λ t. t.tok) e ∙ q) ∙ sym (tokens-end i r q))

-- ---- bytes whose former tokens are tidy have these tokens now
sign-proper : (b : ℕ) → Proper (sign_of b)
sign-proper b = proper_of (sign_of b) (least-sign b)

word-one : (b : ℕ) → word (b ∷ []) ≡ b
unfolding word
word-one b = omega arith

-- an operator of two letters begins with a capital
pair-capital : (b c : ℕ) (m : Modal) → pair_of b c ≡ Some m → (65 ≤ b) × (b ≤ 90)
unfolding pair_of
pair-capital b c m e = go (eqb b 69) (eqb b 65) refl refl
  where
    go : (x y : Bool) → eqb b 69 ≡ x → eqb b 65 ≡ y → (65 ≤ b) × (b ≤ 90)
    go true y p q = let z = eqb-true b 69 p in (omega arith, omega arith)
    go false true p q = let z = eqb-true b 65 q in (omega arith, omega arith)
    go false false p q = let f : None ≡ Some m = rw (p, q) at e in absurd (differ (cc))

-- the former tokens by the first byte
former-step : (b : ℕ) (r : List ℕ) → former_tokens (b ∷ r) ≡ begins b (pair_on b r) (former_tokens r) (former_tokens (drop 1 r))
unfolding former_tokens
former-step b [] = refl
former-step b (c ∷ r) = refl

-- a lower-case letter begins no operator, and is a token by itself
module _ (b : ℕ) (l : lower b ≡ true) where
  lower-other : (c : ℕ) → c < 97 → eqb b c ≡ false
  lower-other c h = ne_eqb b c (λ e. omega (arith, (lower-is b l).0))

  lower-no-pair : (r : List ℕ) → pair_on b r ≡ None
  unfolding pair_of
  lower-no-pair [] = refl
  lower-no-pair (c ∷ r) = rw (lower-other 69 (omega arith), lower-other 65 (omega arith)) refl

  lower-single : former_single b ≡ Letter b
  unfolding former_single
  lower-single = rw (lt-leb b 90 (omega (arith, (lower-is b l).0)), and-false (leb 65 b), l) refl

  lower-first : (r : List ℕ) → first (former_tokens (b ∷ r)) ≡ Letter b
  lower-first r = rw (former-step b r, lower-no-pair r, lower-other 32 (omega arith)) lower-single

-- so bytes whose former tokens begin with no letter begin with none
former-run : (r : List ℕ) → NoLetter (first (former_tokens r)) → run r ≡ 0
unfolding run
former-run [] n = refl
former-run (b ∷ r) n = go (lower b) refl
  where
    go : (t : Bool) → lower b ≡ t → cond t (suc (run r)) 0 ≡ 0
    go true l = absurd (n b (lower-first b l r))
    go false l = refl

-- the former token of a byte, by its case
abbrev single_by : ℕ → Bool → Bool → Tok
single_by b u l = pick u (Capital (b + 32)) (pick l (Letter b) (sign_of b))

-- a byte that begins no operator of two letters, where the bytes behind it have their former tokens
module _ (b : ℕ) (r : List ℕ) (none : pair_on b r ≡ None) (rest : (j : Bool) → Tidy j (former_tokens r) → tokens_in j r ≡ former_tokens r) where
  capital-former : (i : Bool) → upper b ≡ true → Tidy i (Capital (b + 32) ∷ former_tokens r) → tokens_in i (b ∷ r) ≡ Capital (b + 32) ∷ former_tokens r
  capital-former true u h =
      back-token b (upper_is b u).0 (upper_is b u).1 [] r tt (omega arith) (former-run r (h.0 refl)) ∙ ap₂ (λ k x. Capital k ∷ x) (word-one (b + 32)) (rest true h.1)
  capital-former false u h = capital-token b (upper_is b u).0 (upper_is b u).1 r none ∙ ap (λ x. Capital (b + 32) ∷ x) (rest false h.1)

  single-former : (i : Bool) → (b ≡ 32 → ⊥) → Tidy i (former_single b ∷ former_tokens r) → tokens_in i (b ∷ r) ≡ former_single b ∷ former_tokens r
  unfolding former_single
  single-former i n h = go (upper b) (lower b) refl refl h
    where
      go : (u l : Bool) → upper b ≡ u → lower b ≡ l → Tidy i (single_by b u l ∷ former_tokens r) → tokens_in i (b ∷ r) ≡ single_by b u l ∷ former_tokens r
      go true l u e h = capital-former i u h
      go false true u e h = symbol-token i b [] r (lower-is b e, tt) (omega arith) (former-run r h.0) ∙ ap₂ (λ k x. Letter k ∷ x) (word-one b) (rest i h.1)
      go false false u e h = sign-token i b r n (sign_of b) (sign-proper b) u e refl ∙ ap (λ x. sign_of b ∷ x) (rest (within i (sign_of b)) h.1)

  byte-former : (i : Bool) → Tidy i (begins b None (former_tokens r) []) → tokens_in i (b ∷ r) ≡ begins b None (former_tokens r) []
  byte-former i h = go (eqb b 32) refl h
    where
      go : (t : Bool) → eqb b 32 ≡ t → Tidy i (pick t (former_tokens r) (former_single b ∷ former_tokens r)) → tokens_in i (b ∷ r) ≡ pick t (former_tokens r) (former_single b ∷ former_tokens r)
      go true e h = ap (λ x. tokens_in i (x ∷ r)) (eqb-true b 32 e) ∙ space-tokens r i ∙ rest i h
      go false e h = single-former i (eqb-false b 32 e) h

-- an operator of two letters: there is none in braces
operator-former : (i : Bool) (b c : ℕ) (m : Modal) (r : List ℕ) (ts : List Tok) → pair_of b c ≡ Some m → tokens r ≡ ts → i ≡ false → tokens_in i (b ∷ (c ∷ r)) ≡ Operator m ∷ ts
operator-former i b c m r ts e f h = let k = pair-capital b c m e in rw h (operator-token b k.0 k.1 c m r e ∙ ap (λ x. Operator m ∷ x) f)

-- following the bytes, in braces or outside: where no letters run together the tokens are the former ones
pub tidy-tokens : (i : Bool) (s : List ℕ) → Tidy i (former_tokens s) → tokens_in i s ≡ former_tokens s
unfolding tokens_in tokens_by former_tokens
tidy-tokens i [] h = refl
tidy-tokens i (b ∷ []) h = byte-former b [] refl (λ j g. tidy-tokens j [] g) i h
tidy-tokens i (b ∷ (c ∷ r)) h = go (pair_of b c) refl (λ j g. tidy-tokens j (c ∷ r) g) (λ g. tidy-tokens false r g) h
  where
    go : (p : Option Modal) → pair_of b c ≡ p → ((j : Bool) → Tidy j (former_tokens (c ∷ r)) → tokens_in j (c ∷ r) ≡ former_tokens (c ∷ r)) → (Tidy false (former_tokens r) → tokens r ≡ former_tokens r)
        → Tidy i (begins b p (former_tokens (c ∷ r)) (former_tokens r)) → tokens_in i (b ∷ (c ∷ r)) ≡ begins b p (former_tokens (c ∷ r)) (former_tokens r)
    go (Some m) e near far h = operator-former i b c m r (former_tokens r) e (far (rw h.0 at h.1)) h.0
    go None e near far h = byte-former b (c ∷ r) e near i h

pub line-former : (s : List ℕ) (t : Tree) → FormerLine s t → Line s t
line-former s t d = rw (tidy-tokens false s (formula-tidy d)) d

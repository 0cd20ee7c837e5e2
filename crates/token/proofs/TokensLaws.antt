-- Laws of `tokens`: the token at a position is the first of the tokens from there on. Assumes nothing.
use mathlib.Core.Path.{◌≡◌, refl, sym, ap, ◌∙◌}
use mathlib.Core.Bool.{Bool, true, false, and-false}
use mathlib.Core.Logic.{◌⊎◌, inl, inr}
use mathlib.Core.List.{List, [], ◌∷◌, ◌++◌}
use Prim.Native.Nat.{ℕ, suc, ◌+◌, ◌-◌, ◌≤◌, ◌<◌}
use native.Mathlib.Omega.{arith}
use lib.ListN.{length, take, drop, length-drop, drop_of_length-le}
use lib.Seq.{drop-drop, take_at, drop_at}
use lib.Dec.{leb, ltb}
use borrow.Author.Tests.{ne_eqb, lt-ltb, le-leb, lt-leb}
use Rattle.spelling.specs.Spelling.{lower, run, word}
use Rattle.spelling.proofs.SpellingLaws.{Lower, is-lower-case, run-whole}
use Rattle.token.specs.declared.Modal.{Modal}
use Rattle.token.specs.declared.Tok.{Tok}
use Rattle.token.specs.declared.Tok.TheVariants.{End, Letter, Capital, Operator, CloseBrace, Other}
use Rattle.std.specs.Prelude.{Option, Some, None}
use Rattle.token.specs.declared.Token.{Token}
use Rattle.token.specs.Token.{pick, spaces, skip, sign_of, upper, pair_of, pair_on, placed, run_front, plain_front, alone_by, alone_front, head_front, front_by, token_by, token_at, inner_at, on_close_brace, on_end, least, Taken}
use Rattle.token.specs.Tokens.{within, read_at, tokens_by, tokens_in, tokens}
use Rattle.token.proofs.Tokens.{front-capital, front-plain, token-is, inner-is, token_end, inner-end}

-- the first of some tokens, where there is one, and those after it
abbrev pub first : List Tok → Tok
first [] = End
first (k ∷ r) = k

abbrev pub later : List Tok → List Tok
later [] = []
later (k ∷ r) = r

-- ---- the end, or a token
-- a token that is no end has a byte, and more may follow it
pub record Proper (k : Tok) : Type 0 where
  pub least-one : least k ≡ 1
  pub goes_on : (a b : List Tok) → on_end k a b ≡ b

end-or-proper : (k : Tok) → (k ≡ End) ⊎ Proper k
end-or-proper End = inl refl
end-or-proper _ = inr (record { least-one = refl; goes_on = λ a b. refl })

pub proper_of : (k : Tok) → least k ≡ 1 → Proper k
proper_of k l = go (end-or-proper k)
  where
    go : (k ≡ End) ⊎ Proper k → Proper k
    go (inl e) = let z : least End ≡ 1 = sym (ap least e) ∙ l in absurd (omega arith)
    go (inr x) = x

-- ---- one token after the other
module _ (i : Bool) (s : List ℕ) where
  abbrev t : Token
  t = read_at i s 0

  whole : (i : Bool) → Taken (read_at i s 0) s 0 (read_at i s 0)
  whole true = inner-is s 0 (inner_at s 0) (omega arith) refl
  whole false = token-is s 0 (token_at s 0) (omega arith) refl

  -- a token takes a byte at least, and no more than there are
  shorter : Proper t.tok → length (drop t.next s) < length s
  shorter h = let w = whole i in let l = h.least-one in omega (arith, w.past, w.inside, length-drop t.next s)

  by_end : (n : ℕ) → t.tok ≡ End → tokens_by n i s ≡ []
  unfolding tokens_by
  by_end ℕ.zero e = refl
  by_end (suc n) e = rw e refl

  by-proper : (n : ℕ) → Proper t.tok → tokens_by (suc n) i s ≡ t.tok ∷ tokens_by n (within i t.tok) (drop t.next s)
  unfolding tokens_by
  by-proper n h = h.goes_on _ _

-- it does not matter how many there may be at most, if as many as there are bytes
enough : (m n : ℕ) (i : Bool) (s : List ℕ) → length s ≤ m → length s ≤ n → tokens_by m i s ≡ tokens_by n i s
enough ℕ.zero n i s h k = go (end-or-proper (read_at i s 0).tok)
  where
    go : ((read_at i s 0).tok ≡ End) ⊎ Proper (read_at i s 0).tok → tokens_by 0 i s ≡ tokens_by n i s
    go (inl e) = by_end i s 0 e ∙ sym (by_end i s n e)
    go (inr x) = let l = shorter i s x in absurd (omega arith)
enough (suc m) ℕ.zero i s h k = go (end-or-proper (read_at i s 0).tok)
  where
    go : ((read_at i s 0).tok ≡ End) ⊎ Proper (read_at i s 0).tok → tokens_by (suc m) i s ≡ tokens_by 0 i s
    go (inl e) = by_end i s (suc m) e ∙ sym (by_end i s 0 e)
    go (inr x) = let l = shorter i s x in absurd (omega arith)
enough (suc m) (suc n) i s h k = go (end-or-proper (read_at i s 0).tok) (enough m n (within i (read_at i s 0).tok) (drop (read_at i s 0).next s))
  where
    go : ((read_at i s 0).tok ≡ End) ⊎ Proper (read_at i s 0).tok → (length (drop (read_at i s 0).next s) ≤ m → length (drop (read_at i s 0).next s) ≤ n → tokens_by m (within i (read_at i s 0).tok) (drop (read_at i s 0).next s) ≡ tokens_by n (within i (read_at i s 0).tok) (drop (read_at i s 0).next s)) → tokens_by (suc m) i s ≡ tokens_by (suc n) i s
    go (inl e) rec = by_end i s (suc m) e ∙ sym (by_end i s (suc n) e)
    go (inr x) rec = let l = shorter i s x in by-proper i s m x ∙ ap (λ r. (read_at i s 0).tok ∷ r) (rec (omega arith) (omega arith)) ∙ sym (by-proper i s n x)

-- the tokens of bytes: none at the end, else one and those behind it
module _ (i : Bool) (s : List ℕ) where
  pub tokens-end : (read_at i s 0).tok ≡ End → tokens_in i s ≡ []
  unfolding tokens_in
  tokens-end e = by_end i s (length s) e

  pub tokens-proper : Proper (read_at i s 0).tok → tokens_in i s ≡ (read_at i s 0).tok ∷ tokens_in (within i (read_at i s 0).tok) (drop (read_at i s 0).next s)
  unfolding tokens_in
  tokens-proper h =
      let l = shorter i s h in
      let e : length s ≡ suc (length s - 1) = omega arith in
      ap (λ n. tokens_by n i s) e ∙ by-proper i s (length s - 1) h
      ∙ ap (λ r. (read_at i s 0).tok ∷ r) (enough (length s - 1) (length (drop (read_at i s 0).next s)) (within i (read_at i s 0).tok) (drop (read_at i s 0).next s) (omega arith) (omega arith))

tokens-empty : (i : Bool) → tokens_in i [] ≡ []
unfolding tokens_in tokens_by
tokens-empty i = refl

pub tokens_none : tokens [] ≡ []
tokens_none = tokens-empty false

read_out : (i : Bool) (s : List ℕ) (at : ℕ) → (read_at i s at).tok ≡ End → length s ≤ (read_at i s at).next
read_out true s at e = inner-end s at e
read_out false s at e = token_end s at e

-- ---- the tokens from a position on
-- a token at a position is the one that the bytes from there on begin with
module _ (capital : ℕ → List ℕ → Token) (s : List ℕ) (at : ℕ) where
  by-drop : token_by capital s at ≡ placed at (token_by capital (drop at s) 0)
  unfolding token_by skip
  by-drop =
      let n = spaces (drop at s) in
      let z : 0 + n ≡ n = omega arith in
      rw (z, drop-drop n at s) (ap (λ x. record { tok = (front_by capital (drop (at + n) s)).tok; next = x }) (let e : at + n + (front_by capital (drop (at + n) s)).next ≡ at + (n + (front_by capital (drop (at + n) s)).next) = omega arith in e))

read-drop : (i : Bool) (s : List ℕ) (at : ℕ) → read_at i s at ≡ placed at (read_at i (drop at s) 0)
unfolding token_at inner_at
read-drop true s at = by-drop head_front s at
read-drop false s at = by-drop alone_front s at

-- the tokens from a position on: the token there and those after it
pub record Ahead (ts : List Tok) (k : Tok) (r : List Tok) : Type 0 where
  pub now : first ts ≡ k
  pub rest : later ts ≡ r

pub ahead : (i : Bool) (s : List ℕ) (at : ℕ) → Ahead (tokens_in i (drop at s)) (read_at i s at).tok (tokens_in (within i (read_at i s at).tok) (drop (read_at i s at).next s))
ahead i s at = go (end-or-proper (read_at i (drop at s) 0).tok)
  where
    same : read_at i s at ≡ placed at (read_at i (drop at s) 0)
    same = read-drop i s at

    go : ((read_at i (drop at s) 0).tok ≡ End) ⊎ Proper (read_at i (drop at s) 0).tok → Ahead (tokens_in i (drop at s)) (read_at i s at).tok (tokens_in (within i (read_at i s at).tok) (drop (read_at i s at).next s))
    go (inl e) =
        let f : (read_at i s at).tok ≡ End = ap (λ t. t.tok) same ∙ e in
        rw (tokens-end i (drop at s) e, f, drop_of_length-le s {i = (read_at i s at).next} (read_out i s at f), tokens-empty i) (record { now = refl; rest = refl })
    go (inr x) = rw (same, tokens-proper i (drop at s) x, drop-drop (read_at i (drop at s) 0).next at s) (record { now = refl; rest = refl })

-- a token has a byte
by_length : (n : ℕ) (i : Bool) (s : List ℕ) → length (tokens_by n i s) ≤ n
unfolding tokens_by
by_length ℕ.zero i s = omega arith
by_length (suc n) i s = go (end-or-proper (read_at i s 0).tok) (by_length n (within i (read_at i s 0).tok) (drop (read_at i s 0).next s))
  where
    go : ((read_at i s 0).tok ≡ End) ⊎ Proper (read_at i s 0).tok → length (tokens_by n (within i (read_at i s 0).tok) (drop (read_at i s 0).next s)) ≤ n → length (tokens_by (suc n) i s) ≤ suc n
    go (inl e) h = rw (by_end i s (suc n) e) (omega arith)
    go (inr x) h = rw (by-proper i s n x) (omega arith)

pub tokens-length : (s : List ℕ) → length (tokens s) ≤ length s
unfolding tokens_in
tokens-length s = by_length (length s) false s

-- the line's end is no token of the line
abbrev pub NoEnd : List Tok → Type 0
NoEnd [] = Unit {0}
NoEnd (k ∷ r) = (k ≡ End → ⊥) × NoEnd r

no_end : {k : Tok} → Proper k → k ≡ End → ⊥
no_end h e = let z : least End ≡ 1 = sym (ap least e) ∙ h.least-one in omega arith

by-no-end : (n : ℕ) (i : Bool) (s : List ℕ) → NoEnd (tokens_by n i s)
unfolding tokens_by
by-no-end ℕ.zero i s = tt
by-no-end (suc n) i s = go (end-or-proper (read_at i s 0).tok) (by-no-end n (within i (read_at i s 0).tok) (drop (read_at i s 0).next s))
  where
    go : ((read_at i s 0).tok ≡ End) ⊎ Proper (read_at i s 0).tok → NoEnd (tokens_by n (within i (read_at i s 0).tok) (drop (read_at i s 0).next s)) → NoEnd (tokens_by (suc n) i s)
    go (inl e) h = rw (by_end i s (suc n) e) tt
    go (inr x) h = rw (by-proper i s n x) (no_end x, h)

pub tokens-no-end : (s : List ℕ) → NoEnd (tokens s)
unfolding tokens_in
tokens-no-end s = by-no-end (length s) false s

pub rest-no-end : (ts r : List Tok) → NoEnd (ts ++ r) → NoEnd r
rest-no-end [] r h = h
rest-no-end (k ∷ ts) r h = rest-no-end ts r h.1

-- ---- tokens of bytes in hand
abbrev capital_of : Bool → ℕ → List ℕ → Token
capital_of true = head_front
capital_of false = alone_front

read-front : (i : Bool) (b : ℕ) (r : List ℕ) → (b ≡ 32 → ⊥) → read_at i (b ∷ r) 0 ≡ placed 0 (front_by (capital_of i) (b ∷ r))
unfolding token_at inner_at token_by skip spaces
read-front true b r n = rw (ne_eqb b 32 n) refl
read-front false b r n = rw (ne_eqb b 32 n) refl

-- a byte that is no space, and the token that it begins
module _ (i : Bool) (b : ℕ) (r : List ℕ) (n : b ≡ 32 → ⊥) where
  tokens-by : (k : Tok) (m : ℕ) → Proper k → front_by (capital_of i) (b ∷ r) ≡ record { tok = k; next = m } → tokens_in i (b ∷ r) ≡ k ∷ tokens_in (within i k) (drop m (b ∷ r))
  tokens-by k m x e =
      let z : 0 + m ≡ m = omega arith in
      let f : read_at i (b ∷ r) 0 ≡ record { tok = k; next = m } = read-front i b r n ∙ ap (placed 0) e ∙ ap (λ j. record { tok = k; next = j }) z in
      tokens-proper i (b ∷ r) (rw f x) ∙ rw f refl

  -- a sign
  pub sign-token : (k : Tok) → Proper k → upper b ≡ false → lower b ≡ false → sign_of b ≡ k → tokens_in i (b ∷ r) ≡ k ∷ tokens_in (within i k) r
  unfolding plain_front
  sign-token k x u l e = tokens-by k 1 x (front-plain (capital_of i) b r u ∙ rw (l, e) refl)

-- a symbol, before what is no letter
pub symbol-token : (i : Bool) (b : ℕ) (w r : List ℕ) → Lower (b ∷ w) → length (b ∷ w) ≤ 8 → run r ≡ 0 → tokens_in i (b ∷ (w ++ r)) ≡ Letter (word (b ∷ w)) ∷ tokens_in i r
unfolding plain_front run_front
symbol-token i b w r l h e =
    let lo = l.0.0 in
    let size : run ((b ∷ w) ++ r) ≡ length (b ∷ w) = run-whole (b ∷ w) r l e in
    let u : upper b ≡ false = rw (lt-leb b 90 (omega arith)) (and-false (leb 65 b)) in
    tokens-by i b (w ++ r) (λ q. omega arith) (Letter (word (b ∷ w))) (length (b ∷ w)) (proper_of (Letter (word (b ∷ w))) refl)
    (front-plain (capital_of i) b (w ++ r) u ∙ rw (is-lower-case b lo l.0.1, size, le-leb (length (b ∷ w)) 8 h, take_at (b ∷ w) r (length (b ∷ w)) refl) refl)
    ∙ ap (λ x. Letter (word (b ∷ w)) ∷ tokens_in i x) (drop_at (b ∷ w) r (length (b ∷ w)) refl)

-- a capital is no space
capital-no-space : (b : ℕ) → 65 ≤ b → b ≡ 32 → ⊥
capital-no-space b h e = omega arith

module _ (b : ℕ) (lo : 65 ≤ b) (hi : b ≤ 90) where
  is-upper : upper b ≡ true
  is-upper = rw (le-leb 65 b lo, le-leb b 90 hi) refl

  -- outside braces: alone, or the first of an operator's two letters
  pub capital-token : (r : List ℕ) → pair_on b r ≡ None → tokens (b ∷ r) ≡ Capital (b + 32) ∷ tokens r
  unfolding alone_front
  capital-token r e =
      tokens-by false b r (capital-no-space b lo) (Capital (b + 32)) 1 (proper_of (Capital (b + 32)) refl)
      (front-capital alone_front b r is-upper ∙ rw e refl)

  pub operator-token : (c : ℕ) (m : Modal) (r : List ℕ) → pair_of b c ≡ Some m → tokens (b ∷ (c ∷ r)) ≡ Operator m ∷ tokens r
  unfolding alone_front
  operator-token c m r e =
      tokens-by false b (c ∷ r) (capital-no-space b lo) (Operator m) 2 (proper_of (Operator m) refl)
      (front-capital alone_front b (c ∷ r) is-upper ∙ rw e refl)

  -- in braces: with the letters behind it, before what is no letter
  pub back-token : (w r : List ℕ) → Lower w → length w ≤ 7 → run r ≡ 0 → tokens_in true (b ∷ (w ++ r)) ≡ Capital (word ((b + 32) ∷ w)) ∷ tokens_in true r
  unfolding head_front
  back-token w r l h e =
      let size : run (w ++ r) ≡ length w = run-whole w r l e in
      let z : length w + 1 ≡ suc (length w) = omega arith in
      tokens-by true b (w ++ r) (capital-no-space b lo) (Capital (word ((b + 32) ∷ w))) (suc (length w)) (proper_of (Capital (word ((b + 32) ∷ w))) refl)
      (front-capital head_front b (w ++ r) is-upper ∙ rw (size, lt-ltb (length w) 8 (omega arith), take_at w r (length w) refl, z) refl)
      ∙ ap (λ x. Capital (word ((b + 32) ∷ w)) ∷ tokens_in true x) (drop_at w r (length w) refl)

-- ---- a closing brace is the same to both readers: they differ only in what a capital begins
module _ {B : Type 0} (x y : B) where
  head-opens : (b : ℕ) (r : List ℕ) → on_close_brace (head_front b r).tok x y ≡ y
  unfolding head_front
  head-opens b r = go (ltb (run r) 8)
    where
      go : (t : Bool) → on_close_brace (pick t (Capital (word ((b + 32) ∷ take (run r) r))) Other) x y ≡ y
      go true = refl
      go false = refl

  alone-opens : (b : ℕ) (r : List ℕ) → on_close_brace (alone_front b r).tok x y ≡ y
  unfolding alone_front
  alone-opens b r = go (pair_on b r)
    where
      go : (p : Option Modal) → on_close_brace (alone_by b p).tok x y ≡ y
      go (Some m) = refl
      go None = refl

  front-closing : (xs : List ℕ) → on_close_brace (front_by head_front xs).tok x y ≡ on_close_brace (front_by alone_front xs).tok x y
  unfolding front_by
  front-closing [] = refl
  front-closing (b ∷ r) = go (upper b)
    where
      go : (t : Bool) → on_close_brace (pick t (head_front b r) (plain_front b r)).tok x y ≡ on_close_brace (pick t (alone_front b r) (plain_front b r)).tok x y
      go true = head-opens b r ∙ sym (alone-opens b r)
      go false = refl

  pub closing_same : (s : List ℕ) (at : ℕ) → on_close_brace (inner_at s at).tok x y ≡ on_close_brace (token_at s at).tok x y
  unfolding inner_at token_at token_by
  closing_same s at = front-closing (drop (skip s at) s)

pub closing-inner : (s : List ℕ) (at : ℕ) → (token_at s at).tok ≡ CloseBrace → inner_at s at ≡ token_at s at
unfolding inner_at token_at token_by
closing-inner s at e = ap (placed (skip s at)) (go (drop (skip s at) s) e)
  where
    go : (xs : List ℕ) → (front_by alone_front xs).tok ≡ CloseBrace → front_by head_front xs ≡ front_by alone_front xs
    go [] e = refl
    go (b ∷ r) e = by (upper b) refl
      where
        by : (t : Bool) → upper b ≡ t → front_by head_front (b ∷ r) ≡ front_by alone_front (b ∷ r)
        by true u =
            let z = sym (alone-opens {B = ℕ} 0 1 b r) ∙ ap (λ k. on_close_brace k 0 1) (ap (λ t. t.tok) (sym (front-capital alone_front b r u)) ∙ e) in
            absurd (omega arith)
        by false u = front-plain head_front b r u ∙ sym (front-plain alone_front b r u)

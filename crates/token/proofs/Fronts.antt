-- What each kind of token is, from what its reader finds. Assumes nothing.
use mathlib.Core.Path.{◌≡◌, refl, sym}
use mathlib.Core.Bool.{true, false}
use mathlib.Core.List.{List}
use Prim.Native.Nat.{ℕ, ◌+◌, ◌-◌, ◌*◌, ◌≤◌, ◌<◌}
use native.Mathlib.Omega.{arith}
use native.Mathlib.Numerals.{add-one}
use lib.ListN.{length, get_or, take, drop, drop_of_length-le}
use lib.Seq.{drop-cons}
use borrow.Author.Tests.{lt-ltb, le-ltb, le-leb, lt-leb}
use Rattle.spelling.specs.Spelling.{lower, run, word}
use Rattle.token.specs.declared.Modal.{Modal}
use Rattle.std.specs.Prelude.{Option, Some, None}
use Rattle.token.specs.declared.Tok.{Tok}
use Rattle.token.specs.declared.Tok.TheVariants.{Letter, Capital, Operator, Other}
use Rattle.token.specs.declared.Token.{Token}
use Rattle.token.specs.Token.{sign_of, pair_of, pair_on, placed, run_front, plain_front, alone_front, head_front}

-- ---- a run of letters that ends at e
module _ (s : List ℕ) (i e : ℕ) (is : e ≡ i + run (drop i s)) where
  size : run (drop i s) ≡ e - i
  size = omega arith

  pub run_long : 8 < e - i → ◌≡◌ {A = Token} (record { tok = Other; next = e }) (placed i (run_front (drop i s)))
  unfolding run_front
  run_long h = rw (lt-leb (run (drop i s)) 8 (omega (arith, size)), is) refl

  pub run-word : (w : ℕ) → e - i ≤ 8 → w ≡ word (take (e - i) (drop i s)) → ◌≡◌ {A = Token} (record { tok = Letter w; next = e }) (placed i (run_front (drop i s)))
  unfolding run_front
  run-word w h q = rw (le-leb (run (drop i s)) 8 (omega (arith, size)), q, sym size, is) refl

-- ---- a capital in braces, whose spelling ends at e
module _ (s : List ℕ) (i a e b : ℕ) (first : a ≡ i + 1) (is : e ≡ a + run (drop a s)) where
  rest : run (drop (i + 1) s) ≡ e - a
  rest = rw (← first) (omega arith)

  ends : e ≡ i + (run (drop (i + 1) s) + 1)
  ends = omega (arith, rest, is)

  pub head-long : 7 < e - a → ◌≡◌ {A = Token} (record { tok = Other; next = e }) (placed i (head_front b (drop (i + 1) s)))
  unfolding head_front
  head-long h = rw (le-ltb (run (drop (i + 1) s)) 8 (omega (arith, rest)), ← ends) refl

  pub head-word : (x w : ℕ) → e - a ≤ 7 → x ≡ b → w ≡ word (take (e - a) (drop a s)) → ◌≡◌ {A = Token} (record { tok = Capital (x + 32 + 256 * w); next = e }) (placed i (head_front b (drop (i + 1) s)))
  unfolding head_front word
  head-word x w h p q = rw (lt-ltb (run (drop (i + 1) s)) 8 (omega (arith, rest)), ← ends, rest, p, q, first) refl

-- ---- a capital outside braces
module _ (b i : ℕ) (r : List ℕ) (p : Option Modal) (is : p ≡ pair_on b r) where
  pub alone-pair : (m : Modal) → p ≡ Some m → ◌≡◌ {A = Token} (record { tok = Operator m; next = i + 2 }) (placed i (alone_front b r))
  unfolding alone_front
  alone-pair m e = rw (← is, e) refl

  pub alone-one : (x : ℕ) → p ≡ None → x ≡ b → ◌≡◌ {A = Token} (record { tok = Capital (x + 32); next = i + 1 }) (placed i (alone_front b r))
  unfolding alone_front
  alone-one x e q = rw (← is, e, q) refl

module _ (s : List ℕ) (i : ℕ) where
  pub pair_inside : {p : Option Modal} → i + 1 < length s → p ≡ pair_of (get_or s i 0) (get_or s (i + 1) 0) → p ≡ pair_on (get_or s i 0) (drop (i + 1) s)
  pair_inside h e = rw (drop-cons s (i + 1) 0 h) e

  pub pair-outside : length s ≤ i + 1 → None ≡ pair_on (get_or s i 0) (drop (i + 1) s)
  pair-outside h = rw (drop_of_length-le s h) refl

  -- ---- a run or a sign
  pub plain-run : {r : Token} → i < length s → lower (get_or s i 0) ≡ true → r ≡ placed i (run_front (drop i s)) → r ≡ placed i (plain_front (get_or s i 0) (drop (i + 1) s))
  unfolding plain_front
  plain-run h l e = rw (l, add-one i, ← drop-cons s i 0 h) e

  pub plain-sign : (k : Tok) → lower (get_or s i 0) ≡ false → k ≡ sign_of (get_or s i 0) → ◌≡◌ {A = Token} (record { tok = k; next = i + 1 }) (placed i (plain_front (get_or s i 0) (drop (i + 1) s)))
  unfolding plain_front
  plain-sign k l e = rw (l, e) refl

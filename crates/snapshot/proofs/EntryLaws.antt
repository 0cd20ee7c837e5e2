-- The loops over the entries, and the answer that they lead to. Assumes nothing.
use Prim.Native.Nat.{ℕ, ◌+◌, ◌*◌, ◌≤◌, ◌<◌}
use native.Mathlib.Omega.{arith}
use native.Mathlib.Numerals.{add-one}
use mathlib.Core.Path.{◌≡◌, refl, sym, ap, ap₂, ◌∙◌, subst}
use mathlib.Core.Bool.{Bool, true, false, cond, not, ◌&&◌}
use mathlib.Core.List.{List}
use lib.Dec.{eqb, leb}
use lib.ListN.{length, get_or}
use borrow.Author.Tests.{eq-eqb, ne_eqb, lt-leb, le-leb}
use Rattle.std.proofs.Common.{add-zero}
use Rattle.std.specs.List.{IsAnyAnswer}
use Rattle.wordset.specs.Below.{one, any_below, count_below}
use Rattle.wordset.proofs.BelowLaws.{all-intro, all-false, any-intro, any_none, count-le}
use Rattle.std.specs.Prelude.{Result, Ok, Err}
use Rattle.refusal.specs.declared.Refusal.{Refusal}
use Rattle.refusal.specs.declared.Refusal.TheVariants as Refusing
use Rattle.snapshot.specs.Read.{limit, line_fits, fits, on_count, twice, is_value, held_count, not_one, judged, Few}

-- node i holds none of the values, or several
abbrev pub held_not_one : List ℕ → List ℕ → ℕ → Bool
held_not_one kinds out i = not (eqb (held_count kinds out i) 1)

-- node i holds the value k
abbrev pub node_holds : List ℕ → List ℕ → ℕ → ℕ → Bool
node_holds kinds out i k = is_value kinds k && eqb (get_or out (i * 8 + k) 0) 1

module _ (kinds : List ℕ) (n : ℕ) (out : List ℕ) where
  -- the entry of symbol k at node i is within its limit
  unfoldable pub entry_fits : ℕ → ℕ → Bool
  entry_fits i k = leb (get_or out (i * 8 + k) 0) (limit (get_or kinds k 0) n)

  module _ (i k b w : ℕ) (e : b ≡ limit (get_or kinds k 0) n) (f : w ≡ get_or out (i * 8 + k) 0) where
    pub entry-not : k < length kinds → b < w → false ≡ line_fits kinds n out i
    unfolding line_fits entry_fits
    entry-not h l = sym (all-false (entry_fits i) (length kinds) k h (lt-leb (get_or out (i * 8 + k) 0) (limit (get_or kinds k 0) n) (omega arith)))

    pub entry-fits : w ≤ b → entry_fits i k ≡ true
    unfolding entry_fits
    entry-fits l = le-leb (get_or out (i * 8 + k) 0) (limit (get_or kinds k 0) n) (omega arith)

  pub line-fits : (i k : ℕ) → length kinds ≤ k → ((j : ℕ) → j < k → entry_fits i j ≡ true) → true ≡ line_fits kinds n out i
  unfolding line_fits entry_fits
  line-fits i k h f = sym (all-intro (entry_fits i) (length kinds) (λ j l. f j (omega arith)))

  pub fits_not : (i : ℕ) → i < n → line_fits kinds n out i ≡ false → false ≡ fits kinds n out
  unfolding fits
  fits_not i h e = sym (all-false (line_fits kinds n out) n i h e)

  pub fits_all : (i : ℕ) → n ≤ i → ((j : ℕ) → j < i → line_fits kinds n out j ≡ true) → true ≡ fits kinds n out
  unfolding fits
  fits_all i h f = sym (all-intro (line_fits kinds n out) n (λ j l. f j (omega arith)))

  -- symbol k is a name on two nodes
  unfoldable pub name_twice : ℕ → Bool
  name_twice k = eqb (get_or kinds k 0) 2 && leb 2 (on_count out n k)

  pub twice-yes : (k : ℕ) → k < length kinds → name_twice k ≡ true → true ≡ twice kinds n out
  unfolding twice name_twice
  twice-yes k h e = sym (any-intro name_twice (length kinds) k h e)

  pub twice-no : (k : ℕ) → length kinds ≤ k → ((j : ℕ) → j < k → name_twice j ≡ false) → false ≡ twice kinds n out
  unfolding twice name_twice
  twice-no k h f = sym (any_none name_twice (length kinds) (λ j l. f j (omega arith)))

  pub no_value : any_below (length kinds) (is_value kinds) ≡ false → false ≡ not_one kinds n out
  unfolding not_one
  no_value e = simp e

  module _ (v : any_below (length kinds) (is_value kinds) ≡ true) where
    -- where there is a value, the nodes decide
    pub value-nodes : not_one kinds n out ≡ any_below n (held_not_one kinds out)
    unfolding not_one
    value-nodes = simp v

    pub not-one-yes : (i : ℕ) → i < n → (held_count kinds out i ≡ 1 → ⊥) → true ≡ not_one kinds n out
    not-one-yes i h f = sym (value-nodes ∙ any-intro (held_not_one kinds out) n i h (ap not (ne_eqb (held_count kinds out i) 1 f)))

    pub not-one-no : (i : ℕ) → n ≤ i → ((j : ℕ) → j < i → held_count kinds out j ≡ 1) → false ≡ not_one kinds n out
    not-one-no i h f = sym (value-nodes ∙ any_none (held_not_one kinds out) n (λ j l. ap not (eq-eqb (held_count kinds out j) 1 (f j (omega arith)))))

  -- the answers
  pub judged-13 : n ≡ 0 → Err Refusing.Snapshot ≡ judged kinds n out
  unfolding judged
  judged-13 e = simp (eq-eqb n 0 e)

  module _ (h : n ≡ 0 → ⊥) where
    pub judged-14 : fits kinds n out ≡ false → Err Refusing.Entry ≡ judged kinds n out
    unfolding judged
    judged-14 e = simp (ne_eqb n 0 h, e)

    pub judged-15 : fits kinds n out ≡ true → twice kinds n out ≡ true → Err Refusing.Twice ≡ judged kinds n out
    unfolding judged
    judged-15 e f = simp (ne_eqb n 0 h, e, f)

    pub judged-17 : fits kinds n out ≡ true → twice kinds n out ≡ false → not_one kinds n out ≡ true → Err Refusing.Held ≡ judged kinds n out
    unfolding judged
    judged-17 e f g = simp (ne_eqb n 0 h, e, f, g)

    pub judged-nodes : fits kinds n out ≡ true → twice kinds n out ≡ false → not_one kinds n out ≡ false → Ok n ≡ judged kinds n out
    unfolding judged
    judged-nodes e f g = simp (ne_eqb n 0 h, e, f, g)

-- ---- counts

pub count_none : (P : ℕ → Bool) → 0 ≡ count_below 0 P
unfolding count_below
count_none P = refl

pub count-small : (P : ℕ → Bool) (i c : ℕ) → c ≡ count_below i P → c ≤ i
count-small P i c e = omega (arith, count-le P i)

pub count_yes : (P : ℕ → Bool) (i c c' : ℕ) → c ≡ count_below i P → P i ≡ true → c' ≡ c + 1 → c' ≡ count_below (i + 1) P
unfolding count_below
count_yes P i c c' e f g = g ∙ ap₂ (λ x y. x + y) e (sym (ap one f)) ∙ ap (λ k. count_below k P) (sym (add-one i))

pub count_no : (P : ℕ → Bool) (i c c' : ℕ) → c ≡ count_below i P → P i ≡ false → c' ≡ c → c' ≡ count_below (i + 1) P
unfolding count_below
count_no P i c c' e f g = g ∙ e ∙ sym (add-zero (count_below i P)) ∙ ap (λ x. count_below i P + x) (sym (ap one f)) ∙ ap (λ k. count_below k P) (sym (add-one i))

-- a kind is in the list
pub some_value-is : (kinds : List ℕ) (r : Bool) → IsAnyAnswer (λ y b. eqb y 4 ≡ b) kinds r → r ≡ any_below (length kinds) (is_value kinds)
some_value-is kinds true h = sym (any-intro (is_value kinds) (length kinds) h.0 h.1 (h.2 0))
some_value-is kinds false h = sym (any_none (is_value kinds) (length kinds) (λ j l. h j 0 (omega arith) l))

pub judged-few : (kinds : List ℕ) (n : ℕ) (out : List ℕ) (a : Result ℕ Refusal) → n ≤ 16 → a ≡ judged kinds n out → Few a
unfolding judged
judged-few kinds n out a h e = subst Few (sym e) (go (eqb n 0) (fits kinds n out) (twice kinds n out) (not_one kinds n out))
  where
    go : (a b c d : Bool) → Few (cond a (Err Refusing.Snapshot) (cond b (cond c (Err Refusing.Twice) (cond d (Err Refusing.Held) (Ok n))) (Err Refusing.Entry)))
    go true b c d = tt
    go false true true d = tt
    go false true false true = tt
    go false true false false = h
    go false false c d = tt

-- Modes added to a set one after another: the set that is left, and the lowest refusal. Assumes nothing.
use mathlib.Core.Path.{◌≡◌, refl, sym, ap, ◌∙◌}
use mathlib.Core.Bool.{Bool, true, false, ◌&&◌, ◌||◌, not, or_assoc}
use mathlib.Core.List.{List, [], ◌∷◌}
use Prim.Native.Nat.{ℕ, suc, ◌+◌, ◌-◌, ◌/◌, ◌%◌, ◌^◌, ◌≤◌, ◌<◌, min}
use native.Mathlib.Nat.{add-zero, zero-add, pow-succ', zero-div}
use native.Mathlib.Decide.{dec_lt}
use native.Mathlib.Omega.{arith}
use Rattle.spelling.specs.Spelling.{entry_in}
use lib.Dec.{eqb, leb, ltb, lit<, eqb-zero-suc, eqb-suc-zero, eqb-suc-suc}
use borrow.Author.Tests.{eqb-true, eqb-false, leb-true, lt-ltb, le-ltb, le-leb, lt-leb}
use Rattle.token.specs.Token.{pick}
use Rattle.ctl.specs.Lists.{any_of}
use Rattle.ctl.specs.Numbers.{has_bit}
use Rattle.ctl.proofs.BoolLaws.{and_both}
use Rattle.ctl.proofs.NumberLaws.{has_bit-half, window, window-only}
use Rattle.operators.specs.declared.sets.Marked.{Marked}
use Rattle.operators.specs.Modes.{marked_of, with_mode}
use Rattle.grammar.specs.Grammar.{Mode, forward, backward, is_field, mode_number, holds_mode, mode_set, some_no_field, twice}
use Rattle.operators.proofs.ModeLaws.{bit-fits}

-- ---- Booleans and bits
or-false : (a : Bool) → a || false ≡ a
or-false true = refl
or-false false = refl

pub ltb-not : (a b : ℕ) → ltb a b ≡ not (leb b a)
ltb-not a b = go (dec_lt a b)
  where
    go : Dec (a < b) → ltb a b ≡ not (leb b a)
    go (yes h) = rw (lt-ltb a b h, lt-leb b a h) refl
    go (no h) = rw (le-ltb a b (omega (arith, h)), le-leb b a (omega (arith, h))) refl

-- a bit that a number lacks, added
add-bit : (j mask i : ℕ) → has_bit mask j ≡ false → has_bit (mask + 2 ^ j) i ≡ has_bit mask i || eqb i j
add-bit ℕ.zero mask ℕ.zero h =
    let o : mask / 2 ^ 0 % 2 ≡ 1 → ⊥ = eqb-false (mask / 2 ^ 0 % 2) 1 h in
    let a : (mask + 2 ^ 0) / 2 ^ 0 % 2 ≡ 1 = omega (arith, o) in
    rw (h, a) refl
add-bit ℕ.zero mask (suc i) h =
    let o : mask / 2 ^ 0 % 2 ≡ 1 → ⊥ = eqb-false (mask / 2 ^ 0 % 2) 1 h in
    let a : (mask + 2 ^ 0) / 2 ≡ mask / 2 = omega (arith, o) in
    has_bit-half (mask + 2 ^ 0) i ∙ ap (λ x. has_bit x i) a ∙ sym (has_bit-half mask i) ∙ sym (ap (λ x. has_bit mask (suc i) || x) (eqb-suc-zero i) ∙ or-false (has_bit mask (suc i)))
add-bit (suc j) mask ℕ.zero h =
    let a : (mask + 2 ^ suc j) / 2 ^ 0 % 2 ≡ mask / 2 ^ 0 % 2 = omega (arith, pow-succ' 2 j) in
    ap (λ x. eqb x 1) a ∙ sym (ap (λ x. has_bit mask 0 || x) (eqb-zero-suc j) ∙ or-false (has_bit mask 0))
add-bit (suc j) mask (suc i) h =
    let a : (mask + 2 ^ suc j) / 2 ≡ mask / 2 + 2 ^ j = omega (arith, pow-succ' 2 j) in
    has_bit-half (mask + 2 ^ suc j) i
    ∙ ap (λ x. has_bit x i) a
    ∙ add-bit j (mask / 2) i (sym (has_bit-half mask j) ∙ h)
    ∙ sym (ap (λ x. x || eqb (suc i) (suc j)) (has_bit-half mask i) ∙ ap (λ x. has_bit (mask / 2) i || x) (eqb-suc-suc i j))

-- ---- the lowest refusal: 7, 8, or 9 for none
abbrev pub lowest : Bool → Bool → ℕ
lowest a b = pick a 7 (pick b 8 9)

lowest-least : (a b : Bool) → 7 ≤ lowest a b
lowest-least true b = omega arith
lowest-least false true = omega arith
lowest-least false false = omega arith

seven : (low x : ℕ) → 7 ≤ x → min (min low 7) x ≡ min low 7
seven low x h = omega arith

eight : (low : ℕ) (a b : Bool) → min (min low 8) (lowest a b) ≡ min low (lowest a true)
eight low true b = omega arith
eight low false true = omega arith
eight low false false = omega arith

nine : (low x : ℕ) → low ≤ 9 → min (min low 9) x ≡ min low x
nine low x h = omega arith

nine-least : (a b : Bool) → min 9 (lowest a b) ≡ lowest a b
nine-least true b = refl
nine-least false true = refl
nine-least false false = refl

-- ---- one mode
with-field : (mask v back : ℕ) → leb 9 v && leb v 16 ≡ true → with_mode mask v back ≡ marked_of mask (v - 9 + back)
unfolding with_mode
with-field mask v back h = let a = and_both (leb 9 v) (leb v 16) h in rw (ltb-not v 9, a.0, a.1) refl

with_none : (mask v back : ℕ) → leb 9 v && leb v 16 ≡ false → with_mode mask v back ≡ record { mask = mask; low = 7 }
unfolding with_mode
with_none mask v back h = rw (ltb-not v 9) (go (leb 9 v) (leb v 16) h)
  where
    go : (a b : Bool) → a && b ≡ false → ◌≡◌ {A = Marked} (pick (not a) (record { mask = mask; low = 7 }) (pick b (marked_of mask (v - 9 + back)) (record { mask = mask; low = 7 }))) (record { mask = mask; low = 7 })
    go true true e = let z : ◌≡◌ {A = ℕ} 0 1 = cc in absurd (omega arith)
    go true false e = refl
    go false b e = refl

marked-new : (mask m : ℕ) → has_bit mask m ≡ false → marked_of mask m ≡ record { mask = mask + 2 ^ m; low = 9 }
unfolding marked_of
marked-new mask m h = rw h refl

marked-twice : (mask m : ℕ) → has_bit mask m ≡ true → marked_of mask m ≡ record { mask = mask; low = 8 }
unfolding marked_of
marked-twice mask m h = rw h refl

module _ (decl : List ℕ) where
  -- a set with a mode more, as typed
  abbrev pub marked : ℕ → Mode → Marked
  marked mask (forward k) = with_mode mask (entry_in decl k) 0
  marked mask (backward k) = with_mode mask (entry_in decl k) 8

  marked-field : (mask : ℕ) (m : Mode) → is_field decl m ≡ true → marked mask m ≡ marked_of mask (mode_number decl m)
  marked-field mask (forward k) h = with-field mask (entry_in decl k) 0 h ∙ ap (marked_of mask) (add-zero (entry_in decl k - 9))
  marked-field mask (backward k) h = with-field mask (entry_in decl k) 8 h

  marked-none : (mask : ℕ) (m : Mode) → is_field decl m ≡ false → marked mask m ≡ record { mask = mask; low = 7 }
  marked-none mask (forward k) h = with_none mask (entry_in decl k) 0 h
  marked-none mask (backward k) h = with_none mask (entry_in decl k) 8 h

  field-small : (m : Mode) → is_field decl m ≡ true → mode_number decl m < 16
  field-small (forward k) h = let a = leb-true (entry_in decl k) 16 (and_both (leb 9 (entry_in decl k)) (leb (entry_in decl k) 16) h).1 in omega arith
  field-small (backward k) h = let a = leb-true (entry_in decl k) 16 (and_both (leb 9 (entry_in decl k)) (leb (entry_in decl k) 16) h).1 in omega arith

  -- what a mode does: it is no field, or a field's that is new, or one that is there already
  data Step (mask : ℕ) (m : Mode) : Type 0 where
    no_field : is_field decl m ≡ false → marked mask m ≡ record { mask = mask; low = 7 } → Step mask m
    new : is_field decl m ≡ true → has_bit mask (mode_number decl m) ≡ false → marked mask m ≡ record { mask = mask + 2 ^ mode_number decl m; low = 9 } → Step mask m
    again : is_field decl m ≡ true → has_bit mask (mode_number decl m) ≡ true → marked mask m ≡ record { mask = mask; low = 8 } → Step mask m

  step_is : (mask : ℕ) (m : Mode) → Step mask m
  step_is mask m = go (is_field decl m) (has_bit mask (mode_number decl m)) refl refl
    where
      go : (a b : Bool) → is_field decl m ≡ a → has_bit mask (mode_number decl m) ≡ b → Step mask m
      go false b e f = no_field e (marked-none mask m e)
      go true false e f = new e f (marked-field mask m e ∙ marked-new mask (mode_number decl m) f)
      go true true e f = again e f (marked-field mask m e ∙ marked-twice mask (mode_number decl m) f)

  -- ---- modes one after another
  abbrev pub mask_from : ℕ → List Mode → ℕ
  mask_from mask [] = mask
  mask_from mask (m ∷ A) = mask_from (marked mask m).mask A

  abbrev pub low_from : ℕ → ℕ → List Mode → ℕ
  low_from mask low [] = low
  low_from mask low (m ∷ A) = low_from (marked mask m).mask (min low (marked mask m).low) A

  mask-bit : (A : List Mode) (mask i : ℕ) → has_bit (mask_from mask A) i ≡ has_bit mask i || holds_mode decl A i
  mask-bit [] mask i = sym (or-false (has_bit mask i))
  mask-bit (m ∷ A) mask i = go (step_is mask m) (λ k. mask-bit A k i)
    where
      go : Step mask m → ((k : ℕ) → has_bit (mask_from k A) i ≡ has_bit k i || holds_mode decl A i) → has_bit (mask_from (marked mask m).mask A) i ≡ has_bit mask i || (is_field decl m && eqb i (mode_number decl m) || holds_mode decl A i)
      go (no_field e f) h = rw (f, e) (h mask)
      go (new e b f) h = rw (f, e) (h (mask + 2 ^ mode_number decl m) ∙ ap (λ x. x || holds_mode decl A i) (add-bit (mode_number decl m) mask i b) ∙ or_assoc (has_bit mask i) (eqb i (mode_number decl m)) (holds_mode decl A i))
      go (again e b f) h = rw (f, e) (h mask ∙ also (eqb i (mode_number decl m)) refl)
        where
          also : (x : Bool) → eqb i (mode_number decl m) ≡ x → has_bit mask i || holds_mode decl A i ≡ has_bit mask i || (x || holds_mode decl A i)
          also true q = rw (eqb-true i (mode_number decl m) q, b) refl
          also false q = refl

  mask-small : (A : List Mode) (mask : ℕ) → mask < 65536 → mask_from mask A < 65536
  mask-small [] mask h = h
  mask-small (m ∷ A) mask h = go (step_is mask m) (λ k. mask-small A k)
    where
      go : Step mask m → ((k : ℕ) → k < 65536 → mask_from k A < 65536) → mask_from (marked mask m).mask A < 65536
      go (no_field e f) r = rw f (r mask h)
      go (new e b f) r = rw f (r (mask + 2 ^ mode_number decl m) (bit-fits mask (mode_number decl m) h (field-small m e) (eqb-false (mask / 2 ^ mode_number decl m % 2) 1 b)))
      go (again e b f) r = rw f (r mask h)

  pub mask_is : (A : List Mode) → mask_from 0 A ≡ mode_set decl A
  unfolding window mode_set
  mask_is A = window-only (λ i. holds_mode decl A i) 0 16 (mask_from 0 A) (mask-small A 0 (lit< tt)) (λ k h. mask-bit A 0 k ∙ (rw (zero-div (2 ^ k), zero-add k) refl))

  -- a mode of these is in the set
  abbrev hits : ℕ → List Mode → Bool
  hits mask A = any_of (λ n. has_bit mask (mode_number decl n)) A

  hits-new : (A : List Mode) (mask j : ℕ) → has_bit mask j ≡ false → hits (mask + 2 ^ j) A ≡ hits mask A || any_of (λ n. eqb (mode_number decl n) j) A
  hits-new [] mask j h = refl
  hits-new (m ∷ A) mask j h =
      rw (add-bit j mask (mode_number decl m) h, hits-new A mask j h)
      (swap (has_bit mask (mode_number decl m)) (eqb (mode_number decl m) j) (hits mask A) (any_of (λ n. eqb (mode_number decl n) j) A))
    where
      swap : (a b c d : Bool) → a || b || (c || d) ≡ a || c || (b || d)
      swap true b c d = refl
      swap false true true d = refl
      swap false true false d = refl
      swap false false c d = refl

  low-from : (A : List Mode) (mask low : ℕ) → low ≤ 9 → low_from mask low A ≡ min low (lowest (some_no_field decl A) (hits mask A || twice decl A))
  low-from [] mask low h = omega arith
  low-from (m ∷ A) mask low h = go (step_is mask m) (λ k l g. low-from A k l g)
    where
      go : Step mask m → ((k l : ℕ) → l ≤ 9 → low_from k l A ≡ min l (lowest (some_no_field decl A) (hits k A || twice decl A)))
          → low_from (marked mask m).mask (min low (marked mask m).low) A ≡ min low (lowest (not (is_field decl m) || some_no_field decl A) (has_bit mask (mode_number decl m) || hits mask A || (any_of (λ n. eqb (mode_number decl n) (mode_number decl m)) A || twice decl A)))
      go (no_field e f) r = rw (f, e) (r mask (min low 7) (omega arith) ∙ seven low (lowest (some_no_field decl A) (hits mask A || twice decl A)) (lowest-least (some_no_field decl A) (hits mask A || twice decl A)))
      go (new e b f) r =
          rw (f, e, b)
          (r (mask + 2 ^ mode_number decl m) (min low 9) (omega arith)
          ∙ (rw (hits-new A mask (mode_number decl m) b, or_assoc (hits mask A) (any_of (λ n. eqb (mode_number decl n) (mode_number decl m)) A) (twice decl A)) (nine low _ h)))
      go (again e b f) r = rw (f, e, b) (r mask (min low 8) (omega arith) ∙ eight low (some_no_field decl A) (hits mask A || twice decl A))

  no-hits : (A : List Mode) → hits 0 A ≡ false
  no-hits [] = refl
  no-hits (m ∷ A) = rw (zero-div (2 ^ mode_number decl m)) (no-hits A)

  pub low-is : (A : List Mode) → low_from 0 9 A ≡ lowest (some_no_field decl A) (twice decl A)
  low-is A = low-from A 0 9 (omega arith) ∙ (rw (no-hits A) (nine-least (some_no_field decl A) (twice decl A)))

-- Different formulas have different prints: a reader takes a print back, where what follows begins with no lower-case letter. Assumes nothing.
use mathlib.Core.Path.{◌≡◌, refl, sym, ap, ap₂, ◌∙◌, subst}
use mathlib.Core.Logic.{◌⊎◌, inl, inr}
use mathlib.Core.Bool.{Bool, true, false, ◌&&◌}
use mathlib.Core.List.Memᴰ
use mathlib.Core.List.{List, [], ◌∷◌, ◌++◌, append_assoc}
use Prim.Native.Nat.{ℕ, zero, suc, ◌+◌, ◌-◌, ◌^◌, ◌≤◌, ◌<◌}
use native.Mathlib.Omega.{arith}
use lib.ListN.{length}
use lib.Dec.{T, eqb, eqb→eq, eqb_refl, ltb}
use borrow.Author.Tests.{ne_eqb, le-ltb, lt-ltb}
use Rattle.ctl.specs.Lists.{◌∈◌, below, elem}
use Rattle.ctl.specs.Numbers.{has_bit}
use Rattle.ctl.specs.Formula.{Form, tru, fls, lit, nlit, and, or, ex, ax, eu, au, er, ar}
use Rattle.ctl.specs.Modes.{has_mode, modes, all_modes}
use Rattle.ctl.specs.Print.{capital, print_mode, print_modes, braces, print}
use Rattle.ctl.specs.Alphabet.{Spelling, Alphabet, Declared, DeclaredAll, Over}
use Rattle.ctl.proofs.BoolLaws.{true-T, T_true, and_in, and_0, and-1}
use Rattle.ctl.proofs.ListLaws.{below_in, below_out, elem_in, elem-keep, keep-length}
use Rattle.ctl.proofs.NumberLaws.{window, window-only}

-- ---- looking bytes up

abbrev hd : List ℕ → ℕ
hd [] = 0
hd (b ∷ l) = b

abbrev tl : List ℕ → List ℕ
tl [] = []
tl (b ∷ l) = l

abbrev pick {ℓ} : {A : Type ℓ} → Bool → A → A → A
pick true a b = a
pick false a b = b

-- the first that passes the test
seek : (ℕ → Bool) → List ℕ → ℕ
seek p [] = 0
seek p (x ∷ l) = pick (p x) x (seek p l)

seek_is : (p : ℕ → Bool) {x : ℕ} (l : List ℕ) → x ∈ l → T (p x) → (seek p l ∈ l) × T (p (seek p l))
unfolding seek
seek_is p [] m h = absurd (Memᴰ.not-nil m)
seek_is p {x} (y ∷ l) m h = go (p y) refl (Memᴰ.cases_cons m) (λ k. seek_is p l k h)
  where
    go : (b : Bool) → p y ≡ b → (x ≡ y) ⊎ (x ∈ l) → (x ∈ l → (seek p l ∈ l) × T (p (seek p l))) → (pick b y (seek p l) ∈ y ∷ l) × T (p (pick b y (seek p l)))
    go true e c rec = (Memᴰ.head refl, T_true (p y) e)
    go false e (inl i) rec = absurd (subst T (ap p i ∙ e) h)
    go false e (inr k) rec = (Memᴰ.tail (rec k).0, (rec k).1)

-- two lists of bytes are one
same : List ℕ → List ℕ → Bool
same [] [] = true
same [] (b ∷ l) = false
same (a ∷ k) [] = false
same (a ∷ k) (b ∷ l) = eqb a b && same k l

same_refl : (l : List ℕ) → T (same l l)
unfolding same
same_refl [] = tt
same_refl (b ∷ l) = and_in (eqb b b) (same l l) (eqb_refl b) (same_refl l)

same_out : (k l : List ℕ) → T (same k l) → k ≡ l
unfolding same
same_out [] [] t = refl
same_out [] (b ∷ l) t = absurd t
same_out (a ∷ k) [] t = absurd t
same_out (a ∷ k) (b ∷ l) t = ap₂ ◌∷◌ (eqb→eq a b (and_0 (eqb a b) (same k l) t)) (same_out k l (and-1 (eqb a b) (same k l) t))

-- ---- spellings

-- a lower-case letter
abbrev is_low : ℕ → Bool
is_low b = ltb 96 b && ltb b 123

-- the list begins with no lower-case letter
abbrev NoLetter : List ℕ → Type 0
NoLetter r = is_low (hd r) ≡ false

-- the longest run of lower-case letters, and what follows it
run : List ℕ → List ℕ × List ℕ
run [] = ([], [])
run (b ∷ l) = pick (is_low b) (b ∷ (run l).0, (run l).1) ([], b ∷ l)

-- the first byte as the small letter of a capital
abbrev small : List ℕ → List ℕ
small l = (hd l + 32) ∷ tl l

run-letters : (w r : List ℕ) → ((b : ℕ) → b ∈ w → (97 ≤ b) × (b ≤ 122)) → NoLetter r → run (w ++ r) ≡ (w, r)
unfolding run
run-letters [] [] f n = refl
run-letters [] (b ∷ r) f n = rw n
run-letters (b ∷ w) r f n =
    let h = f b (Memᴰ.head refl) in
    rw (lt-ltb 96 b (omega arith), lt-ltb b 123 (omega arith), run-letters w r (λ c m. f c (Memᴰ.tail m)) n)

module _ (r : List ℕ) where
  spelling-head : (w : List ℕ) → Spelling w → (97 ≤ hd (w ++ r)) × (hd (w ++ r) ≤ 122)
  spelling-head [] s = absurd (omega arith)
  spelling-head (b ∷ w) s = s.letters b (Memᴰ.head refl)

  capital-head : (w : List ℕ) → Spelling w → (65 ≤ hd (capital w ++ r)) × (hd (capital w ++ r) ≤ 90)
  unfolding capital
  capital-head [] s = absurd (omega arith)
  capital-head (b ∷ w) s = let h = s.letters b (Memᴰ.head refl) in omega arith

  small-capital : (w : List ℕ) → Spelling w → small (capital w ++ r) ≡ w ++ r
  unfolding capital
  small-capital [] s = absurd (omega arith)
  small-capital (b ∷ w) s =
      let h = s.letters b (Memᴰ.head refl) in
      let e : b - 32 + 32 ≡ b = omega arith in
      ap (λ c. c ∷ (w ++ r)) e

module _ (spell : ℕ → List ℕ) where
  pub forward-is : (m : ℕ) → m < 8 → print_mode spell m ≡ spell m
  unfolding print_mode
  forward-is m h = rw (lt-ltb m 8 h, print_mode)

  pub backward-is : (m : ℕ) → 8 ≤ m → print_mode spell m ≡ capital (spell (m - 8))
  unfolding print_mode
  backward-is m h = rw (le-ltb m 8 h, print_mode)

-- ---- a reader of prints; what it makes of other bytes does not matter

module _ (spell : ℕ → List ℕ) (count : ℕ) where
  symbol_of : List ℕ → ℕ
  symbol_of w = seek (λ k. same (spell k) w) (below count)

  read_symbol : List ℕ → ℕ × List ℕ
  read_symbol l = (symbol_of (run l).0, (run l).1)

  read_mode : List ℕ → ℕ × List ℕ
  read_mode l = pick (ltb (hd l) 97) (8 + (read_symbol (small l)).0, (read_symbol (small l)).1) (read_symbol l)

  -- at most n modes
  read_modes : ℕ → List ℕ → List ℕ × List ℕ
  read_modes zero l = ([], tl l)
  read_modes (suc n) l =
      let x = read_mode l in
      let y = read_modes n (tl x.1) in
      pick (eqb (hd l) 125) ([], tl l) (pick (eqb (hd x.1) 44) (x.0 ∷ y.0, y.1) (x.0 ∷ [], tl x.1))

  -- a set from its modes
  mask_of : List ℕ → ℕ
  mask_of ms = window (λ k. elem k ms) 0 16

  read_braces : List ℕ → ℕ × List ℕ
  read_braces l = (mask_of (read_modes 16 (tl l)).0, (read_modes 16 (tl l)).1)

  read_two : (List ℕ → Form × List ℕ) → List ℕ → Form × List ℕ
  read_two rd l = (pick (eqb (hd (rd l).1) 38) (and (rd l).0 (rd (tl (rd l).1)).0) (or (rd l).0 (rd (tl (rd l).1)).0), tl (rd (tl (rd l).1)).1)

  read_next : (ℕ → Form → Form) → (List ℕ → Form × List ℕ) → List ℕ → Form × List ℕ
  read_next next rd l = (next (read_braces l).0 (rd (read_braces l).1).0, (rd (read_braces l).1).1)

  read_path : (ℕ → Form → Form → Form) → (ℕ → Form → Form → Form) → (List ℕ → Form × List ℕ) → List ℕ → Form × List ℕ
  read_path until release rd l =
      let A = (read_braces l).0 in
      let x = rd (tl (read_braces l).1) in
      let y = rd (tl x.1) in
      (pick (eqb (hd x.1) 85) (until A x.0 y.0) (release A x.0 y.0), tl y.1)

  read_modal : (ℕ → Form → Form) → (ℕ → Form → Form → Form) → (ℕ → Form → Form → Form) → (List ℕ → Form × List ℕ) → List ℕ → Form × List ℕ
  read_modal next until release rd l = pick (eqb (hd l) 88) (read_next next rd (tl l)) (read_path until release rd l)

  read : ℕ → List ℕ → Form × List ℕ
  read zero l = (tru, [])
  read (suc n) l =
      pick (eqb (hd l) 49) (tru, tl l)
      (pick (eqb (hd l) 48) (fls, tl l)
      (pick (eqb (hd l) 33) (nlit (read_symbol (tl l)).0, (read_symbol (tl l)).1)
      (pick (eqb (hd l) 40) (read_two (read n) (tl l))
      (pick (eqb (hd l) 69) (read_modal ex eu er (read n) (tl l))
      (pick (eqb (hd l) 65) (read_modal ax au ar (read n) (tl l))
      (lit (read_symbol l).0, (read_symbol l).1))))))

  module _ (alpha : Alphabet spell count) where
    symbol-back : (k : ℕ) → k < count → symbol_of (spell k) ≡ k
    unfolding symbol_of
    symbol-back k h =
        let w = seek_is (λ j. same (spell j) (spell k)) (below count) (below_in h) (same_refl (spell k)) in
        alpha.different (symbol_of (spell k)) k (below_out count w.0) h (same_out (spell (symbol_of (spell k))) (spell k) w.1)

    spelling-back : (k : ℕ) → k < count → (r : List ℕ) → NoLetter r → read_symbol (spell k ++ r) ≡ (k, r)
    unfolding read_symbol
    spelling-back k h r n = rw (run-letters (spell k) r (alpha.spelled k h).letters n, symbol-back k h)

    declared-forward : (m : ℕ) → m < count → print_mode spell m ≡ spell m
    declared-forward m h = let k = alpha.few in forward-is spell m (omega arith)

    mode-back : (m : ℕ) → Declared count m → (r : List ℕ) → NoLetter r → read_mode (print_mode spell m ++ r) ≡ (m, r)
    unfolding read_mode
    mode-back m (inl h) r n =
        rw (declared-forward m h, le-ltb (hd (spell m ++ r)) 97 (spelling-head r (spell m) (alpha.spelled m h)).0) (spelling-back m h r n)
    mode-back m (inr h) r n =
        let j : m - 8 < count = omega arith in
        let s = alpha.spelled (m - 8) j in
        let k = capital-head r (spell (m - 8)) s in
        let e : 8 + (m - 8) ≡ m = omega arith in
        rw (backward-is spell m h.0, lt-ltb (hd (capital (spell (m - 8)) ++ r)) 97 (omega arith), small-capital r (spell (m - 8)) s, spelling-back (m - 8) j r n) (ap (λ z. (z, r)) e)

    -- no mode is taken for the end of a set
    mode-head : (m : ℕ) → Declared count m → (r : List ℕ) → eqb (hd (print_mode spell m ++ r)) 125 ≡ false
    mode-head m (inl h) r =
        let k = spelling-head r (spell m) (alpha.spelled m h) in
        rw (declared-forward m h) (ne_eqb (hd (spell m ++ r)) 125 (λ e. omega arith))
    mode-head m (inr h) r =
        let j : m - 8 < count = omega arith in
        let k = capital-head r (spell (m - 8)) (alpha.spelled (m - 8) j) in
        rw (backward-is spell m h.0) (ne_eqb (hd (capital (spell (m - 8)) ++ r)) 125 (λ e. omega arith))

    modes-back : (n : ℕ) (ms : List ℕ) → length ms ≤ n → ((m : ℕ) → m ∈ ms → Declared count m) → (r : List ℕ) → read_modes n (print_modes spell ms ++ (125 ∷ r)) ≡ (ms, r)
    unfolding read_modes print_modes
    modes-back zero [] l d r = refl
    modes-back zero (m ∷ ms) l d r = absurd (omega arith)
    modes-back (suc n) [] l d r = refl
    modes-back (suc n) (m ∷ []) l d r =
        let h = d m (Memᴰ.head refl) in
        rw (mode-head m h (125 ∷ r), mode-back m h (125 ∷ r) refl)
    modes-back (suc n) (m ∷ (k ∷ ms)) l d r =
        let h = d m (Memᴰ.head refl) in
        let t : List ℕ = 44 ∷ (print_modes spell (k ∷ ms) ++ (125 ∷ r)) in
        rw (
          append_assoc (print_mode spell m) (44 ∷ print_modes spell (k ∷ ms)) (125 ∷ r),
          mode-head m h t,
          mode-back m h t refl,
          modes-back n (k ∷ ms) (omega arith) (λ a i. d a (Memᴰ.tail i)) r,
        )

    mask-back : (A : ℕ) → A < 2 ^ 16 → mask_of (modes A) ≡ A
    unfolding mask_of modes
    mask-back A h = sym (window-only (λ k. elem k (modes A)) 0 16 A h has)
      where
        has : (k : ℕ) → k < 16 → has_bit A k ≡ elem (0 + k) (modes A)
        has k l =
            let e : 0 + k ≡ k = omega arith in
            sym (ap (λ j. elem j (modes A)) e ∙ elem-keep (has_mode A) all_modes k ∙ ap (λ b. b && has_mode A k) (true-T (elem k all_modes) (elem_in {l = all_modes} (below_in l))))

    braces-back : (A : ℕ) → DeclaredAll count A → (r : List ℕ) → read_braces (braces spell A ++ r) ≡ (A, r)
    unfolding read_braces braces modes
    braces-back A d r =
        rw (append_assoc (print_modes spell (modes A)) (125 ∷ []) r, modes-back 16 (modes A) (keep-length (has_mode A) all_modes) d.1 r, mask-back A d.0)

    -- how deep a print is read
    size : Form → ℕ
    size tru = 1
    size fls = 1
    size (lit k) = 1
    size (nlit k) = 1
    size (and p q) = suc (size p + size q)
    size (or p q) = suc (size p + size q)
    size (ex A p) = suc (size p)
    size (ax A p) = suc (size p)
    size (eu A p q) = suc (size p + size q)
    size (au A p q) = suc (size p + size q)
    size (er A p q) = suc (size p + size q)
    size (ar A p q) = suc (size p + size q)

    -- two operands with a byte between, and a closing bracket
    pair-flat : (p q : Form) (b : ℕ) (r : List ℕ) → (print spell p ++ (b ∷ (print spell q ++ (41 ∷ [])))) ++ r ≡ print spell p ++ (b ∷ (print spell q ++ (41 ∷ r)))
    pair-flat p q b r = append_assoc (print spell p) (b ∷ (print spell q ++ (41 ∷ []))) r ∙ ap (λ z. print spell p ++ (b ∷ z)) (append_assoc (print spell q) (41 ∷ []) r)

    module _ (rd : List ℕ → Form × List ℕ) (p q : Form) (hp : (r : List ℕ) → NoLetter r → rd (print spell p ++ r) ≡ (p, r)) (hq : (r : List ℕ) → NoLetter r → rd (print spell q ++ r) ≡ (q, r)) where
      two_back : (b : ℕ) → is_low b ≡ false → (r : List ℕ) → read_two rd ((print spell p ++ (b ∷ (print spell q ++ (41 ∷ [])))) ++ r) ≡ (pick (eqb b 38) (and p q) (or p q), r)
      unfolding read_two
      two_back b n r = rw (pair-flat p q b r, hp (b ∷ (print spell q ++ (41 ∷ r))) n, hq (41 ∷ r) refl)

      path-back : (until release : ℕ → Form → Form → Form) (A b : ℕ) → is_low b ≡ false → DeclaredAll count A → (r : List ℕ)
          → read_path until release rd ((braces spell A ++ (40 ∷ (print spell p ++ (b ∷ (print spell q ++ (41 ∷ [])))))) ++ r) ≡ (pick (eqb b 85) (until A p q) (release A p q), r)
      unfolding read_path
      path-back until release A b n d r =
          rw (
            append_assoc (braces spell A) (40 ∷ (print spell p ++ (b ∷ (print spell q ++ (41 ∷ []))))) r,
            pair-flat p q b r,
            braces-back A d (40 ∷ (print spell p ++ (b ∷ (print spell q ++ (41 ∷ r))))),
            hp (b ∷ (print spell q ++ (41 ∷ r))) n,
            hq (41 ∷ r) refl,
          )

    next-back : (rd : List ℕ → Form × List ℕ) (p : Form) → ((r : List ℕ) → NoLetter r → rd (print spell p ++ r) ≡ (p, r)) → (next : ℕ → Form → Form) (A : ℕ) → DeclaredAll count A → (r : List ℕ) → NoLetter r
        → read_next next rd ((braces spell A ++ print spell p) ++ r) ≡ (next A p, r)
    unfolding read_next
    next-back rd p hp next A d r n = rw (append_assoc (braces spell A) (print spell p) r, braces-back A d (print spell p ++ r), hp r n)

    symbol-no : (k b : ℕ) → k < count → (r : List ℕ) → b < 97 → eqb (hd (spell k ++ r)) b ≡ false
    symbol-no k b o r l = let h = spelling-head r (spell k) (alpha.spelled k o) in ne_eqb (hd (spell k ++ r)) b (λ e. omega arith)

    -- the reader takes a print back, where no lower-case letter follows
    read-print : (p : Form) → Over count p → (n : ℕ) → size p ≤ n → (r : List ℕ) → NoLetter r → read n (print spell p ++ r) ≡ (p, r)
    unfolding read print size read_modal braces
    read-print tru o zero h r g = absurd (omega arith)
    read-print tru o (suc n) h r g = refl
    read-print fls o zero h r g = absurd (omega arith)
    read-print fls o (suc n) h r g = refl
    read-print (lit k) o zero h r g = absurd (omega arith)
    read-print (lit k) o (suc n) h r g =
        rw (symbol-no k 49 o r (omega arith), symbol-no k 48 o r (omega arith), symbol-no k 33 o r (omega arith), symbol-no k 40 o r (omega arith), symbol-no k 69 o r (omega arith), symbol-no k 65 o r (omega arith), spelling-back k o r g)
    read-print (nlit k) o zero h r g = absurd (omega arith)
    read-print (nlit k) o (suc n) h r g = rw (spelling-back k o r g)
    read-print (and p q) o zero h r g = absurd (omega arith)
    read-print (and p q) o (suc n) h r g = two_back (read n) p q (read-print p o.0 n (omega arith)) (read-print q o.1 n (omega arith)) 38 refl r
    read-print (or p q) o zero h r g = absurd (omega arith)
    read-print (or p q) o (suc n) h r g = two_back (read n) p q (read-print p o.0 n (omega arith)) (read-print q o.1 n (omega arith)) 124 refl r
    read-print (ex A p) o zero h r g = absurd (omega arith)
    read-print (ex A p) o (suc n) h r g = next-back (read n) p (read-print p o.1 n (omega arith)) ex A o.0 r g
    read-print (ax A p) o zero h r g = absurd (omega arith)
    read-print (ax A p) o (suc n) h r g = next-back (read n) p (read-print p o.1 n (omega arith)) ax A o.0 r g
    read-print (eu A p q) o zero h r g = absurd (omega arith)
    read-print (eu A p q) o (suc n) h r g = path-back (read n) p q (read-print p o.1 n (omega arith)) (read-print q o.2 n (omega arith)) eu er A 85 refl o.0 r
    read-print (au A p q) o zero h r g = absurd (omega arith)
    read-print (au A p q) o (suc n) h r g = path-back (read n) p q (read-print p o.1 n (omega arith)) (read-print q o.2 n (omega arith)) au ar A 85 refl o.0 r
    read-print (er A p q) o zero h r g = absurd (omega arith)
    read-print (er A p q) o (suc n) h r g = path-back (read n) p q (read-print p o.1 n (omega arith)) (read-print q o.2 n (omega arith)) eu er A 82 refl o.0 r
    read-print (ar A p q) o zero h r g = absurd (omega arith)
    read-print (ar A p q) o (suc n) h r g = path-back (read n) p q (read-print p o.1 n (omega arith)) (read-print q o.2 n (omega arith)) au ar A 82 refl o.0 r

    -- different formulas have different prints
    pub print-injective : (p q : Form) → Over count p → Over count q → print spell p ≡ print spell q → p ≡ q
    print-injective p q op oq e =
        let a = read-print p op (size p + size q) (omega arith) [] refl in
        let b = read-print q oq (size p + size q) (omega arith) [] refl in
        ap (λ z. z.0) (sym a ∙ ap (λ l. read (size p + size q) (l ++ [])) e ∙ b)

-- The bytes of a canonical print are printable, and no space or newline is among them. Assumes nothing.
use mathlib.Core.Path.{◌≡◌, refl, sym, subst}
use mathlib.Core.Bool.{false}
use mathlib.Core.Logic.{◌⊎◌, inl, inr}
use mathlib.Core.List.Memᴰ
use mathlib.Core.List.{List, [], ◌∷◌, ◌++◌}
use Prim.Native.Nat.{ℕ, ◌-◌, ◌≤◌, ◌<◌}
use native.Mathlib.Omega.{arith}
use borrow.Author.Tests.{ne_eqb, le-leb}
use Rattle.ctl.specs.Lists.{◌∈◌}
use Rattle.ctl.specs.Formula.{Form, tru, fls, lit, nlit, and, or, ex, ax, eu, au, er, ar}
use Rattle.ctl.specs.Modes.{modes}
use Rattle.ctl.specs.Print.{capital, print_mode, print_modes, braces, print}
use Rattle.ctl.specs.Alphabet.{Spelling, Alphabet, Declared, DeclaredAll, Over}
use Rattle.ctl.proofs.PrintLaws.{forward-is, backward-is}
use Rattle.layout.specs.Text.{has}
use Rattle.layout.specs.Layout.{newline, byte_wrong}

abbrev pub Printed : List ℕ → Type 0
Printed w = (b : ℕ) → b ∈ w → (33 ≤ b) × (b ≤ 125)

-- ---- such a text has no newline, and no byte that is wrong

pub printed-free : (w : List ℕ) → Printed w → has newline w ≡ false
unfolding has
printed-free [] f = refl
printed-free (c ∷ w) f = let h = f c (Memᴰ.head refl) in rw (ne_eqb c newline (λ e. omega arith), printed-free w (λ b m. f b (Memᴰ.tail m)))

pub printed-right : (w : List ℕ) → Printed w → byte_wrong w ≡ false
unfolding byte_wrong
printed-right [] f = refl
printed-right (c ∷ w) f =
    let h = f c (Memᴰ.head refl) in
    rw (ne_eqb c newline (λ e. omega arith), le-leb 32 c (omega arith), le-leb c 126 (omega arith), printed-right w (λ b m. f b (Memᴰ.tail m)))

-- ---- texts put together

none : Printed []
none b m = absurd (Memᴰ.not-nil m)

before : (c : ℕ) {w : List ℕ} → (33 ≤ c) × (c ≤ 125) → Printed w → Printed (c ∷ w)
before c {w} h f b m = go (Memᴰ.cases_cons m)
  where
    go : (b ≡ c) ⊎ (b ∈ w) → (33 ≤ b) × (b ≤ 125)
    go (inl e) = omega arith
    go (inr i) = f b i

joined : (v : List ℕ) {w : List ℕ} → Printed v → Printed w → Printed (v ++ w)
joined v {w} f g b m = go (Memᴰ.append_cases v m)
  where
    go : (b ∈ v) ⊎ (b ∈ w) → (33 ≤ b) × (b ≤ 125)
    go (inl i) = f b i
    go (inr i) = g b i

-- two operands with a byte between, and a closing bracket
pair : (v : List ℕ) {w : List ℕ} (c : ℕ) → (33 ≤ c) × (c ≤ 125) → Printed v → Printed w → Printed (v ++ (c ∷ (w ++ (41 ∷ []))))
pair v {w} c h f g = joined v f (before c h (joined w g (before 41 (omega arith) none)))

capital-printed : (w : List ℕ) → Spelling w → Printed (capital w)
unfolding capital
capital-printed [] s = none
capital-printed (c ∷ w) s = let h = s.letters c (Memᴰ.head refl) in before (c - 32) (omega arith) (λ b m. (let k = s.letters b (Memᴰ.tail m) in omega arith))

-- ---- prints
module _ (at : ℕ → List ℕ) (count : ℕ) (alpha : Alphabet at count) where
  spelling-printed : (k : ℕ) → k < count → Printed (at k)
  spelling-printed k o b m = let h = (alpha.spelled k o).letters b m in omega arith

  mode-printed : (m : ℕ) → Declared count m → Printed (print_mode at m)
  mode-printed m (inl h) = let k = alpha.few in subst Printed (sym (forward-is at m (omega arith))) (spelling-printed m h)
  mode-printed m (inr h) = subst Printed (sym (backward-is at m h.0)) (capital-printed (at (m - 8)) (alpha.spelled (m - 8) (omega arith)))

  modes-printed : (ms : List ℕ) → ((m : ℕ) → m ∈ ms → Declared count m) → Printed (print_modes at ms)
  unfolding print_modes
  modes-printed [] d = none
  modes-printed (m ∷ []) d = mode-printed m (d m (Memᴰ.head refl))
  modes-printed (m ∷ (k ∷ r)) d = joined (print_mode at m) (mode-printed m (d m (Memᴰ.head refl))) (before 44 (omega arith) (modes-printed (k ∷ r) (λ a i. d a (Memᴰ.tail i))))

  braces-printed : (A : ℕ) → DeclaredAll count A → Printed (braces at A)
  unfolding braces
  braces-printed A d = before 123 (omega arith) (joined (print_modes at (modes A)) (modes-printed (modes A) d.1) (before 125 (omega arith) none))

  -- a path operator between two operands, in brackets behind its braces
  path-printed : (A c : ℕ) (v : List ℕ) {w : List ℕ} → DeclaredAll count A → (33 ≤ c) × (c ≤ 125) → Printed v → Printed w → Printed (braces at A ++ (40 ∷ (v ++ (c ∷ (w ++ (41 ∷ []))))))
  path-printed A c v d h f g = joined (braces at A) (braces-printed A d) (before 40 (omega arith) (pair v c h f g))

  pub print-bytes : (φ : Form) → Over count φ → (b : ℕ) → b ∈ print at φ → (33 ≤ b) × (b ≤ 125)
  unfolding print
  print-bytes tru o = before 49 (omega arith) none
  print-bytes fls o = before 48 (omega arith) none
  print-bytes (lit k) o = spelling-printed k o
  print-bytes (nlit k) o = before 33 (omega arith) (spelling-printed k o)
  print-bytes (and p q) o = before 40 (omega arith) (pair (print at p) 38 (omega arith) (print-bytes p o.0) (print-bytes q o.1))
  print-bytes (or p q) o = before 40 (omega arith) (pair (print at p) 124 (omega arith) (print-bytes p o.0) (print-bytes q o.1))
  print-bytes (ex A p) o = before 69 (omega arith) (before 88 (omega arith) (joined (braces at A) (braces-printed A o.0) (print-bytes p o.1)))
  print-bytes (ax A p) o = before 65 (omega arith) (before 88 (omega arith) (joined (braces at A) (braces-printed A o.0) (print-bytes p o.1)))
  print-bytes (eu A p q) o = before 69 (omega arith) (path-printed A 85 (print at p) o.0 (omega arith) (print-bytes p o.1) (print-bytes q o.2))
  print-bytes (au A p q) o = before 65 (omega arith) (path-printed A 85 (print at p) o.0 (omega arith) (print-bytes p o.1) (print-bytes q o.2))
  print-bytes (er A p q) o = before 69 (omega arith) (path-printed A 82 (print at p) o.0 (omega arith) (print-bytes p o.1) (print-bytes q o.2))
  print-bytes (ar A p q) o = before 65 (omega arith) (path-printed A 82 (print at p) o.0 (omega arith) (print-bytes p o.1) (print-bytes q o.2))

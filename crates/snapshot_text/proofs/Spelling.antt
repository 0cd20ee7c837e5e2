-- The texts of entries and lines, as they grow at their end. Assumes nothing.
use Prim.Native.Nat.{ℕ, zero, suc, ◌+◌, ◌*◌, ◌/◌, ◌%◌, ◌≤◌, ◌<◌}
use native.Mathlib.Omega.{arith}
use mathlib.Core.Path.{◌≡◌, refl, sym, ap, ap₂, ◌∙◌}
use mathlib.Core.Bool.{cond}
use mathlib.Core.List.{List, [], ◌∷◌, ◌++◌, append_assoc, append-nil}
use borrow.Author.Tests.{lt-ltb, le-ltb}
use Rattle.snapshot_text.specs.Text.{decimal, line_text, lines_text}
use Rattle.snapshot_text.proofs.Listed.{listed}

-- the first k entries of a line, each with a space
unfoldable pub parts : ℕ → (ℕ → ℕ) → List ℕ
parts zero f = []
parts (suc k) f = decimal (f 0) ++ (32 ∷ parts k (λ j. f (suc j)))

pub parts_more : (k : ℕ) (f : ℕ → ℕ) → parts (suc k) f ≡ parts k f ++ (decimal (f k) ++ (32 ∷ []))
unfolding parts
parts_more zero f = refl
parts_more (suc k) f =
    ap (λ l. decimal (f 0) ++ (32 ∷ l)) (parts_more k (λ j. f (suc j)))
    ∙ sym (append_assoc (decimal (f 0)) (32 ∷ parts k (λ j. f (suc j))) (decimal (f (suc k)) ++ (32 ∷ [])))

pub parts_same : (k : ℕ) (f g : ℕ → ℕ) → ((j : ℕ) → j < k → f j ≡ g j) → parts k f ≡ parts k g
unfolding parts
parts_same zero f g h = refl
parts_same (suc k) f g h = ap₂ (λ v l. decimal v ++ (32 ∷ l)) (h 0 (omega arith)) (parts_same k (λ j. f (suc j)) (λ j. g (suc j)) (λ j l. h (suc j) (omega arith)))

-- a whole line
pub line-parts : (k : ℕ) (f : ℕ → ℕ) → line_text (listed (suc k) f) ≡ parts k f ++ (decimal (f k) ++ (10 ∷ []))
unfolding parts line_text listed
line-parts zero f = refl
line-parts (suc k) f =
    ap (λ l. decimal (f 0) ++ (32 ∷ l)) (line-parts k (λ j. f (suc j)))
    ∙ sym (append_assoc (decimal (f 0)) (32 ∷ parts k (λ j. f (suc j))) (decimal (f (suc k)) ++ (10 ∷ [])))

pub lines_more : (n : ℕ) (g : ℕ → List ℕ) → lines_text (listed (suc n) g) ≡ lines_text (listed n g) ++ line_text (g n)
unfolding listed lines_text
lines_more zero g = append-nil (line_text (g 0))
lines_more (suc n) g =
    ap (λ l. line_text (g 0) ++ l) (lines_more n (λ i. g (suc i)))
    ∙ sym (append_assoc (line_text (g 0)) (lines_text (listed n (λ i. g (suc i)))) (line_text (g (suc n))))

pub decimal-one : (v : ℕ) → v < 10 → decimal v ≡ (48 + v) ∷ []
unfolding decimal
decimal-one v h = ap (λ b. cond b ((48 + v) ∷ []) ((48 + v / 10) ∷ (48 + v % 10) ∷ [])) (lt-ltb v 10 h)

pub decimal-two : (v d : ℕ) → 1 ≤ v → d < 10 → decimal (v * 10 + d) ≡ (48 + v) ∷ (48 + d) ∷ []
unfolding decimal
decimal-two v d h l =
    let w : ℕ = v * 10 + d in
    let a : (v * 10 + d) / 10 ≡ v = omega arith in
    let b : (v * 10 + d) % 10 ≡ d = omega arith in
    ap (λ b. cond b ((48 + w) ∷ []) ((48 + w / 10) ∷ (48 + w % 10) ∷ [])) (le-ltb w 10 (omega arith)) ∙ ap₂ (λ (x y : ℕ). (48 + x) ∷ (48 + y) ∷ []) a b

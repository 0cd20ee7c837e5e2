-- Members of a table through their words. Assumes nothing.
use mathlib.Core.Path.{◌≡◌, refl, sym, ap, ap₂, ◌∙◌}
use mathlib.Core.List.{map, List, [], ◌∷◌, ◌++◌}
use mathlib.Core.Bool.{Bool}
use Prim.Native.Nat.{ℕ, zero, suc, ◌+◌, ◌≤◌, ◌<◌}
use native.Mathlib.Omega.{arith}
use lib.ListN.{length, get_or, length-append, get_or-append}
use lib.Seq.{get_or-append_seam}
use Rattle.ctl.specs.Lists as L
use Rattle.ctl.specs.Formula.{Form, tru}
use Rattle.ctl.specs.Equality.{tag}
use Rattle.wordset.specs.Below.{all_below}
use Rattle.members.specs.Members.{arg_w, form_by, form_of, forms, forms_from, left_w, right_w, tag_w}
use Rattle.truth.specs.Tables.{Table, arg_at, form, left_at, right_at, tag_at}
use Rattle.truth.proofs.ListWords.{all_list}

-- ---- member i through its word

from-length : (acc : List Form) (ws : List ℕ) → length (forms_from acc ws) ≡ length acc + length ws
unfolding forms_from
from-length acc [] = omega arith
from-length acc (x ∷ xs) = from-length (acc ++ (form_of acc x ∷ [])) xs ∙ (let h = length-append acc (form_of acc x ∷ []) in omega arith)

pub forms-length : (ws : List ℕ) → length (forms ws) ≡ length ws
unfolding forms
forms-length ws = from-length [] ws ∙ (omega arith)

from-early : (acc : List Form) (ws : List ℕ) (i : ℕ) → i < length acc → get_or (forms_from acc ws) i tru ≡ get_or acc i tru
unfolding forms_from
from-early acc [] i h = refl
from-early acc (x ∷ xs) i h =
    from-early (acc ++ (form_of acc x ∷ [])) xs i (let k = length-append acc (form_of acc x ∷ []) in omega arith)
    ∙ get_or-append acc (form_of acc x ∷ []) tru i h

-- tags below 4 have no operands
form_by-bare : (k n : ℕ) (p q p' q' : Form) → k < 4 → form_by k n p q ≡ form_by k n p' q'
form_by-bare zero n p q p' q' h = refl
form_by-bare (suc zero) n p q p' q' h = refl
form_by-bare (suc (suc zero)) n p q p' q' h = refl
form_by-bare (suc (suc (suc zero))) n p q p' q' h = refl
form_by-bare (suc (suc (suc (suc k)))) n p q p' q' h = absurd (omega arith)

from_at : (acc : List Form) (ws : List ℕ) (i : ℕ) → i < length ws
    → ((i : ℕ) → i < length ws → 4 ≤ tag_at ws i → (left_at ws i < length acc + i) × (right_at ws i < length acc + i))
    → get_or (forms_from acc ws) (length acc + i) tru ≡ form_of (forms_from acc ws) (get_or ws i 0)
unfolding forms_from form_of
from_at acc [] i h f = absurd (omega arith)
from_at acc (x ∷ xs) zero h f =
    let e : length acc + 0 ≡ length acc = omega arith in
    let l : length acc < length (acc ++ (form_of acc x ∷ [])) = (let k = length-append acc (form_of acc x ∷ []) in omega arith) in
    ap (λ (j : ℕ). get_or (forms_from (acc ++ (form_of acc x ∷ [])) xs) j tru) e
    ∙ from-early (acc ++ (form_of acc x ∷ [])) xs (length acc) l
    ∙ get_or-append_seam acc (form_of acc x) [] tru
    ∙ go (tag_w x) refl
  where
    same : (j : ℕ) → j < length acc → get_or acc j tru ≡ get_or (forms_from acc (x ∷ xs)) j tru
    same j l = sym (from-early acc (x ∷ xs) j l)

    late : 4 ≤ tag_w x → form_of acc x ≡ form_of (forms_from acc (x ∷ xs)) x
    late g =
        let o = f 0 (omega arith) g in
        let l0 = o.0 in
        let l1 = o.1 in
        ap₂ (form_by (tag_w x) (arg_w x)) (same (left_w x) (omega arith)) (same (right_w x) (omega arith))

    early : tag_w x < 4 → form_of acc x ≡ form_of (forms_from acc (x ∷ xs)) x
    early g = form_by-bare (tag_w x) (arg_w x) _ _ _ _ g

    go : (k : ℕ) → tag_w x ≡ k → form_of acc x ≡ form_of (forms_from acc (x ∷ xs)) x
    go zero e = early (omega arith)
    go (suc zero) e = early (omega arith)
    go (suc (suc zero)) e = early (omega arith)
    go (suc (suc (suc zero))) e = early (omega arith)
    go (suc (suc (suc (suc k)))) e = late (omega arith)
from_at acc (x ∷ xs) (suc i) h f =
    let k : length (acc ++ (form_of acc x ∷ [])) ≡ length acc + 1 = length-append acc (form_of acc x ∷ []) in
    let e : length acc + suc i ≡ length (acc ++ (form_of acc x ∷ [])) + i = omega arith in
    ap (λ (j : ℕ). get_or (forms_from (acc ++ (form_of acc x ∷ [])) xs) j tru) e
    ∙ from_at (acc ++ (form_of acc x ∷ [])) xs i (omega arith)
    (λ j l g. (let o = f (suc j) (omega arith) g in let l0 = o.0 in let l1 = o.1 in (omega arith, omega arith)))

pub form-at : {ws : List ℕ} → Table ws → (i : ℕ) → i < length ws
    → form ws i ≡ form_by (tag_at ws i) (arg_at ws i) (form ws (left_at ws i)) (form ws (right_at ws i))
unfolding form forms form_of
form-at {ws} t i h =
    let e : i ≡ 0 + i = omega arith in
    ap (λ (j : ℕ). get_or (forms_from [] ws) j tru) e
    ∙ from_at [] ws i h (λ j l g. (let o = t.operands j l g in let l0 = o.0 in let l1 = o.1 in (omega arith, omega arith)))

-- operands are members
module _ {ms : List ℕ} (t : Table ms) (i : ℕ) (h : i < length ms) (g : 4 ≤ tag_at ms i) where
  pub left_in : left_at ms i < length ms
  left_in = let o = t.operands i h g in let l = o.0 in omega arith

  pub right-in : right_at ms i < length ms
  right-in = let o = t.operands i h g in let l = o.1 in omega arith

  pub left_is : {j : ℕ} → j ≡ left_at ms i → j < length ms
  left_is e = let l = left_in in omega arith

  pub right_is : {j : ℕ} → j ≡ right_at ms i → j < length ms
  right_is e = let l = right-in in omega arith

-- ---- by tags

pub form-tag : {ws : List ℕ} → Table ws → (i : ℕ) → i < length ws → (k : ℕ) → tag_at ws i ≡ k
    → form ws i ≡ form_by k (arg_at ws i) (form ws (left_at ws i)) (form ws (right_at ws i))
form-tag {ws} t i h k e = form-at t i h ∙ ap (λ j. form_by j (arg_at ws i) (form ws (left_at ws i)) (form ws (right_at ws i))) e

form_by-tag : (k n : ℕ) (p q : Form) → k < 12 → tag (form_by k n p q) ≡ k
form_by-tag zero n p q h = refl
form_by-tag (suc zero) n p q h = refl
form_by-tag (suc (suc zero)) n p q h = refl
form_by-tag (suc (suc (suc zero))) n p q h = refl
form_by-tag (suc (suc (suc (suc zero)))) n p q h = refl
form_by-tag (suc (suc (suc (suc (suc zero))))) n p q h = refl
form_by-tag (suc (suc (suc (suc (suc (suc zero)))))) n p q h = refl
form_by-tag (suc (suc (suc (suc (suc (suc (suc zero))))))) n p q h = refl
form_by-tag (suc (suc (suc (suc (suc (suc (suc (suc zero)))))))) n p q h = refl
form_by-tag (suc (suc (suc (suc (suc (suc (suc (suc (suc zero))))))))) n p q h = refl
form_by-tag (suc (suc (suc (suc (suc (suc (suc (suc (suc (suc zero)))))))))) n p q h = refl
form_by-tag (suc (suc (suc (suc (suc (suc (suc (suc (suc (suc (suc zero))))))))))) n p q h = refl
form_by-tag (suc (suc (suc (suc (suc (suc (suc (suc (suc (suc (suc (suc k)))))))))))) n p q h = absurd (omega arith)

pub tag_of : {ws : List ℕ} → Table ws → (i : ℕ) → i < length ws → tag (form ws i) ≡ tag_at ws i
tag_of {ws} t i h = ap tag (form-at t i h) ∙ form_by-tag (tag_at ws i) (arg_at ws i) _ _ (t.tags i h)

-- b denotes the formula p: the member that is p, if any, is b
pub record Denotes (ws : List ℕ) (b : ℕ) (p : Form) : Type 0 where
  pub only : (l : ℕ) → l < length ws → form ws l ≡ p → l ≡ b
  pub is : b < length ws → form ws b ≡ p

pub denotes-own : {ws : List ℕ} → Table ws → (b : ℕ) → b < length ws → Denotes ws b (form ws b)
denotes-own t b h = record { only = λ l k e. t.distinct l b k h e; is = λ k. refl }

-- ---- all members

map-self : (l : List Form) → map (λ p. p) l ≡ l
map-self [] = refl
map-self (p ∷ l) = ap (λ k. p ∷ k) (map-self l)

pub all-forms : (ms : List ℕ) (P : Form → Bool) → all_below (length ms) (λ i. P (form ms i)) ≡ L.all_of P (forms ms)
unfolding form
all-forms ms P = ap (λ n. all_below n (λ i. P (get_or (forms ms) i tru))) (sym (forms-length ms)) ∙ all_list P (λ p. p) tru (forms ms) ∙ ap (L.all_of P) (map-self (forms ms))

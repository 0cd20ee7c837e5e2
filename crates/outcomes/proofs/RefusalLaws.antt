-- The lowest of several refusals, and the answer and the stores that a refusal comes with. Assumes nothing.
use mathlib.Core.Path.{◌≡◌, refl, sym, ap, ◌∙◌}
use mathlib.Core.Bool.{cond}
use mathlib.Core.List.{List}
use mathlib.Core.Logic.{◌⊎◌, inl, inr}
use Prim.Native.Nat.{ℕ, zero, suc, ◌≤◌, ◌<◌}
use native.Mathlib.Omega.{arith}
use Rattle.std.specs.Prelude.{Result, Err}
use borrow.Author.Tests.{eq-eqb, lt-ltb, ne_eqb}
use Rattle.wordset.proofs.BelowLaws.{lt-or-le}
use Rattle.refusal.specs.declared.Refusal.{Refusal}
use Rattle.refusal.specs.Number.{number_of, refusal_by}
use Rattle.refusal.proofs.NumberLaws.{number-some, refusal-by-number}
use Rattle.limits.specs.declared.Limits.{Limits}
use Rattle.limits.specs.Limits.{refusal_under}
use Rattle.outcomes.specs.Outcomes.{naming_refusal, or_else, store_refusal, table_refusal}
use Rattle.fitted.specs.Accepted.{namings_in}
use Rattle.prepare.specs.Width.{words_for}

-- ---- a number, or the next

pub else-next : (k l : ℕ) → k ≡ 0 → or_else k l ≡ l
else-next k l e = ap (λ b. cond b l k) (eq-eqb k 0 e)

pub else-first : (k l : ℕ) → (k ≡ 0 → ⊥) → or_else k l ≡ k
else-first k l n = ap (λ b. cond b l k) (ne_eqb k 0 n)

pub else-none : (k l : ℕ) → or_else k l ≡ 0 → (k ≡ 0) × (l ≡ 0)
else-none zero l e = (refl, e)
else-none (suc k) l e = let i : suc k ≡ 0 = sym (else-first (suc k) l (λ h. omega arith)) ∙ e in absurd (omega arith)

-- the sheet's refusal is the operation's
pub sheet-first : (e : Refusal) {k : ℕ} (l : ℕ) → number_of e ≡ k → number_of e ≡ or_else k l
sheet-first e {k} l i = i ∙ sym (else-first k l (λ h. number-some e (i ∙ h)))

-- ---- what a refusal comes with

-- two answers or two stores that agree on every number but 0 agree on a refusal's
pub refused-case : {A : Type 0} (f g : ℕ → A) → ((k : ℕ) → f (suc k) ≡ g (suc k)) → (k : ℕ) → (k ≡ 0 → ⊥) → f k ≡ g k
refused-case f g h zero n = absurd (n refl)
refused-case f g h (suc k) n = h k

module _ (e : Refusal) {k : ℕ} (i : number_of e ≡ k) where
  -- its answer, of answers by number
  pub refused-answer : {A : Type 0} (f : ℕ → Result A Refusal) → ((q : ℕ) → f (suc q) ≡ Err (refusal_by (suc q))) → Err e ≡ f k
  refused-answer f h = ap Err (sym (refusal-by-number e)) ∙ refused-case (λ q. Err (refusal_by q)) f (λ q. sym (h q)) (number_of e) (number-some e) ∙ ap f i

  -- its store, of stores by number
  pub refused-store : {A : Type 0} (d : A) (f : ℕ → A) → ((q : ℕ) → f (suc q) ≡ d) → d ≡ f k
  refused-store d f h = refused-case (λ q. d) f (λ q. sym (h q)) (number_of e) (number-some e) ∙ ap f i

-- ---- where nothing applies

pub store-none : (n l : ℕ) → store_refusal n l ≡ 0 → n ≤ l
store-none n l e = go (lt-or-le l n)
  where
    go : (l < n) ⊎ (n ≤ l) → n ≤ l
    go (inl h) = let i : ◌≡◌ {A = ℕ} 0 12 = sym e ∙ ap (λ b. cond b 12 0) (lt-ltb l n h) in absurd (omega arith)
    go (inr h) = h

-- to Table
pub table_none : (L : Limits) (s : List ℕ) (r a b : ℕ) → table_refusal L s r a b ≡ 0 → (refusal_under L s ≡ 0) × ((words_for L.lean ≤ a) × (words_for L.lean ≤ b))
unfolding table_refusal
table_none L s r a b e =
    let w = words_for L.lean in
    let i = else-none (refusal_under L s) (or_else (naming_refusal (namings_in s) r) (or_else (store_refusal w a) (store_refusal w b))) e in
    let j = else-none (naming_refusal (namings_in s) r) (or_else (store_refusal w a) (store_refusal w b)) i.1 in
    let k = else-none (store_refusal w a) (store_refusal w b) j.1 in
    (i.0, (store-none w a k.0, store-none w b k.1))

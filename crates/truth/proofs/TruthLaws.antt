-- Truth of the members in a type is what the code computes of their words. Assumes nothing.
use mathlib.Core.Path.{◌≡◌, refl, sym, ap, ap₂, ◌∙◌, subst}
use mathlib.Core.Bool.{Bool, true, false, not, ◌&&◌, cond, ◌||◌}
use mathlib.Core.List.{List, [], ◌∷◌}
use Prim.Native.Nat.{ℕ, suc, ◌*◌, ◌^◌, ◌≤◌, ◌<◌}
use native.Mathlib.Omega.{arith}
use lib.Dec.{T, eqb, eqb→eq}
use lib.ListN.{length, get_or}
use borrow.Author.Tests.{eq-eqb, eqb-true}
use Rattle.ctl.proofs.BoolLaws.{T_true, and_0, and-1, both_ways}
use Rattle.ctl.proofs.FormulaLaws.{form_eq-out, form_eq-refl}
use Rattle.ctl.specs.Equality.{form_eq, tag}
use Rattle.ctl.specs.Formula.{Form, ax, ex, fls, lit, tru}
use Rattle.ctl.specs.Modes.{has_mode}
use Rattle.ctl.specs.Types.{ax_every, ex_some, holds, in_type, index_of, truth}
use Rattle.wordset.proofs.BelowLaws.{any-ext, any-intro, least-holds, least-le, least_lt, least-suc, least_zero}
use Rattle.wordset.specs.Below.{any_below, least}
use Rattle.members.specs.Members.{arg_w, form_by, left_w, tag_w}
use Rattle.truth.specs.Tables.{Leans, Table, arg_at, form, lean_forms, left_at, right_at, tag_at}
use Rattle.truth.specs.Blocks.{has, turned}
use Rattle.truth.specs.Truths.{Tr, Truths, modal, next_tag, nexts, place_of, plain, true_at}
use Rattle.truth.proofs.MemberLaws.{Denotes, denotes-own, form-tag, left_in, tag_of}
use Rattle.truth.proofs.BlockLaws.{block-has}
use Rattle.members.proofs.ModeLaws.{every-all, some-any}

-- ---- a word of a tag, a number and a left operand

modal-in : (x g a b : ℕ) → tag_w x ≡ g → arg_w x ≡ a → left_w x ≡ b → T (modal x g a b)
unfolding modal
modal-in x g a b e f l = T_true _ (ap₂ ◌&&◌ (eq-eqb _ _ e) (ap₂ ◌&&◌ (eq-eqb _ _ f) (eq-eqb _ _ l)))

modal-out : (x g a b : ℕ) → T (modal x g a b) → (tag_w x ≡ g) × (arg_w x ≡ a) × (left_w x ≡ b)
unfolding modal
modal-out x g a b m =
    let u = and-1 (eqb (tag_w x) g) (eqb (arg_w x) a && eqb (left_w x) b) m in
    (eqb→eq _ _ (and_0 (eqb (tag_w x) g) _ m), eqb→eq _ _ (and_0 (eqb (arg_w x) a) _ u), eqb→eq _ _ (and-1 (eqb (arg_w x) a) _ u))

-- ---- EX and AX: n is true for AX

abbrev next_form : Bool → ℕ → Form → Form
next_form false = ex
next_form true = ax

next-tag : (n : Bool) (a : ℕ) (p : Form) → tag (next_form n a p) ≡ next_tag n
next-tag false a p = refl
next-tag true a p = refl

next-big : (n : Bool) → 4 ≤ next_tag n
next-big false = omega arith
next-big true = omega arith

next-same : (n : Bool) (a b : ℕ) (p q : Form) → next_form n a p ≡ next_form n b q → (a ≡ b) × (p ≡ q)
next-same false a b p q e = (cc, cc)
next-same true a b p q e = (cc, cc)

module _ {ms : List ℕ} (t : Table ms) where
  next-at : (n : Bool) (j : ℕ) → j < length ms → tag_at ms j ≡ next_tag n → form ms j ≡ next_form n (arg_at ms j) (form ms (left_at ms j))
  next-at false j h e = form-tag t j h 6 e
  next-at true j h e = form-tag t j h 7 e

  -- ---- places

  -- the first place that passes a test which says that the place's member is p
  least-index : (p : Form) (ln : List ℕ) (P : ℕ → Bool) → ((k : ℕ) → k < length ln → form_eq (form ms (get_or ln k 0)) p ≡ P k) → least (length ln) P ≡ index_of p (lean_forms ms ln)
  unfolding index_of lean_forms
  least-index p [] P f = least_zero P
  least-index p (j ∷ ln) P f = least-suc (length ln) P ∙ go (P 0) (form_eq (form ms j) p) (f 0 (omega arith)) (least-index p ln (λ k. P (suc k)) (λ k h. f (suc k) (omega arith)))
    where
      go : (s u : Bool) → u ≡ s → least (length ln) (λ k. P (suc k)) ≡ index_of p (lean_forms ms ln)
          → cond s 0 (suc (least (length ln) (λ k. P (suc k)))) ≡ (elim u as (λ c. ℕ) [ true ↦ 0 | false ↦ suc (index_of p (lean_forms ms ln)) ])
      go true true e ih = refl
      go true false e ih = absurd (let z : T false = subst T (sym e) tt in z)
      go false true e ih = absurd (let z : T false = subst T e tt in z)
      go false false e ih = ap suc ih

  module _ (ln : List ℕ) (le : Leans ms ln) where
    place_is : (g a b : ℕ) (p : Form) → ((j : ℕ) → j < length ms → form ms j ≡ p → T (modal (get_or ms j 0) g a b)) → ((j : ℕ) → j < length ms → T (modal (get_or ms j 0) g a b) → form ms j ≡ p)
        → place_of ms ln g a b ≡ index_of p (lean_forms ms ln)
    unfolding place_of
    place_is g a b p back on =
        least-index p ln (λ k. modal (get_or ms (get_or ln k 0) 0) g a b)
        (λ k h. (let j = get_or ln k 0 in let i = le.inside k h in
        both_ways _ _ (λ m. back j i (form_eq-out (form ms j) p m)) (λ m. subst (λ q. T (form_eq (form ms j) q)) (on j i m) (form_eq-refl (form ms j)))))

    pub place-next : (n : Bool) (a b : ℕ) (p : Form) → Denotes ms b p → place_of ms ln (next_tag n) a b ≡ index_of (next_form n a p) (lean_forms ms ln)
    place-next n a b p s =
        place_is (next_tag n) a b (next_form n a p)
        (λ j h e. (let g = sym (tag_of t j h) ∙ ap tag e ∙ next-tag n a p in let k = next-big n in
        let same = next-same n _ _ _ _ (sym (next-at n j h g) ∙ e) in
        modal-in (get_or ms j 0) (next_tag n) a b g same.0 (s.only (left_at ms j) (left_in t j h (omega arith)) same.1)))
        (λ j h m. (let e = modal-out (get_or ms j 0) (next_tag n) a b m in let g : tag_at ms j ≡ next_tag n = e.0 in let k = next-big n in
        let l : left_at ms j ≡ b = e.2 in let i = left_in t j h (omega arith) in
        next-at n j h g ∙ ap₂ (next_form n) e.1 (ap (form ms) l ∙ s.is (omega arith))))

    pub place-lit : (a : ℕ) → place_of ms ln 2 a 0 ≡ index_of (lit a) (lean_forms ms ln)
    place-lit a =
        place_is 2 a 0 (lit a)
        (λ j h e. (let g : tag_at ms j ≡ 2 = sym (tag_of t j h) ∙ ap tag e in let f = form-tag t j h 2 g in let ea : arg_at ms j ≡ a = cc in
        modal-in (get_or ms j 0) 2 a 0 g ea (t.bare j h (omega arith))))
        (λ j h m. (let e = modal-out (get_or ms j 0) 2 a 0 m in form-tag t j h 2 e.0 ∙ ap lit e.1))

pub place-small : {ms ln : List ℕ} → Leans ms ln → (g a b : ℕ) → {r : ℕ} → r ≡ place_of ms ln g a b → r ≤ 60
unfolding place_of
place-small {ms} {ln} l g a b e = let k = least-le (length ln) (λ k. modal (get_or ms (get_or ln k 0) 0) g a b) in let s = l.short in omega arith

-- ---- several modes

module _ {ms ln : List ℕ} (t : Table ms) (le : Leans ms ln) where
  abbrev at_place : Bool → ℕ → Form → ℕ → ℕ → Bool
  at_place n u p a m = has_mode a m && turned n (in_type u (index_of (next_form n (2 ^ m) p) (lean_forms ms ln)))

  nexts-at : (n : Bool) (a b : ℕ) (p : Form) → Denotes ms b p → (u : ℕ) → nexts ms ln n a b u ≡ turned n (any_below 16 (at_place n u p a))
  unfolding nexts
  nexts-at n a b p s u =
      ap (turned n) (any-ext (λ m. has_mode a m && turned n (in_type u (place_of ms ln (next_tag n) (2 ^ m) b))) (at_place n u p a) 16
      (λ m h. ap (λ k. has_mode a m && turned n (in_type u k)) (place-next t ln le n (2 ^ m) b p s)))

  some-ex : (a b : ℕ) (p : Form) → Denotes ms b p → (u : ℕ) → nexts ms ln false a b u ≡ ex_some (lean_forms ms ln) u a p
  unfolding ex_some holds
  some-ex a b p s u = nexts-at false a b p s u ∙ some-any (λ m. in_type u (index_of (ex (2 ^ m) p) (lean_forms ms ln))) a

  every-ax : (a b : ℕ) (p : Form) → Denotes ms b p → (u : ℕ) → nexts ms ln true a b u ≡ ax_every (lean_forms ms ln) u a p
  unfolding ax_every holds
  every-ax a b p s u = nexts-at true a b p s u ∙ every-all (λ m. in_type u (index_of (ax (2 ^ m) p) (lean_forms ms ln))) a

-- the first member of tag 0 denotes 1, that of tag 1 denotes 0
module _ {ms : List ℕ} (t : Table ms) where
  plain-found : (g i : ℕ) → i < length ms → tag_at ms i ≡ g → plain ms g < length ms
  unfolding plain
  plain-found g i h e = least_lt (length ms) (λ i. eqb (tag_at ms i) g) (any-intro (λ i. eqb (tag_at ms i) g) (length ms) i h (eq-eqb _ _ e))

  plain-tag : (g : ℕ) → plain ms g < length ms → tag_at ms (plain ms g) ≡ g
  unfolding plain
  plain-tag g h = eqb-true _ _ (least-holds (length ms) (λ i. eqb (tag_at ms i) g) h)

  denotes-plain : (g : ℕ) (p : Form) → tag p ≡ g → ((i : ℕ) → i < length ms → tag_at ms i ≡ g → form ms i ≡ p) → Denotes ms (plain ms g) p
  denotes-plain g p e f = record {
    only = λ l h q. (let tg : tag_at ms l ≡ g = sym (tag_of t l h) ∙ ap tag q ∙ e in let k = plain-found g l h tg in t.distinct l (plain ms g) h k (q ∙ sym (f (plain ms g) k (plain-tag g k))));
    is = λ h. f (plain ms g) h (plain-tag g h);
  }

  pub denotes-tru : Denotes ms (plain ms 0) tru
  denotes-tru = denotes-plain 0 tru refl (λ i h e. form-tag t i h 0 e)

  pub denotes-fls : Denotes ms (plain ms 1) fls
  denotes-fls = denotes-plain 1 fls refl (λ i h e. form-tag t i h 1 e)

-- ---- truth of member i by its tag

module _ {ms ln : List ℕ} (t : Table ms) (le : Leans ms ln) (i : ℕ) (h : i < length ms) (u : ℕ) where
  -- the truth of member j, and the modes of member i with the body b
  abbrev tr : ℕ → Bool
  tr j = true_at ms ln j u

  abbrev next : Bool → ℕ → Bool
  next n b = nexts ms ln n (arg_at ms i) b u

  by-tag : (k : ℕ) → tag_at ms i ≡ k → Tr ms ln u (form_by k (arg_at ms i) (form ms (left_at ms i)) (form ms (right_at ms i))) ≡ tr i
  by-tag k e = sym (ap (Tr ms ln u) (form-tag t i h k e))

  own : (k : ℕ) → tag_at ms i ≡ k → Denotes ms i (form_by k (arg_at ms i) (form ms (left_at ms i)) (form ms (right_at ms i)))
  own k e = subst (Denotes ms i) (form-tag t i h k e) (denotes-own t i h)

  body : 4 ≤ tag_at ms i → Denotes ms (left_at ms i) (form ms (left_at ms i))
  body g = denotes-own t (left_at ms i) (left_in t i h g)

  pub truth-0 : tag_at ms i ≡ 0 → true ≡ tr i
  unfolding truth
  truth-0 e = by-tag 0 e

  pub truth-1 : tag_at ms i ≡ 1 → false ≡ tr i
  unfolding truth
  truth-1 e = by-tag 1 e

  pub truth-2 : tag_at ms i ≡ 2 → in_type u (place_of ms ln 2 (arg_at ms i) 0) ≡ tr i
  unfolding truth holds
  truth-2 e = ap (in_type u) (place-lit t ln le (arg_at ms i)) ∙ by-tag 2 e

  pub truth-3 : tag_at ms i ≡ 3 → not (in_type u (place_of ms ln 2 (arg_at ms i) 0)) ≡ tr i
  unfolding truth holds
  truth-3 e = ap (λ k. not (in_type u k)) (place-lit t ln le (arg_at ms i)) ∙ by-tag 3 e

  pub truth-4 : tag_at ms i ≡ 4 → (tr (left_at ms i) && tr (right_at ms i)) ≡ tr i
  unfolding truth
  truth-4 e = by-tag 4 e

  pub truth-5 : tag_at ms i ≡ 5 → (tr (left_at ms i) || tr (right_at ms i)) ≡ tr i
  unfolding truth
  truth-5 e = by-tag 5 e

  pub truth-6 : tag_at ms i ≡ 6 → next false (left_at ms i) ≡ tr i
  unfolding truth
  truth-6 e = some-ex t le (arg_at ms i) (left_at ms i) (form ms (left_at ms i)) (body (omega arith)) u ∙ by-tag 6 e

  pub truth-7 : tag_at ms i ≡ 7 → next true (left_at ms i) ≡ tr i
  unfolding truth
  truth-7 e = every-ax t le (arg_at ms i) (left_at ms i) (form ms (left_at ms i)) (body (omega arith)) u ∙ by-tag 7 e

  pub truth-8 : tag_at ms i ≡ 8 → (tr (right_at ms i) || (tr (left_at ms i) && next false i)) ≡ tr i
  unfolding truth
  truth-8 e = ap (λ s. tr (right_at ms i) || (tr (left_at ms i) && s)) (some-ex t le (arg_at ms i) i _ (own 8 e) u) ∙ by-tag 8 e

  pub truth-9 : tag_at ms i ≡ 9 → (tr (right_at ms i) || (tr (left_at ms i) && (next false (plain ms 0) && next true i))) ≡ tr i
  unfolding truth
  truth-9 e =
      ap₂ (λ s v. tr (right_at ms i) || (tr (left_at ms i) && (s && v))) (some-ex t le (arg_at ms i) (plain ms 0) tru (denotes-tru t) u) (every-ax t le (arg_at ms i) i _ (own 9 e) u)
      ∙ by-tag 9 e

  pub truth-10 : tag_at ms i ≡ 10 → (tr (right_at ms i) && (tr (left_at ms i) || (next true (plain ms 1) || next false i))) ≡ tr i
  unfolding truth
  truth-10 e =
      ap₂ (λ s v. tr (right_at ms i) && (tr (left_at ms i) || (s || v))) (every-ax t le (arg_at ms i) (plain ms 1) fls (denotes-fls t) u) (some-ex t le (arg_at ms i) i _ (own 10 e) u)
      ∙ by-tag 10 e

  pub truth-11 : tag_at ms i ≡ 11 → (tr (right_at ms i) && (tr (left_at ms i) || next true i)) ≡ tr i
  unfolding truth
  truth-11 e = ap (λ s. tr (right_at ms i) && (tr (left_at ms i) || s)) (every-ax t le (arg_at ms i) i _ (own 11 e) u) ∙ by-tag 11 e

-- ---- the truth words

pub truth-bit : {ms ln : List ℕ} {w : ℕ} {tw : List ℕ} → Truths ms ln w tw → (i : ℕ) → i < length ms → (t : ℕ) → t < w * 64 → has w tw i t ≡ true_at ms ln i t
truth-bit {ms} {ln} {w} {tw} f i h t l = block-has (true_at ms ln i) w tw i (f.words i h) t l

-- Finding the lean's places of a kind: what one turn adds to the store, and what it holds at the end. Assumes nothing.
use mathlib.Core.Path.{◌≡◌, sym, ap, ap₂, ◌∙◌}
use mathlib.Core.Bool.{Bool, true, false, cond, ◌&&◌}
use mathlib.Core.List.{List, [], ◌∷◌, ◌++◌, append-nil}
use Prim.Native.Nat.{ℕ, suc, ◌+◌, ◌≤◌, ◌<◌}
use native.Mathlib.Omega.{arith}
use lib.ListN.{length, get_or, set, take, drop, length-append, length-set}
use lib.Seq.{append_snoc, drop-cons, set_at, take_at}
use lib.Dec.{eqb}
use borrow.Author.Tests.{eq-eqb, ne_eqb}
use Rattle.ctl.proofs.ListLaws.{keep-next}
use Rattle.ctl.specs.Lists.{keep, below}
use Rattle.members.specs.Members.{arg_w, tag_w}
use Rattle.prepare.specs.Places.{kind_at, kind_word, places_by, Found}

-- ---- a store after k turns

pub record Parted (P : ℕ → Bool) (d₀ : List ℕ) (k : ℕ) (d : List ℕ) (n : ℕ) : Type 0 where
  pub few : n ≤ k
  pub same : length d ≡ length d₀
  pub many : n ≡ length (keep P (below k))
  pub are : d ≡ keep P (below k) ++ drop n d₀

module _ {P : ℕ → Bool} {d₀ : List ℕ} where
  pub parted-next : {k n : ℕ} {d : List ℕ} → Parted P d₀ k d n → k < length d₀ → (b : Bool) → b ≡ P k → {n' : ℕ} {d' : List ℕ} → n' ≡ cond b (n + 1) n → d' ≡ cond b (set d n k) d → Parted P d₀ (k + 1) d' n'
  parted-next {k} {n} {d} x h true e {n'} {d'} en ed =
      let K = keep P (below k) in
      let m : length (keep P (below k)) ≡ n = sym x.many in
      let f = x.few in
      let s : suc n ≡ n' = omega arith in
      record {
        few = omega arith;
        same = ap length ed ∙ length-set d n k ∙ x.same;
        many = sym (ap length (keep-next P k true e) ∙ length-append K (k ∷ []) ∙ (omega arith));
        are = ed ∙ ap (λ l. set l n k) (x.are ∙ ap (λ l. K ++ l) (drop-cons d₀ n 0 (omega arith))) ∙ set_at K (get_or d₀ n 0) (drop (suc n) d₀) k n m
            ∙ sym (append_snoc K k (drop (suc n) d₀)) ∙ ap₂ (λ a i. a ++ drop i d₀) (sym (keep-next P k true e)) s;
      }
  parted-next {k} {n} {d} x h false e {n'} {d'} en ed =
      let K = keep P (below k) in
      let f = x.few in
      let q : keep P (below (k + 1)) ≡ keep P (below k) = keep-next P k false e ∙ append-nil (keep P (below k)) in
      record {
        few = omega arith;
        same = ap length ed ∙ x.same;
        many = en ∙ x.many ∙ ap length (sym q);
        are = ed ∙ x.are ∙ ap₂ (λ a i. a ++ drop i d₀) (sym q) (sym en);
      }

-- ---- at the end

pub parted-done : (q : ℕ) (ms ln kinds : List ℕ) {store store' : List ℕ} {k n : ℕ} → Parted (kind_at q ms ln kinds) store k store' n → k ≡ length ln → Found (places_by q ms ln kinds) store store' n
unfolding places_by
parted-done q ms ln kinds {store} {store'} {k} {n} x e =
    record { many = x.many ∙ ap (λ i. length (keep (kind_at q ms ln kinds) (below i))) e; are = x.are ∙ ap (λ i. keep (kind_at q ms ln kinds) (below i) ++ drop n store) e }

pub held : {places store store' : List ℕ} {n : ℕ} → Found places store store' n → take n store' ≡ places
held {places} {store} {store'} {n} y = ap (take n) y.are ∙ take_at places (drop n store) n (sym y.many)

-- ---- a member's word

module _ (kinds : List ℕ) (q x : ℕ) where
  pub kind-other : (tag_w x ≡ 2 → ⊥) → false ≡ kind_word kinds q x
  unfolding kind_word
  kind-other f = sym (ap (λ b. b && eqb (get_or kinds (arg_w x) 0) q) (ne_eqb (tag_w x) 2 f))

  pub kind-is : tag_w x ≡ 2 → eqb (get_or kinds (arg_w x) 0) q ≡ kind_word kinds q x
  unfolding kind_word
  kind-is e = sym (ap (λ b. b && eqb (get_or kinds (arg_w x) 0) q) (eq-eqb (tag_w x) 2 e))

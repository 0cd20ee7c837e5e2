-- One block of a store written anew, word after word, and such steps one after the other. For any word count. Assumes nothing.
use mathlib.Core.Path.{◌≡◌, sym, ◌∙◌, subst}
use mathlib.Core.Bool.{Bool}
use mathlib.Core.List.{List}
use mathlib.Core.Logic.{◌⊎◌, inl, inr}
use Prim.Native.Nat.{ℕ, ◌+◌, ◌-◌, ◌*◌, ◌≤◌, ◌<◌}
use native.Mathlib.Omega.{arith}
use borrow.Rule.Slice.PartMut.{put_mid, same_len_mid}
use Rattle.std.proofs.Common.{rules}
use Rattle.std.proofs.lemmas.List.{places}
use lib.ListN.{length, get_or, set, take, drop, length-set, length-drop}
use lib.Seq.{get_or-set_same, get_or-set_other, get_or-take, get_or-drop, length-take-le}
use Rattle.wordset.proofs.BelowLaws.{top}
use Rattle.truth.specs.Blocks.{BlockIs, Redone}
use Rattle.wordset.specs.Answers.{Answers}
use Rattle.truth.proofs.BlockLaws.{block_in, word-as}

-- ---- the loop

-- A holds of each of the first k words of block i, and the words before the block and from there on are as in d
pub record Redoing (A : ℕ → ℕ → Type 0) (w i : ℕ) (d ws : List ℕ) (k : ℕ) : Type 0 where
  pub long : length ws ≡ length d
  pub within : k ≤ w
  pub before : (j : ℕ) → j < i * w → get_or ws j 0 ≡ get_or d j 0
  pub rest : (j : ℕ) → i * w + k ≤ j → get_or ws j 0 ≡ get_or d j 0
  pub done : (l : ℕ) → l < k → A l (get_or ws (i * w + l) 0)

module _ {A : ℕ → ℕ → Type 0} {w i : ℕ} {d : List ℕ} where
  module _ {ws : List ℕ} {k : ℕ} (s : Redoing A w i d ws k) where
    pub redo-on : i * w + w ≤ length d → k < w → {x : ℕ} → A k x → Redoing A w i d (set ws (i * w + k) x) (k + 1)
    redo-on r h {x} a = record {
      long = length-set ws (i * w + k) x ∙ s.long;
      within = omega arith;
      before = λ j l. get_or-set_other ws (i * w + k) j x 0 (omega arith) ∙ s.before j l;
      rest = λ j l. get_or-set_other ws (i * w + k) j x 0 (omega arith) ∙ s.rest j (omega arith);
      done = λ l m. go l (top l k (omega arith));
    }
      where
        go : (l : ℕ) → (l ≡ k) ⊎ (l < k) → A l (get_or (set ws (i * w + k) x) (i * w + l) 0)
        go l (inl q) =
            let e = s.long in
            subst (λ (z : ℕ). A z (get_or (set ws (i * w + k) x) (i * w + z) 0)) (sym q) (subst (A k) (sym (get_or-set_same ws (i * w + k) x 0 (omega arith))) a)
        go l (inr m) = subst (A l) (sym (get_or-set_other ws (i * w + k) (i * w + l) x 0 (omega arith))) (s.done l m)

    pub redo-end : w ≤ k → {P : ℕ → Bool} → ((l : ℕ) → l < w → (x : ℕ) → A l x → Answers P l x) → Redone w i P d ws
    redo-end h f = record { long = s.long; before = s.before; block = λ l m. f l m _ (s.done l (omega arith)) }

    -- the word that comes next, and one of an earlier block, are as they were
    pub still : {P : ℕ → Bool} → Answers P k (get_or d (i * w + k) 0) → Answers P k (get_or ws (i * w + k) 0)
    still {P} = subst (Answers P k) (sym (s.rest (i * w + k) (omega arith)))

    pub earlier : {P : ℕ → Bool} {j : ℕ} → j < i → k < w → Answers P k (get_or d (j * w + k) 0) → Answers P k (get_or ws (j * w + k) 0)
    earlier {P} {j} h l = let b = block_in w j i h in subst (Answers P k) (sym (s.before (j * w + k) (omega arith)))

-- ---- a block as a part of the store

-- the words of block i of d
abbrev pub part : ℕ → ℕ → List ℕ → List ℕ
part w i d = take (i * w + w - i * w) (drop (i * w) d)

module _ (w i : ℕ) (d : List ℕ) where
  pub length-part : i * w + w ≤ length d → length (part w i d) ≡ w
  length-part r = length-take-le _ (drop (i * w) d) (omega (arith, length-drop (i * w) d)) ∙ omega arith

  pub get_or-part : (k : ℕ) → k < w → get_or (part w i d) k 0 ≡ get_or d (i * w + k) 0
  get_or-part k h = get_or-take _ (drop (i * w) d) k 0 (omega arith) ∙ get_or-drop (i * w) d k 0

  -- the words p in the place of block i
  pub redone-part : {P : ℕ → Bool} (p : List ℕ) → i * w + w ≤ length d → length p ≡ length (part w i d) → ((k : ℕ) → k < w → Answers P k (get_or p k 0))
      → Redone w i P d (put_mid (i * w) (i * w + w - i * w) d p)
  redone-part {P} p r e f =
      let l = length-part r in
      record {
        long = same_len_mid (i * w) _ d p (search (rules, places));
        before = λ j h. search (rules, places);
        block = λ k h. subst (Answers P k) (search (rules, places)) (f k h);
      }

-- ---- words changed one after another

-- A k x y says that word k became y from x. The first n words of p became so from those of d, and the others are as they were
pub record Passed (A : ℕ → ℕ → ℕ → Type 0) (d p : List ℕ) (n : ℕ) : Type 0 where
  pub done : (k : ℕ) → k < n → A k (get_or d k 0) (get_or p k 0)
  pub rest : (k : ℕ) → n ≤ k → get_or p k 0 ≡ get_or d k 0

module _ {A : ℕ → ℕ → ℕ → Type 0} where
  pub pass-on : {d p : List ℕ} {n y : ℕ} → Passed A d p n → length p ≡ length d → n < length d → A n (get_or p n 0) y → Passed A d (set p n y) (n + 1)
  pass-on {d} {p} {n} {y} s e h a = record {
    done = λ k l. go k (top k n (omega arith));
    rest = λ k l. get_or-set_other p n k y 0 (omega arith) ∙ s.rest k (omega arith);
  }
    where
      go : (k : ℕ) → (k ≡ n) ⊎ (k < n) → A k (get_or d k 0) (get_or (set p n y) k 0)
      go k (inl q) = rw q (rw (get_or-set_same p n y 0 (omega arith)) (subst (λ (x : ℕ). A n x y) (s.rest n (omega arith)) a))
      go k (inr m) = rw (get_or-set_other p n k y 0 (omega arith)) (s.done k m)

  -- all the words of block i
  pub redone-pass : (w i : ℕ) (d p : List ℕ) {P : ℕ → Bool} {n : ℕ} → i * w + w ≤ length d → Passed A (part w i d) p n → length p ≡ length (part w i d) → length (part w i d) ≤ n
      → ((k x : ℕ) → k < w → A k (get_or d (i * w + k) 0) x → Answers P k x) → Redone w i P d (put_mid (i * w) (i * w + w - i * w) d p)
  redone-pass w i d p r s e h f =
      let l = length-part w i d r in
      redone-part w i d p r e (λ k m. f k _ m (subst (λ (x : ℕ). A k x (get_or p k 0)) (get_or-part w i d k m) (s.done k (omega arith))))

-- ---- steps

module _ {w i : ℕ} {P Q : ℕ → Bool} where
  pub redone-as : {d ws : List ℕ} → ((t : ℕ) → P t ≡ Q t) → Redone w i P d ws → Redone w i Q d ws
  redone-as e s = record { long = s.long; before = s.before; block = λ k h. word-as e (s.block k h) }

  pub redone-then : {d ws vs : List ℕ} → Redone w i P d ws → Redone w i Q ws vs → Redone w i Q d vs
  redone-then s u = record { long = u.long ∙ s.long; before = λ j h. u.before j h ∙ s.before j h; block = u.block }

  -- an earlier block is as it was
  pub redone-below : {d ws : List ℕ} → Redone w i P d ws → {j : ℕ} → j < i → BlockIs Q w j d → BlockIs Q w j ws
  redone-below s {j} h b k l = let m = block_in w j i h in subst (Answers Q k) (sym (s.before (j * w + k) (omega arith))) (b k l)

-- block after block
pub redone-next : {P : ℕ → ℕ → Bool} {w i : ℕ} {d ws : List ℕ} → Redone w i (P i) d ws → ((j : ℕ) → j < i → BlockIs (P j) w j d) → (j : ℕ) → j < i + 1 → BlockIs (P j) w j ws
redone-next {P} {w} {i} {d} {ws} s f j h = go (top j i (omega arith))
  where
    go : (j ≡ i) ⊎ (j < i) → BlockIs (P j) w j ws
    go (inl q) = subst (λ (z : ℕ). BlockIs (P z) w z ws) (sym q) s.block
    go (inr l) = redone-below s l (f j l)

-- A store in two halves of w words, filled side by side: the first has the types without a name, the second those with one. Assumes nothing.
use mathlib.Core.Path.{◌≡◌, sym, ap, ◌∙◌, subst}
use mathlib.Core.Bool.{Bool}
use mathlib.Core.List.{List}
use mathlib.Core.Logic.{◌⊎◌, inl, inr}
use Prim.Native.Nat.{ℕ, ◌+◌, ◌*◌, ◌/◌, ◌%◌, ◌≤◌, ◌<◌}
use native.Mathlib.Omega.{arith}
use lib.ListN.{length, get_or, set, length-set}
use lib.Seq.{get_or-set_other, get_or-set_same}
use Rattle.wordset.specs.Answers.{Answers}
use Rattle.wordset.specs.Words.{member}
use Rattle.wordset.proofs.BelowLaws.{top}
use Rattle.wordset.proofs.WordLaws.{member-at}

-- a number is a member if the word where it stands, the k-th, answers so for type t
pub answered : (P : ℕ → Bool) (ws : List ℕ) (k t j : ℕ) → Answers P (t / 64) (get_or ws k 0) → k * 64 + t % 64 ≡ j → member ws j ≡ P t
answered P ws k t j a e = let q : t / 64 * 64 + t % 64 ≡ t = omega arith in ap (member ws) (sym e) ∙ member-at ws k (t % 64) (omega arith) ∙ sym (a.each (t % 64) (omega arith)) ∙ ap P q

-- the first k words of each half answer
pub record Halved (P Q : ℕ → Bool) (w : ℕ) (ws : List ℕ) (k : ℕ) : Type 0 where
  pub first : (l : ℕ) → l < k → Answers P l (get_or ws l 0)
  pub second : (l : ℕ) → l < k → Answers Q l (get_or ws (w + l) 0)

module _ {P Q : ℕ → Bool} {w : ℕ} where
  pub halved-on : {ws : List ℕ} {k x y : ℕ} → Halved P Q w ws k → k < w → w + w ≤ length ws → Answers P k x → Answers Q k y → Halved P Q w (set (set ws k x) (w + k) y) (k + 1)
  halved-on {ws} {k} {x} {y} f h room p q = record {
    first = λ l m. subst (Answers P l) (sym (get_or-set_other (set ws k x) (w + k) l y 0 (omega arith))) (one l (top l k (omega arith)));
    second = λ l m. two l (top l k (omega arith));
  }
    where
      one : (l : ℕ) → (l ≡ k) ⊎ (l < k) → Answers P l (get_or (set ws k x) l 0)
      one l (inl e) = subst (λ (z : ℕ). Answers P z (get_or (set ws k x) z 0)) (sym e) (subst (Answers P k) (sym (get_or-set_same ws k x 0 (omega arith))) p)
      one l (inr m) = subst (Answers P l) (sym (get_or-set_other ws k l x 0 (omega arith))) (f.first l m)

      two : (l : ℕ) → (l ≡ k) ⊎ (l < k) → Answers Q l (get_or (set (set ws k x) (w + k) y) (w + l) 0)
      two l (inl e) = subst (λ (z : ℕ). Answers Q z (get_or (set (set ws k x) (w + k) y) (w + z) 0)) (sym e)
          (subst (Answers Q k) (sym (get_or-set_same (set ws k x) (w + k) y 0 (let m = length-set ws k x in omega arith))) q)
      two l (inr m) = subst (Answers Q l) (sym (get_or-set_other (set ws k x) (w + k) (w + l) y 0 (omega arith) ∙ get_or-set_other ws k (w + l) x 0 (omega arith))) (f.second l m)

  pub halved-end : {ws : List ℕ} {k : ℕ} → Halved P Q w ws k → w ≤ k → (t : ℕ) → t < w * 64 → (member ws t ≡ P t) × (member ws (w * 64 + t) ≡ Q t)
  halved-end {ws} f h t l =
      (answered P ws (t / 64) t t (f.first (t / 64) (omega arith)) (omega arith), answered Q ws (w + t / 64) t (w * 64 + t) (f.second (t / 64) (omega arith)) (omega arith))

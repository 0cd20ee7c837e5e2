-- The loop that notes whether a set has a member, and the one that packs a set besides. For any word count. Assumes nothing.
use mathlib.Core.Path.{◌≡◌, refl, sym, ap, ap₂, ◌∙◌, subst}
use mathlib.Core.Bool.{Bool, true, false, not, ◌&&◌, ◌||◌, or-false}
use mathlib.Core.List.{List}
use Prim.Native.Nat.{ℕ, zero, suc, ◌+◌, ◌*◌, ◌^◌, ◌≤◌, ◌<◌}
use native.Mathlib.Omega.{arith}
use lib.Bits.{bit_or, or_lt}
use lib.Dec.{eqb}
use lib.ListN.{get_or, set}
use lib.Seq.{set-get_or}
use Rattle.wordset.proofs.AnswersLaws.{answers-word}
use Rattle.wordset.proofs.BelowLaws.{any-add, any-ext, any_none}
use Rattle.wordset.proofs.BitLaws.{any-bit, bit-none, bit-or}
use Rattle.wordset.proofs.Filling.{Filling, begins, ends, goes, next-answers}
use Rattle.wordset.proofs.PackLaws.{pack_word}
use Rattle.wordset.specs.Answers.{Answers}
use Rattle.wordset.specs.Below.{any_below}
use Rattle.wordset.specs.Word.{bit}
use Rattle.wordset.specs.Words.{member, packed}

any-or : (P Q : ℕ → Bool) (n : ℕ) → (any_below n P || any_below n Q) ≡ any_below n (λ j. P j || Q j)
unfolding any_below
any-or P Q zero = refl
any-or P Q (suc n) = swap (any_below n P) (P n) (any_below n Q) (Q n) ∙ ap (λ b. b || (P n || Q n)) (any-or P Q n)
  where
    swap : (a p b q : Bool) → ((a || p) || (b || q)) ≡ ((a || b) || (p || q))
    swap true p b q = refl
    swap false true true q = refl
    swap false true false q = refl
    swap false false b q = refl

-- word any has a number exactly if one of the first k words' numbers passes Q
pub record Noting (Q : ℕ → Bool) (w any k : ℕ) : Type 0 where
  pub within : k ≤ w
  pub small : any < 2 ^ 64
  pub some : any_below (k * 64) Q ≡ any_below 64 (bit any)

module _ {Q : ℕ → Bool} {w : ℕ} where
  pub note-start : Noting Q w 0 0
  unfolding any_below
  note-start = record { within = omega arith; small = omega arith; some = sym (any_none (bit 0) 64 (λ b l. bit-none b)) }

  module _ {any k : ℕ} (s : Noting Q w any k) where
    -- the numbers of the next word
    grows : {y : ℕ} → Answers Q k y → any_below ((k + 1) * 64) Q ≡ (any_below 64 (bit any) || any_below 64 (bit y))
    grows {y} b =
        let q : (k + 1) * 64 ≡ k * 64 + 64 = omega arith in
        ap (λ (n : ℕ). any_below n Q) q ∙ any-add Q (k * 64) 64 ∙ ap₂ ◌||◌ s.some (any-ext (λ j. Q (k * 64 + j)) (bit y) 64 b.each)

    pub note-on : {y : ℕ} → k < w → Answers Q k y → Noting Q w (bit_or any y) (k + 1)
    note-on {y} h b = record {
      within = omega arith;
      small = or_lt 64 any y s.small b.small;
      some = grows b ∙ any-or (bit any) (bit y) 64 ∙ any-ext (λ j. bit any j || bit y j) (bit (bit_or any y)) 64 (λ j l. sym (bit-or any y j));
    }

    -- a word without numbers
    note-stay : k < w → Answers Q k 0 → Noting Q w any (k + 1)
    note-stay h b = record {
      within = omega arith;
      small = s.small;
      some = grows b ∙ ap (λ b. any_below 64 (bit any) || b) (any_none (bit 0) 64 (λ b l. bit-none b)) ∙ or-false (any_below 64 (bit any));
    }

    pub note-end : w ≤ k → not (eqb any 0) ≡ any_below (w * 64) Q
    note-end h = let b = s.within in let q : k ≡ w = omega arith in sym (any-bit 64 any s.small) ∙ sym s.some ∙ ap (λ (n : ℕ). any_below (n * 64) Q) q

-- the first k words of l hold the numbers that pass P, and word any notes Q
pub record Packing (P Q : ℕ → Bool) (d : List ℕ) (w : ℕ) (l : List ℕ) (any k : ℕ) : Type 0 where
  pub fill : Filling (pack_word P) d w l k
  pub note : Noting Q w any k

module _ {P Q : ℕ → Bool} {d : List ℕ} {w : ℕ} where
  pub pack-start : Packing P Q d w d 0 0
  pack-start = record { fill = begins; note = note-start }

  module _ {l : List ℕ} {any k : ℕ} (s : Packing P Q d w l any k) where
    pub pack-on : {x y : ℕ} → k < w → Answers P k x → Answers Q k y → Packing P Q d w (set l k x) (bit_or any y) (k + 1)
    pack-on {x} h a b = record { fill = goes x s.fill h (answers-word a); note = note-on s.note h b }

    pub pack-end : w ≤ k → l ≡ packed w P d
    pack-end = ends s.fill

    pub pack-any : w ≤ k → not (eqb any 0) ≡ any_below (w * 64) Q
    pack-any = note-end s.note

pub pack-as : {P Q : ℕ → Bool} {d : List ℕ} {w : ℕ} {l l' : List ℕ} {any any' k : ℕ} → l' ≡ l → any' ≡ any → Packing P Q d w l any k → Packing P Q d w l' any' k
pack-as {P} {Q} {d} {w} {l} {l'} {any} {any'} {k} e q s = subst (λ (m : List ℕ). Packing P Q d w m any' k) (sym e) (subst (λ (n : ℕ). Packing P Q d w l n k) (sym q) s)

-- where the set is taken from the store itself, a word without numbers stays as it is
pub pack-stay : (R : ℕ → Bool) {d : List ℕ} {w : ℕ} {l : List ℕ} {any k : ℕ} → Packing (λ t. member d t && R t) (λ t. member d t && R t) d w l any k → k < w → get_or l k 0 < 2 ^ 64 → get_or l k 0 ≡ 0
    → Packing (λ t. member d t && R t) (λ t. member d t && R t) d w l any (k + 1)
pack-stay R {d} {w} {l} {any} {k} s h f z = record {
  fill = subst (λ (m : List ℕ). Filling (pack_word P) d w m (k + 1)) (ap (λ (v : ℕ). set l k v) (sym z) ∙ set-get_or l k 0) (goes 0 s.fill h (answers-word a));
  note = note-stay s.note h a;
}
  where
    P : ℕ → Bool
    P t = member d t && R t

    a : Answers P k 0
    a = record { small = omega arith; each = λ b i. ap (λ x. x && R (k * 64 + b)) ((next-answers s.fill f).each b i ∙ ap (λ (v : ℕ). bit v b) z ∙ bit-none b) ∙ sym (bit-none b) }

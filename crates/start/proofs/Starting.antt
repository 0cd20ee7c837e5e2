-- The start types of a naming in words: one type joins a set, and name after name the names' own types join those without a name. Assumes nothing.
use mathlib.Core.Path.{◌≡◌, refl, sym, ap, ◌∙◌, subst}
use mathlib.Core.Bool.{Bool, true, false, ◌&&◌, ◌||◌, and-false, and-true, or-false}
use mathlib.Core.List.{List}
use mathlib.Core.Logic.{◌⊎◌, inl, inr}
use Prim.Native.Nat.{ℕ, suc, ◌+◌, ◌*◌, ◌/◌, ◌%◌, ◌^◌, ◌≤◌, ◌<◌}
use native.Mathlib.Omega.{arith}
use lib.Bits.{bit_or}
use lib.Dec.{eqb}
use lib.ListN.{length, get_or, set, length-set}
use lib.Pow.{pow-lt}
use lib.Seq.{drop-set-lt, get_or-set_other, get_or-set_same}
use borrow.Author.Tests.{eq-eqb, eqb-true, ne_eqb}
use native.Mathlib.Numerals.{add-one}
use Rattle.ctl.proofs.BoolLaws.{same_test}
use Rattle.wordset.specs.Answers.{Answers}
use Rattle.wordset.specs.Below.{any_below}
use Rattle.wordset.specs.Words.{member, packed}
use Rattle.wordset.proofs.AnswersLaws.{or-answers, word-answers}
use Rattle.wordset.proofs.BelowLaws.{same_or}
use Rattle.wordset.proofs.BitLaws.{bit-pow, shl_one}
use Rattle.wordset.proofs.PackLaws.{packed-ext, packed-held, packed-over, packed-self, packed-twice}
use Rattle.wordset.proofs.WordLaws.{member-at}
use Rattle.truth.proofs.ListWords.{held}
use Rattle.start.proofs.Halves.{answered}
use Rattle.start.specs.Starts.{named_type, obeys_by, starts_by, type_of_name}

-- ---- one type more

-- one word is written, and the others answer as they are
packed-set : (P : ℕ → Bool) (d : List ℕ) (w q x : ℕ) → q < w → w ≤ length d → Answers P q x → ((i : ℕ) → i < w → (i ≡ q → ⊥) → Answers P i (get_or d i 0)) → set d q x ≡ packed w P d
packed-set P d w q x h room p f =
    packed-self (set d q x) w (λ i l. (words i l).small)
    ∙ packed-ext (member (set d q x)) P (set d q x) w (λ j l. answered P (set d q x) (j / 64) j j (words (j / 64) (omega arith)) (omega arith))
    ∙ packed-over P d (set d q x) w (length-set d q x) (drop-set-lt w d q x h) room
  where
    words : (i : ℕ) → i < w → Answers P i (get_or (set d q x) i 0)
    words i l = go (same_or i q)
      where
        go : (i ≡ q) ⊎ (i ≡ q → ⊥) → Answers P i (get_or (set d q x) i 0)
        go (inl e) = subst (λ (z : ℕ). Answers P z (get_or (set d q x) z 0)) (sym e) (subst (Answers P q) (sym (get_or-set_same d q x 0 (omega arith))) p)
        go (inr n) = subst (Answers P i) (sym (get_or-set_other d q i x 0 n)) (f i l n)

-- the word of one type
one_type : (t : ℕ) → Answers (λ u. eqb u t) (t / 64) (2 ^ (t % 64))
one_type t = record {
  small = pow-lt (let h : t % 64 < 64 = omega arith in h);
  each = λ b l. same_test _ _ (λ e. bit-pow (t % 64) b ∙ eq-eqb b (t % 64) (let q = eqb-true (t / 64 * 64 + b) t e in omega arith))
      (λ e. eq-eqb (t / 64 * 64 + b) t (let q = eqb-true b (t % 64) (sym (bit-pow (t % 64) b) ∙ e) in omega arith));
}

-- B and O are asked of the type that joins, and b is the answer
module _ (B O : ℕ → Bool) (d : List ℕ) (w t : ℕ) (room : w ≤ length d) (fits : (i : ℕ) → i < w → get_or d i 0 < 2 ^ 64) where
  abbrev joined : ℕ → Bool
  joined u = member d u || (B u && (eqb u t && O u))

  joins : (b : Bool) → (B t && O t) ≡ b → (u : ℕ) → (member d u || (eqb u t && b)) ≡ joined u
  joins b e u = ap (λ c. member d u || c) (go (eqb u t) refl)
    where
      go : (c : Bool) → eqb u t ≡ c → (c && b) ≡ (B u && (c && O u))
      go true q = sym e ∙ ap (λ v. B v && O v) (sym (eqb-true u t q))
      go false q = sym (and-false (B u))

  pub join-none : (B t && O t) ≡ false → d ≡ packed w joined d
  join-none e = packed-self d w fits ∙ packed-ext (member d) joined d w (λ u l. sym (ap (λ c. member d u || c) (and-false (eqb u t)) ∙ or-false (member d u)) ∙ joins false e u)

  pub join_one : t < w * 64 → (B t && O t) ≡ true → set d (t / 64) (bit_or (get_or d (t / 64) 0) ((1 * 2 ^ (t % 64)) % 2 ^ 64)) ≡ packed w joined d
  join_one l e =
      ap (λ x. set d (t / 64) (bit_or (get_or d (t / 64) 0) x)) (shl_one (t % 64) (omega arith))
      ∙ packed-set (λ u. member d u || eqb u t) d w (t / 64) (bit_or (get_or d (t / 64) 0) (2 ^ (t % 64))) (omega arith) room
      (or-answers (word-answers d (t / 64) (fits (t / 64) (omega arith))) (one_type t))
      unmoved
      ∙ packed-ext (λ u. member d u || eqb u t) joined d w (λ u h. ap (λ c. member d u || c) (sym (and-true (eqb u t))) ∙ joins true e u)
    where
      unmoved : (i : ℕ) → i < w → (i ≡ t / 64 → ⊥) → Answers (λ u. member d u || eqb u t) i (get_or d i 0)
      unmoved i h n = record {
        small = fits i h;
        each = λ b l. ap (λ c. member d (i * 64 + b) || c) (ne_eqb (i * 64 + b) t (λ q. n (omega arith))) ∙ or-false (member d (i * 64 + b)) ∙ member-at d i b l;
      }

-- ---- name after name

-- the types without a name, and the own types of the first i names that obey
module _ (w : ℕ) (base names : List ℕ) (n r : ℕ) where
  abbrev up_to : ℕ → ℕ → Bool
  up_to i t = member base t || (member base (w * 64 + t) && (any_below i (λ j. eqb t (named_type (get_or names j 0) n r j)) && obeys_by names n r t))

  pub record Started (d l : List ℕ) (i : ℕ) : Type 0 where
    pub are : l ≡ packed w (up_to i) d

  module _ {d : List ℕ} (room : w ≤ length d) where
    -- d is the store that the types without a name were copied to
    pub started-first : (e : List ℕ) → w ≤ length e → d ≡ packed w (member base) e → Started d d 0
    unfolding any_below
    started-first e h q = record { are = packed-held (member base) e d w h q ∙ packed-ext (member base) (up_to 0) d w (λ t l. sym (ap (λ c. member base t || c) (and-false (member base (w * 64 + t))) ∙ or-false (member base t))) }

    pub started-on : {l m : List ℕ} {i : ℕ} → Started d l i → {t : ℕ} → t ≡ named_type (get_or names i 0) n r i
        → m ≡ packed w (λ u. member l u || (member base (w * 64 + u) && (eqb u t && obeys_by names n r u))) l → Started d m (i + 1)
    unfolding any_below
    started-on {l} {m} {i} x {t} te q = record {
      are = packed-twice (up_to i) next d l m w room x.are (q ∙ ap (λ v. packed w (λ u. member l u || (member base (w * 64 + u) && (eqb u v && obeys_by names n r u))) l) te)
          ∙ packed-ext next (up_to (suc i)) d w (λ u k. ap (λ c. c || (member base (w * 64 + u) && (own u && obeys_by names n r u))) (held (up_to i) d l w room x.are u k)
          ∙ spread (member base u) (member base (w * 64 + u)) (any_below i (λ j. eqb u (named_type (get_or names j 0) n r j))) (own u) (obeys_by names n r u))
          ∙ ap (λ j. packed w (up_to j) d) (sym (add-one i));
    }
      where
        own : ℕ → Bool
        own u = eqb u (named_type (get_or names i 0) n r i)

        next : ℕ → Bool
        next u = member l u || (member base (w * 64 + u) && (own u && obeys_by names n r u))

        spread : (a b s e o : Bool) → ((a || (b && (s && o))) || (b && (e && o))) ≡ (a || (b && ((s || e) && o)))
        spread true b s e o = refl
        spread false false s e o = refl
        spread false true false e o = refl
        spread false true true e false = and-false e
        spread false true true e true = refl

    pub started-all : {l : List ℕ} {i : ℕ} → Started d l i → i ≡ length names → (e : List ℕ) → w ≤ length e → d ≡ packed w (member base) e → l ≡ packed w (starts_by w base names n r) e
    unfolding starts_by type_of_name
    started-all {l} {i} x a e k q = packed-twice (member base) (up_to (length names)) e d l w k q (x.are ∙ ap (λ j. packed w (up_to j) d) a)

-- Words by fours: a loop that joins one word for each number of a word, for four words at once; and a set narrowed by four words a turn, then by one. For any word count. Assumes nothing.
use mathlib.Core.Path.{◌≡◌, refl, sym, ap, ◌∙◌, subst}
use mathlib.Core.Bool.{Bool, true, false, cond, not, ◌&&◌}
use mathlib.Core.List.{List, [], ◌∷◌}
use Prim.Native.Nat.{ℕ, ◌+◌, ◌*◌, ◌/◌, ◌^◌, ◌≤◌, ◌<◌}
use native.Mathlib.Omega.{arith}
use lib.Bits.{bit_and, bit_or}
use lib.Count.{count_trailing_zeros}
use lib.Dec.{eqb}
use lib.ListN.{length, get_or, set, length-set}
use lib.Seq.{get_or-set_other}
use Rattle.wordset.proofs.AnswersLaws.{and-answers}
use Rattle.wordset.proofs.BelowLaws.{any-ext}
use Rattle.wordset.proofs.BitLaws.{any-bit}
use Rattle.wordset.proofs.Filling.{next-answers}
use Rattle.wordset.proofs.Packing.{Packing, pack-any, pack-as, pack-end, pack-on, pack-stay}
use Rattle.wordset.proofs.WordLaws.{filled-past, length-filled}
use Rattle.wordset.specs.Answers.{Answers}
use Rattle.wordset.specs.Below.{any_below}
use Rattle.wordset.specs.Word.{bit}
use Rattle.wordset.specs.Words.{member}
use Rattle.truth.specs.Blocks.{has}
use Rattle.truth.proofs.BlockLaws.{block-word, word-as}
use Rattle.truth.proofs.Joining.{Joining, join-end, join-on, join-start}
use Rattle.truth.proofs.ListWords.{held}
use Rattle.truth.proofs.Sifting.{less}
use Rattle.conditions.specs.Entries.{in_some}
use Rattle.image.specs.Narrowing.{Fours, Narrowed, Stays, joined_four, kept_four, not_all, passing}

-- ---- four words joined

-- a word of a block, by its place
pub word-here : (w : ℕ) (ws : List ℕ) (i k q : ℕ) → q ≡ i * w + k → get_or ws q 0 < 2 ^ 64 → Answers (has w ws i) k (get_or ws q 0)
word-here w ws i k q e = subst (λ (n : ℕ). get_or ws n 0 < 2 ^ 64 → Answers (has w ws i) k (get_or ws n 0)) (sym e) (block-word w ws i k)

-- an entry's types, or those that it has not
abbrev pub turned_has : ℕ → List ℕ → Bool → ℕ → ℕ → Bool
turned_has w cw lack i t = cond lack (not (has w cw i t)) (has w cw i t)

-- those that pass for one of the entries r
pub turned_passing : (w : ℕ) (cw : List ℕ) (r : ℕ) (lack : Bool) (t : ℕ) → any_below 64 (λ i. bit r i && turned_has w cw lack i t) ≡ passing w cw r lack t
unfolding passing not_all in_some
turned_passing w cw r true t = refl
turned_passing w cw r false t = refl

pub fours-as : {P Q : ℕ → Bool} {k : ℕ} {x : List ℕ} → ((t : ℕ) → P t ≡ Q t) → Fours P k x → Fours Q k x
fours-as e f = record { a = word-as e f.a; b = word-as e f.b; c = word-as e f.c; d = word-as e f.d }

pub record Joins (P : ℕ → ℕ → Bool) (r k rest a b c d : ℕ) : Type 0 where
  pub first : Joining P r k rest a
  pub second : Joining P r (k + 1) rest b
  pub third : Joining P r (k + 2) rest c
  pub fourth : Joining P r (k + 3) rest d

module _ {P : ℕ → ℕ → Bool} {r k : ℕ} where
  pub joins-start : r < 2 ^ 64 → Joins P r k r 0 0 0 0
  joins-start h = record { first = join-start h; second = join-start h; third = join-start h; fourth = join-start h }

  module _ {rest a b c d : ℕ} (s : Joins P r k rest a b c d) where
    pub joins-on : (rest ≡ 0 → ⊥) → {x y z v : ℕ} → Answers (P (count_trailing_zeros 64 rest)) k x → Answers (P (count_trailing_zeros 64 rest)) (k + 1) y
        → Answers (P (count_trailing_zeros 64 rest)) (k + 2) z → Answers (P (count_trailing_zeros 64 rest)) (k + 3) v → Joins P r k (less rest) (bit_or a x) (bit_or b y) (bit_or c z) (bit_or d v)
    joins-on n f g h i = record { first = join-on s.first n f; second = join-on s.second n g; third = join-on s.third n h; fourth = join-on s.fourth n i }

    pub joins-end : rest ≡ 0 → Fours (λ t. any_below 64 (λ i. bit r i && P i t)) k (a ∷ b ∷ c ∷ d ∷ [])
    joins-end e = record { a = join-end s.first e; b = join-end s.second e; c = join-end s.third e; d = join-end s.fourth e }

-- ---- a set narrowed: those that pass R stay

abbrev pub Narrowing : (ℕ → Bool) → List ℕ → ℕ → List ℕ → ℕ → ℕ → Type 0
Narrowing R d w l any k = Packing (λ t. member d t && R t) (λ t. member d t && R t) d w l any k

pub narrow-as : {P Q : ℕ → Bool} {d : List ℕ} {w : ℕ} {l l' : List ℕ} {any any' k k' : ℕ} → l' ≡ l → any' ≡ any → k' ≡ k → Packing P Q d w l any k → Packing P Q d w l' any' k'
narrow-as {P} {Q} {d} {w} {l} {l'} {any} {any'} e q f s = subst (λ (j : ℕ). Packing P Q d w l' any' j) (sym f) (pack-as e q s)

module _ {R : ℕ → Bool} {d : List ℕ} {w : ℕ} where
  -- the next word y of the set loses what does not pass
  pub narrow-on : {l : List ℕ} {any k n x y : ℕ} → Narrowing R d w l any k → k < w → n ≡ k + 1 → y ≡ get_or l k 0 → y < 2 ^ 64 → Answers R k x
      → Narrowing R d w (set l k (bit_and y x)) (bit_or any (bit_and y x)) n
  narrow-on {l} {any} {k} {n} {x} {y} s h q e f r =
      let a = and-answers (subst (Answers (member d) k) (sym e) (next-answers s.fill (rw e at f))) r in
      subst (λ (j : ℕ). Narrowing R d w (set l k (bit_and y x)) (bit_or any (bit_and y x)) j) (sym q) (pack-on s h a a)

  pub narrow-four : {l : List ℕ} {any k : ℕ} {x : List ℕ} → Narrowing R d w l any k → k + 4 ≤ w → ((i : ℕ) → get_or d i 0 < 2 ^ 64) → Fours R k x → Narrowing R d w (kept_four l k x) (joined_four l k x any) (k + 4)
  narrow-four {l} {any} {k} {x} s h f r =
      narrow-on (narrow-on (narrow-on (narrow-on s (omega arith) refl refl (small k (omega arith)) r.a)
      (omega arith) (omega arith) (sym (at₁ (k + 1) (omega arith))) (small (k + 1) (omega arith)) r.b)
      (omega arith) (omega arith) (sym (at₂ (k + 2) (omega arith))) (small (k + 2) (omega arith)) r.c)
      (omega arith) (omega arith) (sym (at₃ (k + 3) (omega arith))) (small (k + 3) (omega arith)) r.d
    where
      -- the words to come are as they were
      small : (i : ℕ) → k ≤ i → get_or l i 0 < 2 ^ 64
      small i g = subst (λ (n : ℕ). n < 2 ^ 64) (sym (ap (λ (m : List ℕ). get_or m i 0) s.fill.is ∙ filled-past _ d k i g)) (f i)

      l₁ : List ℕ
      l₁ = set l k (bit_and (get_or l k 0) (get_or x 0 0))

      l₂ : List ℕ
      l₂ = set l₁ (k + 1) (bit_and (get_or l (k + 1) 0) (get_or x 1 0))

      l₃ : List ℕ
      l₃ = set l₂ (k + 2) (bit_and (get_or l (k + 2) 0) (get_or x 2 0))

      at₁ : (j : ℕ) → k < j → get_or l₁ j 0 ≡ get_or l j 0
      at₁ j g = get_or-set_other l k j (bit_and (get_or l k 0) (get_or x 0 0)) 0 (λ e. omega (arith, e, g))

      at₂ : (j : ℕ) → k + 1 < j → get_or l₂ j 0 ≡ get_or l j 0
      at₂ j g = get_or-set_other l₁ (k + 1) j (bit_and (get_or l (k + 1) 0) (get_or x 1 0)) 0 (λ e. omega (arith, e, g)) ∙ at₁ j (omega arith)

      at₃ : (j : ℕ) → k + 2 < j → get_or l₃ j 0 ≡ get_or l j 0
      at₃ j g = get_or-set_other l₂ (k + 2) j (bit_and (get_or l (k + 2) 0) (get_or x 2 0)) 0 (λ e. omega (arith, e, g)) ∙ at₂ j (omega arith)

  -- so far
  pub narrow-part : {l : List ℕ} {any k n : ℕ} → Narrowing R d w l any k → k ≡ n → Narrowed R n d l any
  narrow-part {l} {any} {k} s q =
      subst (λ (j : ℕ). Narrowed R j d l any) q (record { is = s.fill.is; some = sym (any-bit 64 any s.note.small) ∙ sym s.note.some })

-- ---- the words behind the fours: d was narrowed up to them, and left l₀ with `fours`

pub record Tailing (R : ℕ → Bool) (w : ℕ) (l₀ : List ℕ) (fours : ℕ) (l : List ℕ) (any k : ℕ) : Type 0 where
  pub long : length l ≡ length l₀
  pub within : k ≤ w
  pub is : (d : List ℕ) → Narrowed R (w / 4 * 4) d l₀ fours → Narrowing R d w l any k

module _ {R : ℕ → Bool} {w : ℕ} {l₀ : List ℕ} {fours : ℕ} where
  pub tail-start : fours < 2 ^ 64 → Tailing R w l₀ fours l₀ fours (w / 4 * 4)
  tail-start h = record {
    long = refl;
    within = omega arith;
    is = λ d n. record {
      fill = record { within = omega arith; long = ap length n.is ∙ length-filled _ d (w / 4 * 4); is = n.is };
      note = record { within = omega arith; small = h; some = sym n.some ∙ sym (any-bit 64 fours h) };
    };
  }

  module _ {l : List ℕ} {any k : ℕ} (s : Tailing R w l₀ fours l any k) (h : k < w) (f : get_or l k 0 < 2 ^ 64) where
    pub tail-on : {x : ℕ} → Answers R k x → Tailing R w l₀ fours (set l k (bit_and (get_or l k 0) x)) (bit_or any (bit_and (get_or l k 0) x)) (k + 1)
    tail-on {x} r = record { long = length-set l k (bit_and (get_or l k 0) x) ∙ s.long; within = omega arith; is = λ d n. narrow-on (s.is d n) h refl refl f r }

    pub tail-stay : get_or l k 0 ≡ 0 → Tailing R w l₀ fours l any (k + 1)
    tail-stay e = record { long = s.long; within = omega arith; is = λ d n. pack-stay R (s.is d n) h f e }

  pub tail-end : {l : List ℕ} {any k : ℕ} → Tailing R w l₀ fours l any k → w ≤ k → w ≤ length l₀ → (d : List ℕ) → Narrowed R (w / 4 * 4) d l₀ fours → Stays R w d l (not (eqb any 0))
  tail-end {l} {any} {k} s h g d n =
      let p = s.is d n in
      let m = held (λ t. member d t && R t) d l w (let a = p.fill.long in let b = s.long in omega arith) (pack-end p h) in
      record { is = m; some = pack-any p h ∙ sym (any-ext _ _ _ m) }

pub tail-as : {R : ℕ → Bool} {w : ℕ} {l₀ : List ℕ} {fours : ℕ} {l l' : List ℕ} {any any' k : ℕ} → l' ≡ l → any' ≡ any → Tailing R w l₀ fours l any k → Tailing R w l₀ fours l' any' k
tail-as {R} {w} {l₀} {fours} {l} {l'} {any} {any'} {k} e q s = subst (λ (m : List ℕ). Tailing R w l₀ fours m any' k) (sym e) (subst (λ (n : ℕ). Tailing R w l₀ fours l n k) (sym q) s)

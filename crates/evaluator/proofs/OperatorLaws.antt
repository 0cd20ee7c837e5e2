-- The operators with modes on words of nodes are those on tests of nodes. Assumes nothing.
use Prim.Native.Nat.{ℕ, zero, suc, ◌^◌, ◌≤◌, ◌<◌}
use native.Mathlib.Omega.{arith}
use native.Mathlib.Nat.{lt_of_le_of_lt}
use mathlib.Core.Path.{◌≡◌, sym, ap, ap₂, ◌∙◌}
use mathlib.Core.Logic.{◌⊎◌, inl, inr}
use mathlib.Core.Bool.{Bool, true, false, not, ◌&&◌, ◌||◌, not-not}
use mathlib.Core.List.{List}
use lib.Dec.{eqb}
use lib.Bits.{bit_and, and_le_l, or_lt}
use lib.Pow.{pow_pos}
use lib.ListN.{get_or, replicate}
use borrow.Author.Tests.{eq-eqb, eqb-true}
use Rattle.wordset.specs.Word.{bit}
use Rattle.wordset.proofs.BitLaws.{bit-and, bit-ext, bit-none, bit-or, bit-word_of, word_of-lt}
use Rattle.wordset.proofs.WordLaws.{filled_at}
use Rattle.ctl.specs.Evaluator.{each_next, leads, round_au, round_eu, some_next}
use Rattle.ctl.specs.Lists.{any_of, below}
use Rattle.ctl.proofs.BoolLaws.{decide, false_of, true-and-false}
use Rattle.ctl.proofs.Fixpoint.{after, after-suc, after-zero}
use Rattle.ctl.proofs.ListLaws.{any-find, any-make, any_same, below_out}
use Rattle.ctl.proofs.NextLaws.{each_next-same, not-some_next, some_next-same}
use Rattle.snapshot_text.specs.Store.{of_store}
use Rattle.edges.specs.Nodes.{edge_words, flip_word, full_word, leads_at, next_word, repeat}
use Rattle.evaluator.specs.Values.{au_round, eu_round, pre_word}
use Rattle.edges.proofs.EdgeLaws.{leads-same}
use Rattle.edges.proofs.NodeLaws.{bit-flip, bit-full}

-- a set of numbers below n is not 0 exactly if it has one
not-zero : (n w : ℕ) → w < 2 ^ n → not (eqb w 0) ≡ any_of (bit w) (below n)
not-zero n w h = go (decide (any_of (bit w) (below n))) (decide (eqb w 0))
  where
    go : (any_of (bit w) (below n) ≡ true) ⊎ (any_of (bit w) (below n) ≡ false) → (eqb w 0 ≡ true) ⊎ (eqb w 0 ≡ false) → not (eqb w 0) ≡ any_of (bit w) (below n)
    go (inl a) (inr e) = ap not e ∙ sym a
    go (inr a) (inl e) = ap not e ∙ sym a
    go (inl a) (inl e) =
        let r = any-find n (bit w) a in
        absurd (true-and-false (bit w r.0) r.2 (ap (λ x. bit x r.0) (eqb-true w 0 e) ∙ bit-none r.0))
    go (inr a) (inr e) =
        absurd (true-and-false (eqb w 0) (eq-eqb w 0 (bit-ext n w 0 h (pow_pos n) (λ i l. false_of (bit w i) (λ t. true-and-false (any_of (bit w) (below n)) (any-make n (bit w) i l t) a) ∙ sym (bit-none i)))) e)

module _ (out : List ℕ) (n : ℕ) (hn : n ≤ 16) (A : ℕ) where
  abbrev edge : ℕ → ℕ → Bool
  edge = leads (of_store n out) A

  abbrev e : List ℕ
  e = edge_words out n A

  edge_at : (i : ℕ) → i < n → get_or e i 0 ≡ next_word out n A i
  unfolding edge_words
  edge_at i h = filled_at (next_word out n A) (replicate 16 0) n i (omega arith) h

  next-lt : (i : ℕ) → next_word out n A i < 2 ^ n
  unfolding next_word
  next-lt i = word_of-lt n (leads_at out A i)

  next_bit : (i j : ℕ) → i < n → j < n → bit (next_word out n A i) j ≡ edge i j
  unfolding next_word
  next_bit i j hi hj = bit-word_of n (leads_at out A i) j hj ∙ sym (leads-same out n A i j hi hj)

  -- ---- EX and AX
  pub pre_at : (x i : ℕ) → i < n → bit (pre_word e n x) i ≡ some_next n edge (bit x) i
  unfolding pre_word
  pre_at x i h =
      bit-word_of n (λ i. not (eqb (bit_and (get_or e i 0) x) 0)) i h
      ∙ ap (λ w. not (eqb (bit_and w x) 0)) (edge_at i h)
      ∙ not-zero n (bit_and (next_word out n A i) x) (lt_of_le_of_lt (and_le_l (next_word out n A i) x) (next-lt i))
      ∙ any_same (bit (bit_and (next_word out n A i) x)) (λ j. edge i j && bit x j) (below n)
      (λ j m. bit-and (next_word out n A i) x j ∙ ap (λ b. b && bit x j) (next_bit i j h (below_out n m)))

  pub each_at : (x i : ℕ) → i < n → bit (flip_word n (pre_word e n (flip_word n x))) i ≡ each_next n edge (bit x) i
  each_at x i h =
      bit-flip n (pre_word e n (flip_word n x)) i h
      ∙ ap not (pre_at (flip_word n x) i h ∙ some_next-same n edge (bit (flip_word n x)) (λ j. not (bit x j)) i (λ j l. bit-flip n x j l))
      ∙ not-some_next n edge (λ j. not (bit x j)) i
      ∙ each_next-same n edge (λ j. not (not (bit x j))) (bit x) i (λ j l. not-not (bit x j))

  pub pre-lt : (x : ℕ) → pre_word e n x < 2 ^ n
  unfolding pre_word
  pre-lt x = word_of-lt n (λ i. not (eqb (bit_and (get_or e i 0) x) 0))

  -- ---- rounds of EU and AU
  module _ (p q : ℕ) (P Q : ℕ → Bool) (hp : (i : ℕ) → i < n → bit p i ≡ P i) (hq : (i : ℕ) → i < n → bit q i ≡ Q i) where
    pub eu-at : (k i : ℕ) → i < n → bit (repeat k (eu_round e n p q)) i ≡ after n (round_eu n edge P Q) k i
    unfolding repeat
    eu-at zero i h = bit-none i ∙ sym (after-zero n (round_eu n edge P Q) i h)
    eu-at (suc k) i h =
        let x : ℕ = repeat k (eu_round e n p q) in
        bit-or q (bit_and p (pre_word e n x)) i
        ∙ ap₂ ◌||◌ (hq i h) (bit-and p (pre_word e n x) i
        ∙ ap₂ ◌&&◌ (hp i h) (pre_at x i h ∙ some_next-same n edge (bit x) (after n (round_eu n edge P Q) k) i (eu-at k)))
        ∙ sym (after-suc n (round_eu n edge P Q) k i h)

    pub au-at : (k i : ℕ) → i < n → bit (repeat k (au_round e n p q)) i ≡ after n (round_au n edge P Q) k i
    unfolding repeat
    au-at zero i h = bit-none i ∙ sym (after-zero n (round_au n edge P Q) i h)
    au-at (suc k) i h =
        let x : ℕ = repeat k (au_round e n p q) in
        let y : ℕ = pre_word e n (full_word n) in
        let z : ℕ = flip_word n (pre_word e n (flip_word n x)) in
        bit-or q (bit_and p (bit_and y z)) i
        ∙ ap₂ ◌||◌ (hq i h) (bit-and p (bit_and y z) i
        ∙ ap₂ ◌&&◌ (hp i h) (bit-and y z i
        ∙ ap₂ ◌&&◌ (pre_at (full_word n) i h ∙ some_next-same n edge (bit (full_word n)) (λ j. true) i (bit-full n))
        (each_at x i h ∙ each_next-same n edge (bit x) (after n (round_au n edge P Q) k) i (au-at k))))
        ∙ sym (after-suc n (round_au n edge P Q) k i h)

  module _ (p q : ℕ) (lp : p < 2 ^ n) (lq : q < 2 ^ n) where
    pub eu-lt : (k : ℕ) → repeat k (eu_round e n p q) < 2 ^ n
    unfolding repeat
    eu-lt zero = pow_pos n
    eu-lt (suc k) = or_lt n q (bit_and p (pre_word e n (repeat k (eu_round e n p q)))) lq (lt_of_le_of_lt (and_le_l p (pre_word e n (repeat k (eu_round e n p q)))) lp)

    pub au-lt : (k : ℕ) → repeat k (au_round e n p q) < 2 ^ n
    unfolding repeat
    au-lt zero = pow_pos n
    au-lt (suc k) =
        let x : ℕ = repeat k (au_round e n p q) in
        let z : ℕ = bit_and (pre_word e n (full_word n)) (flip_word n (pre_word e n (flip_word n x))) in
        or_lt n q (bit_and p z) lq (lt_of_le_of_lt (and_le_l p z) lp)

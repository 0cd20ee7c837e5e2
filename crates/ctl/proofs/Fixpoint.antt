-- n rounds of a monotone step on n places reach its least fixed point; the rank of a place is the round in which it comes in. Assumes nothing.
use Prim.Native.Nat.{ℕ, zero, suc, ◌+◌, ◌≤◌, ◌<◌, suc-le-suc, zero-le}
use native.Mathlib.Nat.{le_of_suc-le-suc, not-suc-le-zero, zero-lt-suc, le_refl}
use native.Mathlib.Omega.{arith}
use mathlib.Core.Path.{◌≡◌, refl, sym, ap, ◌∙◌}
use mathlib.Core.Logic.{◌⊎◌, inl, inr}
use mathlib.Core.Bool.{Bool, true, false, cond}
use Rattle.ctl.specs.Lists.{below}
use Rattle.ctl.specs.Evaluator.{table, look, round, rounds}
use Rattle.ctl.proofs.BoolLaws.{decide, true-and-false}
use Rattle.ctl.proofs.ListLaws.{get_d-below, map_same, below_out}

-- ---- rows

pub look-table : (n : ℕ) (f : ℕ → Bool) (i : ℕ) → i < n → look (table n f) i ≡ f i
look-table n f i h = get_d-below f false n i h

pub table_same : (n : ℕ) (f g : ℕ → Bool) → ((i : ℕ) → i < n → f i ≡ g i) → table n f ≡ table n g
table_same n f g h = map_same f g (below n) (λ i m. h i (below_out n m))

-- ---- counting

-- how many numbers below n pass the test
one : Bool → ℕ
one true = 1
one false = 0

count : ℕ → (ℕ → Bool) → ℕ
count zero f = 0
count (suc n) f = one (f 0) + count n (λ i. f (suc i))

one-le : (b : Bool) → one b ≤ 1
unfolding one
one-le true = le_refl 1
one-le false = zero-le

count-le : (n : ℕ) (f : ℕ → Bool) → count n f ≤ n
unfolding count
count-le zero f = le_refl 0
count-le (suc n) f = omega (arith, one-le (f 0), count-le n (λ i. f (suc i)))

count_same : (n : ℕ) (f g : ℕ → Bool) → ((i : ℕ) → i < n → f i ≡ g i) → count n f ≡ count n g
unfolding count
count_same zero f g h = refl
count_same (suc n) f g h = rw (h 0 (zero-lt-suc n), count_same n (λ i. f (suc i)) (λ i. g (suc i)) (λ i k. h (suc i) (suc-le-suc k)))

-- one test passes wherever another does: they agree, or the first passes at more places
one_more : (a b : Bool) → (a ≡ true → b ≡ true) → (a ≡ b) ⊎ (one a < one b)
unfolding one
one_more true b h = inl (sym (h refl))
one_more false true h = inr (le_refl 1)
one_more false false h = inl refl

count-more : (n : ℕ) (f g : ℕ → Bool) → ((i : ℕ) → i < n → f i ≡ true → g i ≡ true) →
    ((i : ℕ) → i < n → f i ≡ g i) ⊎ (count n f < count n g)
unfolding count
count-more zero f g h = inl (λ i k. absurd (not-suc-le-zero k))
count-more (suc n) f g h =
    go (one_more (f 0) (g 0) (h 0 (zero-lt-suc n))) (count-more n (λ i. f (suc i)) (λ i. g (suc i)) (λ i k. h (suc i) (suc-le-suc k)))
  where
    go : (f 0 ≡ g 0) ⊎ (one (f 0) < one (g 0)) →
        ((i : ℕ) → i < n → f (suc i) ≡ g (suc i)) ⊎ (count n (λ i. f (suc i)) < count n (λ i. g (suc i))) →
        ((i : ℕ) → i < suc n → f i ≡ g i) ⊎ (one (f 0) + count n (λ i. f (suc i)) < one (g 0) + count n (λ i. g (suc i)))
    go (inl e) (inl r) = inl (λ i. elim i as (λ m. m < suc n → f m ≡ g m) [ zero ↦ λ k. e | suc j ↦ λ k. r j (le_of_suc-le-suc k) ])
    go (inl e) (inr r) = inr (rw e (omega arith))
    go (inr l) (inl r) = inr (omega (arith, count_same n (λ i. f (suc i)) (λ i. g (suc i)) r))
    go (inr l) (inr r) = inr (omega arith)

-- ---- the least number that passes

-- the least k below n that passes, n if none does
least : ℕ → (ℕ → Bool) → ℕ
least zero f = 0
least (suc n) f = cond (f 0) 0 (suc (least n (λ k. f (suc k))))

least-le : (n : ℕ) (f : ℕ → Bool) (k : ℕ) → f k ≡ true → least n f ≤ k
unfolding least
least-le zero f k e = zero-le
least-le (suc n) f k e = go (decide (f 0)) k e (least-le n (λ k. f (suc k)))
  where
    go : (f 0 ≡ true) ⊎ (f 0 ≡ false) → (k : ℕ) → f k ≡ true → ((k : ℕ) → f (suc k) ≡ true → least n (λ k. f (suc k)) ≤ k) →
        cond (f 0) 0 (suc (least n (λ k. f (suc k)))) ≤ k
    go (inl d) k e r = rw d zero-le
    go (inr d) zero e r = absurd (true-and-false (f 0) e d)
    go (inr d) (suc k) e r = rw d (suc-le-suc (r k e))

least-passes : (n : ℕ) (f : ℕ → Bool) (k : ℕ) → k ≤ n → f k ≡ true → f (least n f) ≡ true
unfolding least
least-passes zero f zero h e = e
least-passes zero f (suc k) h e = absurd (not-suc-le-zero h)
least-passes (suc n) f k h e = go (decide (f 0)) k h e (least-passes n (λ k. f (suc k)))
  where
    go : (f 0 ≡ true) ⊎ (f 0 ≡ false) → (k : ℕ) → k ≤ suc n → f k ≡ true →
        ((k : ℕ) → k ≤ n → f (suc k) ≡ true → f (suc (least n (λ k. f (suc k)))) ≡ true) →
        f (cond (f 0) 0 (suc (least n (λ k. f (suc k))))) ≡ true
    go (inl d) k h e r = rw d d
    go (inr d) zero h e r = absurd (true-and-false (f 0) e d)
    go (inr d) (suc k) h e r = rw d (r k (le_of_suc-le-suc h) e)

-- ---- rounds

-- place i after k rounds; the first round after which place i is true
abbrev pub after : ℕ → ((ℕ → Bool) → ℕ → Bool) → ℕ → ℕ → Bool
after n F k i = look (rounds n F k) i

pub rank : ℕ → ((ℕ → Bool) → ℕ → Bool) → ℕ → ℕ
rank n F i = least n (λ k. after n F k i)

module _ (n : ℕ) (F : (ℕ → Bool) → ℕ → Bool) where
  pub after-zero : (i : ℕ) → i < n → after n F 0 i ≡ false
  unfolding rounds
  after-zero i h = look-table n (λ i. false) i h

  pub after-suc : (k i : ℕ) → i < n → after n F (suc k) i ≡ F (after n F k) i
  unfolding rounds
  after-suc k i h = look-table n (F (look (rounds n F k))) i h

module _ (n : ℕ) (F : (ℕ → Bool) → ℕ → Bool)
    (mono : (x y : ℕ → Bool) → ((j : ℕ) → j < n → x j ≡ true → y j ≡ true) → (i : ℕ) → i < n → F x i ≡ true → F y i ≡ true) where
  -- a round loses no place
  after-up : (k i : ℕ) → i < n → after n F k i ≡ true → after n F (suc k) i ≡ true
  after-up zero i h e = absurd (true-and-false (after n F 0 i) e (after-zero n F i h))
  after-up (suc k) i h e =
      rw (after-suc n F (suc k) i h) (mono (after n F k) (after n F (suc k)) (after-up k) i h (rw (after-suc n F k i h) at e))

  -- a table after k rounds is made of its places
  again : (k : ℕ) → rounds n F k ≡ table n (after n F k)
  unfolding rounds
  again zero = table_same n (λ i. false) (after n F 0) (λ i h. sym (after-zero n F i h))
  again (suc k) = table_same n (F (look (rounds n F k))) (after n F (suc k)) (λ i h. sym (after-suc n F k i h))

  same-places : (k m : ℕ) → ((i : ℕ) → i < n → after n F k i ≡ after n F m i) → rounds n F k ≡ rounds n F m
  same-places k m h = again k ∙ (table_same n (after n F k) (after n F m) h ∙ sym (again m))

  rests-on : (k : ℕ) → rounds n F k ≡ rounds n F (suc k) → rounds n F (suc k) ≡ rounds n F (suc (suc k))
  unfolding rounds
  rests-on k e = ap (round n F) e

  -- the rounds have come to rest at k, or k + 1 places are true after the next
  rest-or-more : (k : ℕ) → (rounds n F k ≡ rounds n F (suc k)) ⊎ (k < count n (after n F (suc k)))
  rest-or-more zero = go (count-more n (after n F 0) (after n F 1) (after-up 0))
    where
      go : ((i : ℕ) → i < n → after n F 0 i ≡ after n F 1 i) ⊎ (count n (after n F 0) < count n (after n F 1)) →
          (rounds n F 0 ≡ rounds n F 1) ⊎ (0 < count n (after n F 1))
      go (inl h) = inl (same-places 0 1 h)
      go (inr h) = inr (omega arith)
  rest-or-more (suc k) = go (rest-or-more k) (count-more n (after n F (suc k)) (after n F (suc (suc k))) (after-up (suc k)))
    where
      go : (rounds n F k ≡ rounds n F (suc k)) ⊎ (k < count n (after n F (suc k))) →
          ((i : ℕ) → i < n → after n F (suc k) i ≡ after n F (suc (suc k)) i) ⊎ (count n (after n F (suc k)) < count n (after n F (suc (suc k)))) →
          (rounds n F (suc k) ≡ rounds n F (suc (suc k))) ⊎ (suc k < count n (after n F (suc (suc k))))
      go (inl e) r = inl (rests-on k e)
      go (inr l) (inl h) = inl (same-places (suc k) (suc (suc k)) h)
      go (inr l) (inr h) = inr (omega arith)

  at_rest : rounds n F n ≡ rounds n F (suc n)
  at_rest = go (rest-or-more n)
    where
      go : (rounds n F n ≡ rounds n F (suc n)) ⊎ (n < count n (after n F (suc n))) → rounds n F n ≡ rounds n F (suc n)
      go (inl e) = e
      go (inr l) = absurd (omega (arith, count-le n (after n F (suc n))))

  -- after n rounds one more changes nothing
  pub fixed : (i : ℕ) → i < n → after n F n i ≡ F (after n F n) i
  fixed i h = ap (λ x. look x i) at_rest ∙ after-suc n F n i h

  -- what any round made true stays
  pub after-stays : (k i : ℕ) → i < n → after n F k i ≡ true → after n F n i ≡ true
  after-stays zero i h e = absurd (true-and-false (after n F 0 i) e (after-zero n F i h))
  after-stays (suc k) i h e = fixed i h ∙ mono (after n F k) (after n F n) (after-stays k) i h (sym (after-suc n F k i h) ∙ e)

  -- The rank of a place that becomes true: F holds there of places of lower rank.
  pub rank_falls : (i : ℕ) → i < n → after n F n i ≡ true → (k : ℕ) × (rank n F i ≡ suc k) × (F (after n F k) i ≡ true)
  unfolding rank
  rank_falls i h e = go (rank n F i) refl (least-passes n (λ k. after n F k i) n (le_refl n) e)
    where
      go : (r : ℕ) → rank n F i ≡ r → after n F (rank n F i) i ≡ true → (k : ℕ) × (rank n F i ≡ suc k) × (F (after n F k) i ≡ true)
      go zero p t = absurd (true-and-false (after n F 0 i) (rw p at t) (after-zero n F i h))
      go (suc k) p t = (k, p, sym (after-suc n F k i h) ∙ (rw p at t))

  pub rank-le : (k i : ℕ) → after n F k i ≡ true → rank n F i ≤ k
  unfolding rank
  rank-le k i e = least-le n (λ k. after n F k i) k e

-- What holds of the numbers below n: all, some, how many, the least. Assumes nothing.
use mathlib.Core.Path.{◌≡◌, refl, sym, ap, ap₂, ◌∙◌, fun_ext}
use mathlib.Core.Bool.{Bool, true, false, ◌&&◌, ◌||◌, cond, true≢false, false≢true, or-false, or_assoc, and-true, and_assoc}
use mathlib.Core.Logic.{◌⊎◌, inl, inr, ⊎_elim}
use Prim.Native.Nat.{ℕ, zero, suc, ◌+◌, ◌*◌, ◌≤◌, ◌<◌, suc-le-suc}
use native.Mathlib.Nat.{add-zero, add-suc, zero-add, suc-add, zero-mul, suc-mul, add_assoc, le_of_suc-le-suc, not-suc-le-zero}
use native.Mathlib.Omega.{arith}
use Rattle.wordset.specs.Below.{one, all_below, any_below, count_below, seek, least}

pub lt-or-le : (a b : ℕ) → (a < b) ⊎ (b ≤ a)
lt-or-le zero zero = inr (omega arith)
lt-or-le zero (suc b) = inl (omega arith)
lt-or-le (suc a) zero = inr (omega arith)
lt-or-le (suc a) (suc b) = ⊎_elim (λ l. inl (suc-le-suc l)) (λ g. inr (suc-le-suc g)) (lt-or-le a b)

pub same_or : (k i : ℕ) → (k ≡ i) ⊎ (k ≡ i → ⊥)
same_or k i = ⊎_elim (λ l. inr (omega arith)) (λ g. ⊎_elim (λ l. inr (omega arith)) (λ m. inl (omega arith)) (lt-or-le i k)) (lt-or-le k i)

-- i is n or below n
pub top : (i n : ℕ) → i < suc n → (i ≡ n) ⊎ (i < n)
top zero zero h = inl refl
top zero (suc n) h = inr (omega arith)
top (suc i) zero h = absurd (omega arith)
top (suc i) (suc n) h = go (top i n (le_of_suc-le-suc h))
  where
    go : (i ≡ n) ⊎ (i < n) → (suc i ≡ suc n) ⊎ (suc i < suc n)
    go (inl e) = inl (ap suc e)
    go (inr l) = inr (omega arith)

module _ (P : ℕ → Bool) where
  -- ---- all
  pub all-intro : (n : ℕ) → ((i : ℕ) → i < n → P i ≡ true) → all_below n P ≡ true
  unfolding all_below
  all-intro zero h = refl
  all-intro (suc n) h = ap₂ ◌&&◌ (all-intro n (λ i l. h i (omega arith))) (h n (omega arith))

  and_left : (a b : Bool) → (a && b) ≡ true → a ≡ true
  and_left true b e = refl
  and_left false b e = e

  and_right : (a b : Bool) → (a && b) ≡ true → b ≡ true
  and_right true b e = e
  and_right false b e = absurd (false≢true e)

  pub all-elim : (n : ℕ) → all_below n P ≡ true → (i : ℕ) → i < n → P i ≡ true
  unfolding all_below
  all-elim zero e i h = absurd (not-suc-le-zero h)
  all-elim (suc n) e i h = ⊎_elim (λ q. ap P q ∙ and_right (all_below n P) (P n) e) (λ l. all-elim n (and_left (all_below n P) (P n) e) i l) (top i n h)

  pub all-false : (n i : ℕ) → i < n → P i ≡ false → all_below n P ≡ false
  all-false n i h e = go (all_below n P) refl
    where
      go : (t : Bool) → all_below n P ≡ t → all_below n P ≡ false
      go true q = absurd (true≢false (sym (all-elim n q i h) ∙ e))
      go false q = q

  pub all-add : (m n : ℕ) → all_below (m + n) P ≡ (all_below m P && all_below n (λ j. P (m + j)))
  unfolding all_below
  all-add m zero = ap (λ (k : ℕ). all_below k P) (add-zero m) ∙ sym (and-true (all_below m P))
  all-add m (suc n) =
      ap (λ (k : ℕ). all_below k P) (add-suc m n) ∙ ap (λ (t : Bool). t && P (m + n)) (all-add m n)
      ∙ and_assoc (all_below m P) (all_below n (λ j. P (m + j))) (P (m + n))

  -- the numbers below w * n, n at a time
  pub all_blocks : (w n : ℕ) → all_below (w * n) P ≡ all_below w (λ i. all_below n (λ b. P (i * n + b)))
  unfolding all_below
  all_blocks zero n = ap (λ (k : ℕ). all_below k P) (zero-mul n)
  all_blocks (suc w) n =
      ap (λ (k : ℕ). all_below k P) (suc-mul w n) ∙ all-add (w * n) n ∙ ap (λ (t : Bool). t && all_below n (λ b. P (w * n + b))) (all_blocks w n)

  -- ---- any
  pub any_none : (n : ℕ) → ((i : ℕ) → i < n → P i ≡ false) → any_below n P ≡ false
  unfolding any_below
  any_none zero h = refl
  any_none (suc n) h = ap₂ ◌||◌ (any_none n (λ i l. h i (omega arith))) (h n (omega arith))

  or_left : (a b : Bool) → (a || b) ≡ false → a ≡ false
  or_left true b e = e
  or_left false b e = refl

  or_right : (a b : Bool) → (a || b) ≡ false → b ≡ false
  or_right true b e = absurd (true≢false e)
  or_right false b e = e

  pub any_false : (n : ℕ) → any_below n P ≡ false → (i : ℕ) → i < n → P i ≡ false
  unfolding any_below
  any_false zero e i h = absurd (not-suc-le-zero h)
  any_false (suc n) e i h = ⊎_elim (λ q. ap P q ∙ or_right (any_below n P) (P n) e) (λ l. any_false n (or_left (any_below n P) (P n) e) i l) (top i n h)

  pub any-intro : (n i : ℕ) → i < n → P i ≡ true → any_below n P ≡ true
  any-intro n i h e = go (any_below n P) refl
    where
      go : (t : Bool) → any_below n P ≡ t → any_below n P ≡ true
      go true q = q
      go false q = absurd (false≢true (sym (any_false n q i h) ∙ e))

  pub any-add : (m n : ℕ) → any_below (m + n) P ≡ (any_below m P || any_below n (λ j. P (m + j)))
  unfolding any_below
  any-add m zero = ap (λ (k : ℕ). any_below k P) (add-zero m) ∙ sym (or-false (any_below m P))
  any-add m (suc n) =
      ap (λ (k : ℕ). any_below k P) (add-suc m n) ∙ ap (λ (t : Bool). t || P (m + n)) (any-add m n)
      ∙ or_assoc (any_below m P) (any_below n (λ j. P (m + j))) (P (m + n))

  -- ---- count
  pub count_add : (m n : ℕ) → count_below (m + n) P ≡ count_below m P + count_below n (λ j. P (m + j))
  unfolding count_below
  count_add m zero = ap (λ (k : ℕ). count_below k P) (add-zero m) ∙ sym (add-zero (count_below m P))
  count_add m (suc n) =
      ap (λ (k : ℕ). count_below k P) (add-suc m n) ∙ ap (λ (k : ℕ). k + one (P (m + n))) (count_add m n)
      ∙ add_assoc (count_below m P) (count_below n (λ j. P (m + j))) (one (P (m + n)))

  pub count-front : (n : ℕ) → count_below (suc n) P ≡ one (P 0) + count_below n (λ j. P (suc j))
  unfolding count_below
  count-front zero = zero-add (one (P 0)) ∙ sym (add-zero (one (P 0)))
  count-front (suc n) = ap (λ (k : ℕ). k + one (P (suc n))) (count-front n) ∙ add_assoc (one (P 0)) (count_below n (λ j. P (suc j))) (one (P (suc n)))

  pub count-le : (n : ℕ) → count_below n P ≤ n
  unfolding count_below
  count-le zero = omega arith
  count-le (suc n) = go (P n) (count-le n)
    where
      go : (t : Bool) → count_below n P ≤ n → count_below n P + one t ≤ suc n
      go true h = omega arith
      go false h = omega arith

-- ---- least

-- the same by taking the test along: one number less, and the test at the next
low : ℕ → (ℕ → Bool) → ℕ
low zero P = 0
low (suc n) P = cond (P 0) 0 (suc (low n (λ j. P (suc j))))

seek-low : (P : ℕ → Bool) (n i : ℕ) → seek P n i ≡ i + low n (λ j. P (i + j))
unfolding seek low
seek-low P zero i = sym (add-zero i)
seek-low P (suc n) i =
    go (P i) (P (i + 0)) (ap P (sym (add-zero i)))
    (seek-low P n (suc i) ∙ ap (λ (Q : ℕ → Bool). suc i + low n Q) (fun_ext (λ j. ap P (suc-add i j ∙ sym (add-suc i j)))))
  where
    go : (s t : Bool) → s ≡ t → seek P n (suc i) ≡ suc i + low n (λ j. P (i + suc j)) → cond s i (seek P n (suc i)) ≡ i + cond t 0 (suc (low n (λ j. P (i + suc j))))
    go true true e q = sym (add-zero i)
    go true false e q = absurd (true≢false e)
    go false true e q = absurd (false≢true e)
    go false false e q = q ∙ suc-add i (low n (λ j. P (i + suc j))) ∙ sym (add-suc i (low n (λ j. P (i + suc j))))

low-is-least : (n : ℕ) (P : ℕ → Bool) → least n P ≡ low n P
low-is-least n P = seek-low P n 0 ∙ zero-add (low n (λ j. P (0 + j))) ∙ ap (low n) (fun_ext (λ j. ap P (zero-add j)))

low-le : (n : ℕ) (P : ℕ → Bool) → low n P ≤ n
unfolding low
low-le zero P = omega arith
low-le (suc n) P = go (P 0) (low-le n (λ j. P (suc j)))
  where
    go : (t : Bool) → low n (λ j. P (suc j)) ≤ n → cond t 0 (suc (low n (λ j. P (suc j)))) ≤ suc n
    go true h = omega arith
    go false h = omega arith

-- numbers that fail the test are passed over
low-skip : (m n : ℕ) (P : ℕ → Bool) → ((i : ℕ) → i < m → P i ≡ false) → low (m + n) P ≡ m + low n (λ j. P (m + j))
unfolding low
low-skip zero n P h =
    ap (λ (k : ℕ). low k P) (zero-add n) ∙ ap (low n) (fun_ext (λ j. ap P (sym (zero-add j)))) ∙ sym (zero-add (low n (λ j. P (0 + j))))
low-skip (suc m) n P h =
    ap (λ (k : ℕ). low k P) (suc-add m n) ∙ ap (λ (t : Bool). cond t 0 (suc (low (m + n) (λ j. P (suc j))))) (h 0 (omega arith))
    ∙ ap suc (low-skip m n (λ j. P (suc j)) (λ i l. h (suc i) (omega arith))
    ∙ ap (λ (Q : ℕ → Bool). m + low n Q) (fun_ext (λ j. ap P (sym (suc-add m j)))))
    ∙ sym (suc-add m (low n (λ j. P (suc m + j))))

-- the low number passes the test, where there is one, and all below it fail
low-holds : (n : ℕ) (P : ℕ → Bool) → low n P < n → P (low n P) ≡ true
unfolding low
low-holds zero P h = absurd (not-suc-le-zero h)
low-holds (suc n) P h = go (P 0) refl h (low-holds n (λ j. P (suc j)))
  where
    go : (t : Bool) → P 0 ≡ t → cond t 0 (suc (low n (λ j. P (suc j)))) < suc n
        → (low n (λ j. P (suc j)) < n → P (suc (low n (λ j. P (suc j)))) ≡ true) → P (cond t 0 (suc (low n (λ j. P (suc j))))) ≡ true
    go true e l ih = e
    go false e l ih = ih (le_of_suc-le-suc l)

low_below : (n : ℕ) (P : ℕ → Bool) (i : ℕ) → i < low n P → P i ≡ false
unfolding low
low_below zero P i h = absurd (not-suc-le-zero h)
low_below (suc n) P i h = go (P 0) refl i h (low_below n (λ j. P (suc j)))
  where
    go : (t : Bool) → P 0 ≡ t → (i : ℕ) → i < cond t 0 (suc (low n (λ j. P (suc j))))
        → ((k : ℕ) → k < low n (λ j. P (suc j)) → P (suc k) ≡ false) → P i ≡ false
    go true e i l ih = absurd (not-suc-le-zero l)
    go false e zero l ih = e
    go false e (suc k) l ih = ih k (le_of_suc-le-suc l)

pub least-le : (n : ℕ) (P : ℕ → Bool) → least n P ≤ n
least-le n P = rw low-is-least (low-le n P)

pub least-holds : (n : ℕ) (P : ℕ → Bool) → least n P < n → P (least n P) ≡ true
least-holds n P h = let e = low-is-least n P in ap P e ∙ low-holds n P (omega arith)

pub least-below : (n : ℕ) (P : ℕ → Bool) (i : ℕ) → i < least n P → P i ≡ false
least-below n P i h = let e = low-is-least n P in low_below n P i (omega arith)

-- a number that passes, with none below it, is the least
pub least-is : (n : ℕ) (P : ℕ → Bool) (i : ℕ) → i < n → P i ≡ true → ((k : ℕ) → k < i → P k ≡ false) → least n P ≡ i
least-is n P i h e b =
    ⊎_elim (λ l. absurd (true≢false (sym (least-holds n P (omega arith)) ∙ b (least n P) l)))
    (λ g. ⊎_elim (λ q. q) (λ l. absurd (true≢false (sym e ∙ least-below n P i l))) (meet g)) (lt-or-le (least n P) i)
  where
    meet : i ≤ least n P → (least n P ≡ i) ⊎ (i < least n P)
    meet g = ⊎_elim (λ q. inl (sym q)) inr (top i (least n P) (suc-le-suc g))

-- two tests that agree below n
module _ (P Q : ℕ → Bool) where
  pub any-ext : (n : ℕ) → ((i : ℕ) → i < n → P i ≡ Q i) → any_below n P ≡ any_below n Q
  unfolding any_below
  any-ext zero h = refl
  any-ext (suc n) h = ap₂ ◌||◌ (any-ext n (λ i l. h i (omega arith))) (h n (omega arith))

  pub all-ext : (n : ℕ) → ((i : ℕ) → i < n → P i ≡ Q i) → all_below n P ≡ all_below n Q
  unfolding all_below
  all-ext zero h = refl
  all-ext (suc n) h = ap₂ ◌&&◌ (all-ext n (λ i l. h i (omega arith))) (h n (omega arith))

  pub count-ext : (n : ℕ) → ((i : ℕ) → i < n → P i ≡ Q i) → count_below n P ≡ count_below n Q
  unfolding count_below
  count-ext zero h = refl
  count-ext (suc n) h = ap₂ (λ (k : ℕ) (t : Bool). k + one t) (count-ext n (λ i l. h i (omega arith))) (h n (omega arith))

low-ext : (n : ℕ) (P Q : ℕ → Bool) → ((i : ℕ) → i < n → P i ≡ Q i) → low n P ≡ low n Q
unfolding low
low-ext zero P Q h = refl
low-ext (suc n) P Q h =
    ap₂ (λ (t : Bool) (r : ℕ). cond t 0 (suc r)) (h 0 (omega arith)) (low-ext n (λ j. P (suc j)) (λ j. Q (suc j)) (λ i l. h (suc i) (omega arith)))

-- the least number, from the test of 0 up: for definitions that recurse so
pub least_zero : (P : ℕ → Bool) → least 0 P ≡ 0
unfolding seek
least_zero P = refl

pub least-suc : (n : ℕ) (P : ℕ → Bool) → least (suc n) P ≡ cond (P 0) 0 (suc (least n (λ j. P (suc j))))
unfolding low
least-suc n P = low-is-least (suc n) P ∙ ap (λ (k : ℕ). cond (P 0) 0 (suc k)) (sym (low-is-least n (λ j. P (suc j))))

-- some number passes exactly if there is a least one
pub least_lt : (n : ℕ) (P : ℕ → Bool) → any_below n P ≡ true → least n P < n
least_lt n P e = ⊎_elim (λ l. l) (λ g. absurd (false≢true (sym (any_none P n (λ i l. least-below n P i (omega arith))) ∙ e))) (lt-or-le (least n P) n)

pub least-none : (n : ℕ) (P : ℕ → Bool) → any_below n P ≡ false → least n P ≡ n
least-none n P e = ⊎_elim (λ l. absurd (true≢false (sym (least-holds n P l) ∙ any_false P n e (least n P) l))) (λ g. (let u = least-le n P in omega arith)) (lt-or-le (least n P) n)

-- none below n, none below a smaller m
pub any-less : (P : ℕ → Bool) (m n : ℕ) → m ≤ n → any_below n P ≡ false → any_below m P ≡ false
any-less P m n h e = any_none P m (λ i l. any_false P n e i (omega arith))

pub any-more : (P : ℕ → Bool) (m n : ℕ) → m ≤ n → any_below m P ≡ true → any_below n P ≡ true
any-more P m n h e = go (any_below n P) refl
  where
    go : (t : Bool) → any_below n P ≡ t → any_below n P ≡ true
    go true q = q
    go false q = absurd (false≢true (sym (any-less P m n h q) ∙ e))

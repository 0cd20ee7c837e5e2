-- Lists searched, kept and counted by a test, and the numbers below a bound. Assumes nothing.
use mathlib.Core.Path.{◌≡◌, refl, sym, ap, ap₂, ◌∙◌, subst}
use mathlib.Core.Logic.{◌⊎◌, inl, inr, ◌↔◌}
use mathlib.Core.Bool.{Bool, true, false, cond, ◌&&◌}
use mathlib.Core.List.Memᴰ
use mathlib.Core.List.{List, [], ◌∷◌, ◌++◌, map}
use Prim.Native.Nat.{ℕ, zero, suc, ◌+◌, ◌≤◌, ◌<◌}
use native.Mathlib.Omega.{arith}
use native.Mathlib.Decide.{dec_le}
use lib.Dec.{T, eqb, eqb→eq, eqb_refl}
use lib.ListN.{length, get_or}
use Rattle.ctl.specs.Lists.{◌∈◌, put, any_of, all_of, keep, elem, count_from, below}
use Rattle.ctl.proofs.BoolLaws.{true-T, T_true, both_ways, decide, decide_T, and_in, and_0, and-1, or-0, or-1, or-out, true-and-false}

module _ {ℓ} {A : Type ℓ} where
  pub any-in : (p : A → Bool) {x : A} {l : List A} → x ∈ l → T (p x) → T (any_of p l)
  any-in p (Memᴰ.head {x = y} {xs = ys} e) t = or-0 (p y) (any_of p ys) (subst (λ z. T (p z)) e t)
  any-in p (Memᴰ.tail {x = y} {xs = ys} m) t = or-1 (p y) (any_of p ys) (any-in p m t)

  pub any_out : (p : A → Bool) (l : List A) → T (any_of p l) → (x : A) × (x ∈ l) × T (p x)
  any_out p [] t = absurd t
  any_out p (x ∷ xs) t = go (or-out (p x) (any_of p xs) t) (any_out p xs)
    where
      go : T (p x) ⊎ T (any_of p xs) → (T (any_of p xs) → (y : A) × (y ∈ xs) × T (p y)) → (y : A) × (y ∈ x ∷ xs) × T (p y)
      go (inl s) rec = (x, Memᴰ.head refl, s)
      go (inr s) rec = let r = rec s in (r.0, Memᴰ.tail r.1, r.2)

  pub all_in : (p : A → Bool) (l : List A) → ((x : A) → x ∈ l → T (p x)) → T (all_of p l)
  all_in p [] f = tt
  all_in p (x ∷ xs) f = and_in (p x) (all_of p xs) (f x (Memᴰ.head refl)) (all_in p xs (λ y m. f y (Memᴰ.tail m)))

  pub all-out : (p : A → Bool) {x : A} {l : List A} → T (all_of p l) → x ∈ l → T (p x)
  all-out p t (Memᴰ.head {x = y} {xs = ys} e) = subst (λ z. T (p z)) (sym e) (and_0 (p y) (all_of p ys) t)
  all-out p t (Memᴰ.tail {x = y} {xs = ys} m) = all-out p (and-1 (p y) (all_of p ys) t) m

  -- a test that fails somewhere fails at an element
  pub not-all : (p : A → Bool) (l : List A) → (T (all_of p l) → ⊥) → (x : A) × (x ∈ l) × (T (p x) → ⊥)
  not-all p [] f = absurd (f tt)
  not-all p (x ∷ xs) f = go (decide_T (p x)) (not-all p xs)
    where
      go : T (p x) ⊎ (T (p x) → ⊥) → ((T (all_of p xs) → ⊥) → (y : A) × (y ∈ xs) × (T (p y) → ⊥)) → (y : A) × (y ∈ x ∷ xs) × (T (p y) → ⊥)
      go (inr s) rec = (x, Memᴰ.head refl, s)
      go (inl s) rec = let r = rec (λ t. f (and_in (p x) (all_of p xs) s t)) in (r.0, Memᴰ.tail r.1, r.2)

  -- a list without members is empty
  pub none_in : (l : List A) → ((x : A) → x ∈ l → ⊥) → l ≡ []
  none_in [] f = refl
  none_in (x ∷ l) f = absurd (f x (Memᴰ.head refl))

  pub put_in : (b : Bool) {x y : A} (l : List A) → T b → y ≡ x → y ∈ put b x l
  put_in true l t e = Memᴰ.head e
  put_in false l t e = absurd t

  pub put_rest : (b : Bool) (x : A) {y : A} {l : List A} → y ∈ l → y ∈ put b x l
  put_rest true x m = Memᴰ.tail m
  put_rest false x m = m

  pub put-out : (b : Bool) {x y : A} {l : List A} → y ∈ put b x l → (T b × (y ≡ x)) ⊎ (y ∈ l)
  put-out true (Memᴰ.head e) = inl (tt, e)
  put-out true (Memᴰ.tail m) = inr m
  put-out false m = inr m

  pub keep-in : (p : A → Bool) {x : A} {l : List A} → x ∈ l → T (p x) → x ∈ keep p l
  keep-in p (Memᴰ.head {x = y} {xs = ys} e) t = put_in (p y) (keep p ys) (subst (λ z. T (p z)) e t) e
  keep-in p (Memᴰ.tail {x = y} {xs = ys} m) t = put_rest (p y) y (keep-in p m t)

  pub keep_out : (p : A → Bool) {x : A} (l : List A) → x ∈ keep p l → (x ∈ l) × T (p x)
  keep_out p [] m = absurd (Memᴰ.not-nil m)
  keep_out p {x} (y ∷ ys) m = go (put-out (p y) m) (λ k. keep_out p ys k)
    where
      go : (T (p y) × (x ≡ y)) ⊎ (x ∈ keep p ys) → (x ∈ keep p ys → (x ∈ ys) × T (p x)) → (x ∈ y ∷ ys) × T (p x)
      go (inl s) rec = (Memᴰ.head s.1, subst (λ z. T (p z)) (sym s.1) s.0)
      go (inr k) rec = (Memᴰ.tail (rec k).0, (rec k).1)

  pub put-length : (b : Bool) (x : A) (l : List A) (n : ℕ) → length l ≤ n → length (put b x l) ≤ suc n
  put-length true x l n h = omega arith
  put-length false x l n h = omega arith

  pub keep-length : (p : A → Bool) (l : List A) → length (keep p l) ≤ length l
  keep-length p [] = omega arith
  keep-length p (x ∷ xs) = put-length (p x) x (keep p xs) (length xs) (keep-length p xs)

  -- what a test keeps is everything, or is shorter
  pub keep_all : (p : A → Bool) (l : List A) → ((x : A) → x ∈ l → T (p x)) → keep p l ≡ l
  keep_all p [] f = refl
  keep_all p (x ∷ xs) f = rw (true-T (p x) (f x (Memᴰ.head refl))) (ap (λ r. x ∷ r) (keep_all p xs (λ y m. f y (Memᴰ.tail m))))

  pub keep-full : (p : A → Bool) (l : List A) → length l ≤ length (keep p l) → (x : A) → x ∈ l → T (p x)
  keep-full p [] h x m = absurd (Memᴰ.not-nil m)
  keep-full p (y ∷ ys) h x m = go (p y) refl h (Memᴰ.cases_cons m) (λ k. keep-full p ys k x)
    where
      go : (b : Bool) → p y ≡ b → length (y ∷ ys) ≤ length (put b y (keep p ys)) → (x ≡ y) ⊎ (x ∈ ys) → (length ys ≤ length (keep p ys) → x ∈ ys → T (p x)) → T (p x)
      go true e k (inl i) rec = T_true (p x) (ap p i ∙ e)
      go true e k (inr i) rec = rec (omega arith) i
      go false e k c rec = absurd (let l = keep-length p ys in omega arith)

  -- the same elements kept by two tests that agree
  pub keep_same : (p q : A → Bool) (l : List A) → ((x : A) → x ∈ l → p x ≡ q x) → keep p l ≡ keep q l
  keep_same p q [] f = refl
  keep_same p q (x ∷ xs) f = rw (f x (Memᴰ.head refl), keep_same p q xs (λ y m. f y (Memᴰ.tail m)))

  -- kept by one test, and then by another
  pub keep-twice : (p q : A → Bool) (l : List A) → keep q (keep p l) ≡ keep (λ x. p x && q x) l
  keep-twice p q [] = refl
  keep-twice p q (x ∷ l) = go (p x) (keep-twice p q l)
    where
      go : (b : Bool) → keep q (keep p l) ≡ keep (λ y. p y && q y) l → keep q (put b x (keep p l)) ≡ put (b && q x) x (keep (λ y. p y && q y) l)
      go true e = ap (put (q x) x) e
      go false e = e

  pub any_same : (p q : A → Bool) (l : List A) → ((x : A) → x ∈ l → p x ≡ q x) → any_of p l ≡ any_of q l
  any_same p q [] f = refl
  any_same p q (x ∷ xs) f = rw (f x (Memᴰ.head refl), any_same p q xs (λ y m. f y (Memᴰ.tail m)))

  pub all_same : (p q : A → Bool) (l : List A) → ((x : A) → x ∈ l → p x ≡ q x) → all_of p l ≡ all_of q l
  all_same p q [] f = refl
  all_same p q (x ∷ xs) f = rw (f x (Memᴰ.head refl), all_same p q xs (λ y m. f y (Memᴰ.tail m)))

  -- a list of one element
  pub one_list : (l : List A) {x : A} → length l ≡ 1 → x ∈ l → l ≡ x ∷ []
  one_list [] e m = absurd (Memᴰ.not-nil m)
  one_list (y ∷ []) e m = ap (λ z. z ∷ []) (sym (Memᴰ.eq_of_singleton m))
  one_list (y ∷ (z ∷ l)) e m = absurd (omega arith)

-- ---- lists that are mapped

module _ {A B : Type 0} where
  pub map-in : (f : A → B) {x : A} {l : List A} → x ∈ l → f x ∈ map f l
  map-in f (Memᴰ.head e) = Memᴰ.head (ap f e)
  map-in f (Memᴰ.tail m) = Memᴰ.tail (map-in f m)

  pub map-out : (f : A → B) {y : B} (l : List A) → y ∈ map f l → (x : A) × (x ∈ l) × (y ≡ f x)
  map-out f [] m = absurd (Memᴰ.not-nil m)
  map-out f {y} (x ∷ l) m = go (Memᴰ.cases_cons m) (λ k. map-out f l k)
    where
      go : (y ≡ f x) ⊎ (y ∈ map f l) → (y ∈ map f l → (z : A) × (z ∈ l) × (y ≡ f z)) → (z : A) × (z ∈ x ∷ l) × (y ≡ f z)
      go (inl e) rec = (x, Memᴰ.head refl, e)
      go (inr k) rec = let r = rec k in (r.0, Memᴰ.tail r.1, r.2)

  pub map_same : (f g : A → B) (l : List A) → ((x : A) → x ∈ l → f x ≡ g x) → map f l ≡ map g l
  map_same f g [] h = refl
  map_same f g (x ∷ l) h = ap₂ ◌∷◌ (h x (Memᴰ.head refl)) (map_same f g l (λ y m. h y (Memᴰ.tail m)))

-- ---- lists of numbers

pub elem_in : {n : ℕ} {l : List ℕ} → n ∈ l → T (elem n l)
unfolding elem
elem_in {n} m = any-in (eqb n) m (eqb_refl n)

pub elem_out : (n : ℕ) (l : List ℕ) → T (elem n l) → n ∈ l
unfolding elem
elem_out n l t = let r = any_out (eqb n) l t in Memᴰ.cast (eqb→eq n r.0 r.2) r.1

count_from-in : (a n i : ℕ) → a ≤ i → i < a + n → i ∈ count_from a n
count_from-in a zero i h k = absurd (omega arith)
count_from-in a (suc n) i h k = go (dec_le i a) (count_from-in (suc a) n i)
  where
    go : Dec (i ≤ a) → (suc a ≤ i → i < suc a + n → i ∈ count_from (suc a) n) → i ∈ a ∷ count_from (suc a) n
    go (yes l) rec = let e : i ≡ a = omega arith in Memᴰ.head e
    go (no l) rec = Memᴰ.tail (rec (omega arith) (omega arith))

pub count_from-out : (a n : ℕ) {i : ℕ} → i ∈ count_from a n → (a ≤ i) × (i < a + n)
count_from-out a zero m = absurd (Memᴰ.not-nil m)
count_from-out a (suc n) {i} m = go (Memᴰ.cases_cons m) (λ k. count_from-out (suc a) n k)
  where
    go : (i ≡ a) ⊎ (i ∈ count_from (suc a) n) → (i ∈ count_from (suc a) n → (suc a ≤ i) × (i < suc a + n)) → (a ≤ i) × (i < a + suc n)
    go (inl e) rec = omega arith
    go (inr k) rec = let r = rec k in omega arith

pub below_in : {i n : ℕ} → i < n → i ∈ below n
below_in {i} {n} h = count_from-in 0 n i (omega arith) (omega arith)

pub below_out : (n : ℕ) {i : ℕ} → i ∈ below n → i < n
below_out n m = let r = count_from-out 0 n m in omega arith

-- the numbers below n that pass a test
pub kept-below : (P : ℕ → Bool) (n k : ℕ) → (k ∈ keep P (below n)) ↔ ((k < n) × T (P k))
kept-below P n k = (λ m. (let w = keep_out P (below n) m in (below_out n w.0, w.1)), λ h. keep-in P (below_in h.0) h.1)

-- the number at a place of those mapped
pub get_d-count : {A : Type 0} (f : ℕ → A) (d : A) (a n k : ℕ) → k < n → get_or (map f (count_from a n)) k d ≡ f (a + k)
get_d-count f d a zero k h = absurd (omega arith)
get_d-count f d a (suc n) zero h = ap f (omega arith)
get_d-count f d a (suc n) (suc k) h = get_d-count f d (suc a) n k (omega arith) ∙ ap f (omega arith)

pub get_d-below : {A : Type 0} (f : ℕ → A) (d : A) (n k : ℕ) → k < n → get_or (map f (below n)) k d ≡ f k
get_d-below f d n k h = get_d-count f d 0 n k h ∙ ap f (omega arith)

pub length-count : (a n : ℕ) → length (count_from a n) ≡ n
length-count a zero = refl
length-count a (suc n) = ap suc (length-count (suc a) n)

-- no more of them pass a test than there are
pub kept-few : (P : ℕ → Bool) (n : ℕ) → length (keep P (below n)) ≤ n
kept-few P n = subst (λ m. length (keep P (below n)) ≤ m) (length-count 0 n) (keep-length P (below n))

-- ---- as many places pass a test as elements do

pub length-put : {A : Type 0} (b : Bool) (x : A) (l : List A) → length (put b x l) ≡ cond b (suc (length l)) (length l)
length-put true x l = refl
length-put false x l = refl

keep-shift : (q : ℕ → Bool) (a n : ℕ) → length (keep q (count_from (suc a) n)) ≡ length (keep (λ i. q (suc i)) (count_from a n))
keep-shift q a zero = refl
keep-shift q a (suc n) = length-put (q (suc a)) (suc a) (keep q (count_from (suc (suc a)) n)) ∙ ap (λ m. cond (q (suc a)) (suc m) m) (keep-shift q (suc a) n) ∙ sym (length-put (q (suc a)) a (keep (λ i. q (suc i)) (count_from (suc a) n)))

pub keep-places : {A : Type 0} (P : A → Bool) (d : A) (l : List A) → length (keep (λ i. P (get_or l i d)) (below (length l))) ≡ length (keep P l)
keep-places P d [] = refl
keep-places P d (x ∷ l) =
    length-put (P x) 0 (keep (λ i. P (get_or (x ∷ l) i d)) (count_from 1 (length l)))
    ∙ ap (λ m. cond (P x) (suc m) m) (keep-shift (λ i. P (get_or (x ∷ l) i d)) 0 (length l) ∙ keep-places P d l)
    ∙ sym (length-put (P x) x (keep P l))

-- ---- some, each number below n

pub any-make : (n : ℕ) (f : ℕ → Bool) (i : ℕ) → i < n → f i ≡ true → any_of f (below n) ≡ true
any-make n f i h e = true-T (any_of f (below n)) (any-in f (below_in h) (T_true (f i) e))

pub any-find : (n : ℕ) (f : ℕ → Bool) → any_of f (below n) ≡ true → (i : ℕ) × (i < n) × (f i ≡ true)
any-find n f e = let r = any_out f (below n) (T_true (any_of f (below n)) e) in (r.0, below_out n r.1, true-T (f r.0) r.2)

pub all-make : (n : ℕ) (f : ℕ → Bool) → ((i : ℕ) → i < n → f i ≡ true) → all_of f (below n) ≡ true
all-make n f h = true-T (all_of f (below n)) (all_in f (below n) (λ i m. T_true (f i) (h i (below_out n m))))

pub all-at : (n : ℕ) (f : ℕ → Bool) → all_of f (below n) ≡ true → (i : ℕ) → i < n → f i ≡ true
all-at n f e i h = true-T (f i) (all-out f (T_true (all_of f (below n)) e) (below_in h))

-- a number below n that passes, or none passes
pub find : (n : ℕ) (f : ℕ → Bool) → ((i : ℕ) × (i < n) × (f i ≡ true)) ⊎ ((i : ℕ) → i < n → f i ≡ false)
find n f = go (decide (any_of f (below n)))
  where
    fails : any_of f (below n) ≡ false → (i : ℕ) → i < n → (f i ≡ true) ⊎ (f i ≡ false) → f i ≡ false
    fails e i h (inl t) = absurd (true-and-false (any_of f (below n)) (any-make n f i h t) e)
    fails e i h (inr t) = t

    go : (any_of f (below n) ≡ true) ⊎ (any_of f (below n) ≡ false) → ((i : ℕ) × (i < n) × (f i ≡ true)) ⊎ ((i : ℕ) → i < n → f i ≡ false)
    go (inl e) = inl (any-find n f e)
    go (inr e) = inr (λ i h. fails e i h (decide (f i)))

-- ---- ascending lists

-- ascending, from a on
abbrev pub Ascending : ℕ → List ℕ → Type 0
Ascending a [] = Unit {0}
Ascending a (x ∷ l) = (a ≤ x) × Ascending (suc x) l

ascending-from : (a b : ℕ) (l : List ℕ) → a ≤ b → Ascending b l → Ascending a l
ascending-from a b [] h s = tt
ascending-from a b (x ∷ l) h s = (let k = s.0 in omega arith, s.1)

pub ascending-count : (a n : ℕ) → Ascending a (count_from a n)
ascending-count a zero = tt
ascending-count a (suc n) = (omega arith, ascending-count (suc a) n)

pub ascending-keep : (p : ℕ → Bool) (a : ℕ) (l : List ℕ) → Ascending a l → Ascending a (keep p l)
ascending-keep p a [] s = tt
ascending-keep p a (x ∷ l) s = go (p x) (ascending-keep p (suc x) l s.1)
  where
    go : (b : Bool) → Ascending (suc x) (keep p l) → Ascending a (put b x (keep p l))
    go true r = (s.0, r)
    go false r = ascending-from a (suc x) (keep p l) (let k = s.0 in omega arith) r

pub ascending-least : (a : ℕ) (l : List ℕ) → Ascending a l → (x : ℕ) → x ∈ l → a ≤ x
ascending-least a [] s x m = absurd (Memᴰ.not-nil m)
ascending-least a (y ∷ l) s x m = go (Memᴰ.cases_cons m) (ascending-least (suc y) l s.1 x)
  where
    go : (x ≡ y) ⊎ (x ∈ l) → (x ∈ l → suc y ≤ x) → a ≤ x
    go (inl e) rec = let k = s.0 in omega arith
    go (inr i) rec = let k = s.0 in let h = rec i in omega arith

-- what a test keeps, as a test
pub elem-keep : (p : ℕ → Bool) (l : List ℕ) (x : ℕ) → elem x (keep p l) ≡ (elem x l && p x)
elem-keep p l x = both_ways (elem x (keep p l)) (elem x l && p x)
    (λ h. let r = keep_out p l (elem_out x (keep p l) h) in and_in (elem x l) (p x) (elem_in r.0) r.1)
    (λ h. elem_in (keep-in p (elem_out x l (and_0 (elem x l) (p x) h)) (and-1 (elem x l) (p x) h)))

-- ---- the entries of a list

pub get_d-in : {A : Type 0} (d : A) (l : List A) (k : ℕ) → k < length l → get_or l k d ∈ l
get_d-in d [] k h = absurd (omega arith)
get_d-in d (x ∷ l) zero h = Memᴰ.head refl
get_d-in d (x ∷ l) (suc k) h = Memᴰ.tail (get_d-in d l k (omega arith))

-- ---- what is kept of numbers up to one, and of those from there on

put-append : (b : Bool) (x : ℕ) (k l : List ℕ) → put b x k ++ l ≡ put b x (k ++ l)
put-append true x k l = refl
put-append false x k l = refl

pub keep-count : (P : ℕ → Bool) (a m n b k : ℕ) → b ≡ a + m → k ≡ m + n → keep P (count_from a m) ++ keep P (count_from b n) ≡ keep P (count_from a k)
keep-count P a zero n b k e f = let i : b ≡ a = omega arith in let j : n ≡ k = omega arith in rw (i, j) refl
keep-count P a (suc m) n b zero e f = absurd (omega arith)
keep-count P a (suc m) n b (suc k) e f =
    put-append (P a) a (keep P (count_from (suc a) m)) (keep P (count_from b n)) ∙ ap (put (P a) a) (keep-count P (suc a) m n b k (omega arith) (omega arith))

pub keep-next : (P : ℕ → Bool) (k : ℕ) (b : Bool) → b ≡ P k → keep P (below (k + 1)) ≡ keep P (below k) ++ put b k []
keep-next P k b e = sym (keep-count P 0 k 1 k (k + 1) (omega arith) refl) ∙ ap (λ c. keep P (below k) ++ put c k []) (sym e)
